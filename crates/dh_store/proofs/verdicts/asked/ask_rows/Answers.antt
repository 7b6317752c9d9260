use Rattle.std.proofs.Common.{◌∙◌, refl, arith}
use Rattle.sqlite.specs.State.{HasCleanDisk}
use Rattle.sqlite.specs.Held.{state}
use Rattle.dh_schema.specs.Store.{tables}
use Rattle.dh_schema.proofs.Keyed.{books_are_keyed}
use Rattle.dh_store.proofs.Shown.{bare_of, cut_of}
use Rattle.dh_store.proofs.verdicts.asked.ask_rows.Goals as goal

pub gather_rows-requires : goal.gather_rows-requires
gather_rows-requires g c clean = ((c.requires.ready clean).0, c.version-version.ensures ∙ (c.requires.ready clean).1.2)

pub returns-clause-verdict : goal.returns-clause-verdict
returns-clause-verdict g c clean =
    let old = state g.S.Store c.args.conn.now in
    let late : HasCleanDisk (state g.S.Store c.gather_rows.new.conn) = omega (arith, c.count_for.ensures.reads.crash.clean, clean) in
    let early : HasCleanDisk old = omega (arith, c.gather_rows.ensures.reads.crash.clean, late) in
    let months = (c.requires.ready early).1 in
    let made = c.new-books.ensures
    ∙ bare_of (tables old) _ _ _ (c.version-version.ensures ∙ months.2) (c.first.ensures ∙ months.0) (c.next.ensures ∙ months.1) in
    c.in_ok-decide_on.ensures (tables old).books (tables old).open_run (books_are_keyed old.now.trees)
    (cut_of c.args.command.now (tables old) _ _ _ _ (c.in_ok-gather_rows.ensures.reads.done late).1
    (c.in_ok-gather_rows.ensures.gathered (tables old) (λ first. (refl, made)) late).1 (c.requires.month early) (c.in_ok-receipts.ensures.counted clean))
