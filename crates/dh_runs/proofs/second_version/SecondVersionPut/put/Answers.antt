use Rattle.std.proofs.Common.{◌≡◌, ◌∙◌, sym, ap, subst, List, arith}
use Rattle.std.specs.FinMap.{values}
use Rattle.sqlite.specs.State.{HasCleanDisk}
use Rattle.sqlite.specs.Held.{state}
use Rattle.dh_types.specs.declared.run.Part.{Part}
use Rattle.dh_model.specs.Books.{Books}
use Rattle.dh_schema.specs.Store.{tables}
use Rattle.dh_schema.proofs.Keyed.{books_are_keyed}
use Rattle.dh_schema.proofs.Putting.{puts_failed}
use Rattle.dh_runs.proofs.Putting.{puts_both}
use Rattle.dh_runs.specs.Migrated.{HaveNoFees, with_no_fees}
use Rattle.dh_runs.proofs.EachFee.{none_has_a_fee}
use Rattle.dh_runs.proofs.Grown.{as_migrated, no_fee_rows}
use Rattle.dh_runs.proofs.second_version.SecondVersionPut.put.Goals as goal

pub put_no_fees-requires-clause-second : goal.put_no_fees-requires-clause-second
put_no_fees-requires-clause-second g c clean = ap (λ (b : Books). b.version) (c.in_ok-make_second.ensures.puts.put clean).1

pub put_no_fees-requires-clause-none : goal.put_no_fees-requires-clause-none
put_no_fees-requires-clause-none g c clean =
    let old = state g.S.Store c.args.tx.now.conn.now in
    let mid = state g.S.Store c.make_second.new.tx.conn.now in
    let puts = c.in_ok-make_second.ensures.puts in
    let early : HasCleanDisk old = omega (arith, puts.crash.clean, clean) in
    let was = (puts.put clean).1 in
    let none = ap (λ (b : Books). b.part_fees) was ∙ no_fee_rows old (c.requires.room early).0 in
    let all : c.args.self.now.parts.now ≡ values (tables mid).books.parts = (c.requires.room early).1 ∙ ap (λ (b : Books). values b.parts) (sym was) in
    subst (λ (parts : List Part). HaveNoFees parts (tables mid).books) (sym all)
    (none_has_a_fee (tables mid).books none (books_are_keyed mid.now.trees))

pub returns-in_err-make_second-clause-puts : goal.returns-in_err-make_second-clause-puts
returns-in_err-make_second-clause-puts g c = puts_failed _ c.from_residual.ensures.1 c.in_err-make_second.ensures.puts

pub returns-clause-puts : goal.returns-clause-puts
returns-clause-puts g c =
    let old = state g.S.Store c.args.tx.now.conn.now in
    let new = state g.S.Store c.put_no_fees.new.tx.conn.now in
    let parts = c.args.self.now.parts.now in
    as_migrated parts c.put_no_fees.result old new (λ clean. (c.requires.room clean).0) (λ clean. (c.requires.room clean).1)
    (puts_both (with_no_fees parts) c.in_ok-make_second.ensures.puts c.put_no_fees.ensures.puts)
