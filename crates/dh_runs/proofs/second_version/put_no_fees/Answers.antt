use Rattle.std.proofs.Common.{◌≡◌, ◌∙◌, ◌∷◌, [], refl, sym, ap, subst, ℕ, List, drop, Ok, arith}
use Rattle.std.specs.FinMap.{get}
use Rattle.sqlite.specs.State.{HasCleanDisk}
use Rattle.sqlite.specs.Held.{state}
use Rattle.dh_types.specs.declared.run.Part.{Part}
use Rattle.dh_types.specs.declared.fee.PartFee.{PartFee}
use Rattle.dh_model.specs.Books.{Books}
use Rattle.dh_model.specs.Runs.{part_key}
use Rattle.dh_schema.specs.Store.{tables}
use Rattle.dh_schema.specs.Putting.{TurnsBooks}
use Rattle.dh_runs.specs.Putting.{with_fees}
use Rattle.dh_schema.proofs.Putting.{nothing_put, puts_failed}
use Rattle.dh_runs.proofs.Putting.{puts_both}
use Rattle.dh_runs.specs.Migrated.{no_fee, with_no_fees}
use Rattle.dh_runs.proofs.EachFee.{all_left, is_new, none_put, not_there, one_more, tail_is}
use Rattle.dh_runs.proofs.second_version.put_no_fees.Goals as goal

pub loop-left-init : goal.loop-left-init
loop-left-init g c =
    let s = state g.S.Store c.args.tx.now.conn.now in
    let parts = c.args.parts.now in record {
      same_reference = refl;
      within = omega arith;
      puts = subst (λ (rest : List Part). TurnsBooks (with_no_fees rest) (Ok tt) s s) (sym (all_left parts))
          (nothing_put s c.requires.writing (sym (none_put (tables s).books)));
    }

pub put_fee-requires-clause-writing : goal.put_fee-requires-clause-writing
put_fee-requires-clause-writing g c clean = (c.loop-left.invariant.puts.put clean).0

pub put_fee-requires-clause-known : goal.put_fee-requires-clause-known
put_fee-requires-clause-known g c clean =
    let old = state g.S.Store c.args.tx.now.conn.now in
    let now = state g.S.Store c.loop-left.tx.conn.now in
    let puts = c.loop-left.invariant.puts in
    let early : HasCleanDisk old = omega (arith, puts.crash.clean, clean) in
    let left = c.loop-left.left in
    let parts = c.args.parts.now in
    let part = c.index-parts-left.result in
    let put = (puts.put clean).1 in
    let new = is_new parts left part (omega arith) c.loop-left.invariant.within c.index-parts-left.is (tables old).books (c.requires.none early) in
    not_there part c.no_fee.result (tables now) c.no_fee.ensures (ap (λ (b : Books). b.version) put ∙ c.requires.second early)
    (ap (λ (b : Books). get b.part_fees (part_key part)) put ∙ new)

pub loop-left-preserved : goal.loop-left-preserved
loop-left-preserved g c =
    let parts = c.args.parts.now in
    let left = c.loop-left.left in
    let part = c.index-parts-left.result in
    let rest = drop left parts in
    let old = state g.S.Store c.args.tx.now.conn.now in
    let now = state g.S.Store c.loop-left.tx.conn.now in
    let new = state g.S.Store c.put_fee.new.tx.conn.now in
    let tail = tail_is parts left part (omega arith) c.loop-left.invariant.within c.index-parts-left.is in
    let put = subst (λ (fee : PartFee). TurnsBooks (with_fees (fee ∷ [])) (Ok tt) now new) c.no_fee.ensures c.in_ok-put_fee.ensures.puts in
    let more = puts_both (with_fees (no_fee part ∷ [])) c.loop-left.invariant.puts put in
    let next = one_more part rest ∙ ap with_no_fees (sym tail) in
    record {
      same_reference = c.put_fee.ensures.same_reference ∙ c.loop-left.invariant.same_reference;
      within = omega arith;
      puts = subst (λ (turned : Books → Books). TurnsBooks turned (Ok tt) old new) next more;
    }

pub returns-in_err-put_fee-clause-same_reference : goal.returns-in_err-put_fee-clause-same_reference
returns-in_err-put_fee-clause-same_reference g c = c.put_fee.ensures.same_reference ∙ c.loop-left.invariant.same_reference

pub returns-in_err-put_fee-clause-puts : goal.returns-in_err-put_fee-clause-puts
returns-in_err-put_fee-clause-puts g c =
    puts_failed _ c.from_residual.ensures.1 (puts_both (with_fees (c.no_fee.result ∷ [])) c.loop-left.invariant.puts c.in_err-put_fee.ensures.puts)

pub returns-clause-puts : goal.returns-clause-puts
returns-clause-puts g c =
    let parts = c.args.parts.now in
    let old = state g.S.Store c.args.tx.now.conn.now in
    let new = state g.S.Store c.loop-left.tx.conn.now in
    let none : c.loop-left.left ≡ 0 = omega arith in
    subst (λ (n : ℕ). TurnsBooks (with_no_fees (drop n parts)) (Ok tt) old new) none c.loop-left.invariant.puts
