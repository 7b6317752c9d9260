use Rattle.std.proofs.Common.{◌≡◌, ◌∙◌, ◌+◌, ◌++◌, refl, sym, ap, subst, List, [], ◌∷◌, take, Ok, arith}
use Rattle.std.proofs.lemmas.List.{take_all, take_more}
use Rattle.std.specs.FinMap.{get}
use Rattle.sqlite.specs.State.{HasCleanDisk}
use Rattle.sqlite.specs.Held.{state}
use Rattle.dh_types.specs.declared.lease.Charge.{Charge}
use Rattle.dh_model.specs.Books.{Books}
use Rattle.dh_model.specs.Runs.{charge_key}
use Rattle.dh_schema.specs.Store.{tables}
use Rattle.dh_schema.specs.Putting.{Puts, TurnsBooks}
use Rattle.dh_schema.proofs.Putting.{nothing_put, puts_failed}
use Rattle.dh_runs.specs.Putting.{with_charge}
use Rattle.dh_runs.proofs.EachCharge.{is_new, with_all, with_each, with_each_more}
use Rattle.dh_runs.proofs.Putting.{puts_both}
use Rattle.dh_runs.proofs.rows.put_each_charge.Goals as goal

pub loop-charge-init : goal.loop-charge-init
loop-charge-init g c = record {
  same_reference = refl;
  puts = nothing_put (state g.S.Store c.args.tx.now.conn.now) c.requires.writing refl;
}

pub put_charge-requires-clause-fresh : goal.put_charge-requires-clause-fresh
put_charge-requires-clause-fresh g c clean =
    let old = state g.S.Store c.args.tx.now.conn.now in
    let charges = c.args.charges.now in
    let charge = c.charge-item.result in
    let puts = c.loop-charge.invariant.puts in
    let early : HasCleanDisk old = omega (arith, puts.crash.clean, clean) in
    ap (λ (books : Books). get books.charges (charge_key charge)) (puts.put clean).1
    ∙ is_new c.loop-charge.charge-index charges charge (tables old).books (c.requires.new early) c.loop-charge-test.true c.charge-item.is

pub loop-charge-preserved : goal.loop-charge-preserved
loop-charge-preserved g c =
    let charges = c.args.charges.now in
    let n = c.loop-charge.charge-index in
    let charge = c.charge-item.result in
    let old = state g.S.Store c.args.tx.now.conn.now in
    let books = (tables old).books in
    let new = state g.S.Store c.put_charge.new.tx.conn.now in
    let more = puts_both (with_charge charge) c.loop-charge.invariant.puts c.in_ok-put_charge.ensures.puts in
    let last : take (n + 1) charges ≡ take n charges ++ charge ∷ [] =
    take_more charges n charge c.loop-charge-test.true ∙ ap (λ (it : Charge). take n charges ++ it ∷ []) (sym c.charge-item.is) in
    let next = sym (with_each_more (take n charges) charge books) ∙ ap (λ (rest : List Charge). with_each rest books) (sym last) in
    record {
      same_reference = c.put_charge.ensures.same_reference ∙ c.loop-charge.invariant.same_reference;
      puts = subst (λ (after : Books). Puts after (Ok tt) old new) next more;
    }

pub returns-in_err-put_charge-clause-same_reference : goal.returns-in_err-put_charge-clause-same_reference
returns-in_err-put_charge-clause-same_reference g c = c.put_charge.ensures.same_reference ∙ c.loop-charge.invariant.same_reference

pub returns-in_err-put_charge-clause-puts : goal.returns-in_err-put_charge-clause-puts
returns-in_err-put_charge-clause-puts g c =
    puts_failed _ c.from_residual.ensures.1 (puts_both (with_charge c.charge-item.result) c.loop-charge.invariant.puts c.in_err-put_charge.ensures.puts)

pub returns-clause-puts : goal.returns-clause-puts
returns-clause-puts g c =
    let charges = c.args.charges.now in
    let old = state g.S.Store c.args.tx.now.conn.now in
    let new = state g.S.Store c.loop-charge.tx.conn.now in
    let every : take c.loop-charge.charge-index charges ≡ charges = take_all c.loop-charge.charge-index charges (omega arith) in
    let puts = subst (λ (some : List Charge). TurnsBooks (with_each some) (Ok tt) old new) every c.loop-charge.invariant.puts in
    record {
      put = λ clean.
          let early : HasCleanDisk old = omega (arith, puts.crash.clean, clean) in
          let put = puts.put clean in
          (put.0, put.1 ∙ with_all charges (tables old).books (c.requires.new early));
      kept = puts.kept;
      crash = puts.crash;
    }
