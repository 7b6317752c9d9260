use Rattle.std.proofs.Common.{◌≡◌, ◌≤◌, ◌∙◌, ◌++◌, All, List, OnOk, ap, sym, subst, refl, arith}
use Rattle.std.proofs.lemmas.List.Elements.{All-drop, All-take}
use Rattle.sqlite.specs.State.{HasCleanDisk}
use Rattle.sqlite.specs.Held.{state}
use Rattle.dh_days.specs.Days.{month_of_day}
use Rattle.dh_days.specs.declared.limits.TheConstants.{LAST_ENTRY_MONTH}
use Rattle.dh_types.specs.declared.lease.Charge.{Charge}
use Rattle.dh_model.specs.Books.{Books}
use Rattle.dh_model.specs.Runs.{charge_key}
use Rattle.dh_sql.specs.Changes.{AreNew}
use Rattle.dh_tables.specs.declared.bulk.TheConstants.{BULK}
use Rattle.dh_schema.specs.Store.{IsWriting, tables}
use Rattle.dh_schema.proofs.Putting.{nothing_put, puts_failed}
use Rattle.dh_runs.specs.Putting.{with_charges}
use Rattle.dh_runs.proofs.EachCharge.{new_in_parts, with_both}
use Rattle.dh_runs.proofs.Putting.{puts_both, puts_own}
use Rattle.dh_runs.proofs.rows.put_charges.Goals as goal

pub loop-left-init : goal.loop-left-init
loop-left-init g c = record {
  same_reference = refl;
  puts = nothing_put (state g.S.Store c.args.tx.now.conn.now) c.requires.writing refl;
  new = c.requires.new;
  in_time = c.requires.in_time;
  goes = λ clean. refl;
}

pub put_bulk-requires-clause-new : goal.put_bulk-requires-clause-new
put_bulk-requires-clause-new g c clean =
    let books = (tables (state g.S.Store c.loop-left.tx.conn.now)).books in
    let new = subst (λ (all : List Charge). AreNew charge_key all books.charges) c.split_at.ensures.by_index.0 (c.loop-left.invariant.new clean) in
    (new_in_parts c.split_at.result.0.now c.split_at.result.1.now books new).0

abbrev FallsInTime : List Charge → Type 0
FallsInTime = All (λ charge. month_of_day charge.day ≤ LAST_ENTRY_MONTH)

pub put_bulk-requires-clause-in_time : goal.put_bulk-requires-clause-in_time
put_bulk-requires-clause-in_time g c =
    subst FallsInTime (sym c.split_at.ensures.front)
    (All-take (λ (charge : Charge). month_of_day charge.day ≤ LAST_ENTRY_MONTH) BULK c.loop-left.left.now c.loop-left.invariant.in_time)

pub loop-left-smaller : goal.loop-left-smaller
loop-left-smaller g c = omega (arith, c.split_at.ensures.back_len)

pub loop-left-preserved : goal.loop-left-preserved
loop-left-preserved g c =
    let mid = state g.S.Store c.loop-left.tx.conn.now in
    let new = state g.S.Store c.put_bulk.new.tx.conn.now in
    let books = (tables mid).books in
    let bulk = c.split_at.result.0.now in
    let rest = c.split_at.result.1.now in
    let was = c.loop-left.invariant in
    let parts = c.split_at.ensures.by_index.0 in
    let puts = c.in_ok-put_bulk.ensures.puts in
    let early : HasCleanDisk new → HasCleanDisk mid = λ clean. omega (arith, puts.crash.clean, clean) in
    let free : HasCleanDisk new → AreNew charge_key (bulk ++ rest) books.charges = λ clean.
    subst (λ (all : List Charge). AreNew charge_key all books.charges) parts (was.new (early clean)) in
    record {
      same_reference = c.in_ok-put_bulk.ensures.same_reference ∙ was.same_reference;
      puts = puts_own (puts_both (with_charges bulk) was.puts puts);
      new = λ clean.
          subst (λ (b : Books). AreNew charge_key rest b.charges) (sym (puts.put clean).1) (new_in_parts bulk rest books (free clean)).1;
      in_time = subst FallsInTime (sym c.split_at.ensures.back)
          (All-drop (λ (charge : Charge). month_of_day charge.day ≤ LAST_ENTRY_MONTH) BULK c.loop-left.left.now was.in_time);
      goes = λ clean.
          ap (with_charges rest) (puts.put clean).1 ∙ with_both bulk rest books (free clean)
          ∙ ap (λ (all : List Charge). with_charges all books) (sym parts) ∙ was.goes (early clean);
    }

pub returns-in_err-put_bulk-clause-puts : goal.returns-in_err-put_bulk-clause-puts
returns-in_err-put_bulk-clause-puts g c =
    puts_failed _ c.from_residual.ensures.1 (puts_both (with_charges c.split_at.result.0.now) c.loop-left.invariant.puts c.in_err-put_bulk.ensures.puts)

pub returns-clause-puts : goal.returns-clause-puts
returns-clause-puts g c =
    let new = state g.S.Store c.put_each_charge.new.tx.conn.now in
    let was = c.loop-left.invariant in
    let last = c.put_each_charge.ensures.puts in
    let puts = puts_both (with_charges c.loop-left.left.now) was.puts last in
    record {
      put = λ clean.
          let goes = was.goes (omega (arith, last.crash.clean, clean)) in
          subst (λ (b : Books). OnOk c.put_each_charge.result (IsWriting new × ((tables new).books ≡ b))) goes (puts.put clean);
      kept = puts.kept;
      crash = puts.crash;
    }
