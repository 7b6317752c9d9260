use Rattle.std.proofs.Common.{◌∙◌, ap, sym, subst, is_some, List, Ok, arith}
use Rattle.std.specs.FinMap.{get}
use Rattle.sqlite.specs.State.{HasCleanDisk}
use Rattle.sqlite.specs.Held.{state}
use Rattle.dh_types.specs.declared.lease.Charge.{Charge}
use Rattle.dh_model.specs.Books.{Books}
use Rattle.dh_model.specs.Runs.{charge_key, part_key}
use Rattle.dh_leases.specs.Plans.{some_row}
use Rattle.dh_sql.specs.Changes.{AreNew}
use Rattle.dh_schema.specs.Putting.{TurnsBooks}
use Rattle.dh_schema.specs.Store.{tables}
use Rattle.dh_schema.proofs.Putting.{puts_failed}
use Rattle.dh_runs.specs.Putting.{with_charges, with_fees, with_part}
use Rattle.dh_runs.proofs.EachCharge.{each_new}
use Rattle.dh_runs.proofs.Putting.{fee_still, puts_both}
use Rattle.dh_runs.proofs.rows.PostedRowsPut.put.Goals as goal

pub put_charges-requires-clause-new : goal.put_charges-requires-clause-new
put_charges-requires-clause-new g c clean =
    let held = (tables (state g.S.Store c.args.tx.now.conn.now)).books.charges in
    subst (λ (charges : List Charge). AreNew charge_key charges held) (sym c.deref.ensures.value) (each_new _ held (c.requires.room clean).0)

pub put_part-requires-clause-known : goal.put_part-requires-clause-known
put_part-requires-clause-known g c clean =
    let puts = c.in_ok-put_charges.ensures.puts in
    let early : HasCleanDisk (state g.S.Store c.args.tx.now.conn.now) = omega (arith, puts.crash.clean, clean) in
    (c.requires.room early).1.part ∙ ap (λ (books : Books). is_some (get books.parts (part_key c.args.self.now.rows.now.part))) (sym (puts.put clean).1)

pub returns-in_err-put_charges-clause-puts : goal.returns-in_err-put_charges-clause-puts
returns-in_err-put_charges-clause-puts g c = puts_failed _ c.from_residual.ensures.1 c.in_err-put_charges.ensures.puts

pub put_some_fee-requires-clause-known : goal.put_some_fee-requires-clause-known
put_some_fee-requires-clause-known g c clean =
    let rows = c.args.self.now.rows.now in
    let old = state g.S.Store c.args.tx.now.conn.now in
    let mid = state g.S.Store c.put_charges.new.tx.conn.now in
    let first = subst (λ (charges : List Charge). TurnsBooks (with_charges charges) (Ok tt) old mid) c.deref.ensures.value c.in_ok-put_charges.ensures.puts in
    let puts = puts_both (with_part rows.part) first c.in_ok-put_part.ensures.puts in
    let early : HasCleanDisk old = omega (arith, puts.crash.clean, clean) in
    let books = (puts.put clean).1 in
    fee_still rows.fee rows.has_part (tables old) (tables (state g.S.Store c.put_part.new.tx.conn.now)) (ap (λ (b : Books). b.version) books)
    (ap (λ (b : Books). b.part_fees) books) (c.requires.room early).1.fee

pub returns-in_err-put_part-clause-puts : goal.returns-in_err-put_part-clause-puts
returns-in_err-put_part-clause-puts g c =
    puts_failed _ c.from_residual-in_err-put_part.ensures.1
    (puts_both (with_part c.args.self.now.rows.now.part) c.in_ok-put_charges.ensures.puts c.in_err-put_part.ensures.puts)

pub returns-clause-puts : goal.returns-clause-puts
returns-clause-puts g c =
    let rows = c.args.self.now.rows.now in
    let old = state g.S.Store c.args.tx.now.conn.now in
    let mid = state g.S.Store c.put_charges.new.tx.conn.now in
    let first = subst (λ (charges : List Charge). TurnsBooks (with_charges charges) (Ok tt) old mid) c.deref.ensures.value c.in_ok-put_charges.ensures.puts in
    puts_both (with_fees (some_row rows.fee)) (puts_both (with_part rows.part) first c.in_ok-put_part.ensures.puts) c.put_some_fee.ensures.puts
