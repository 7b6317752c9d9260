-- Batches fit into books whose rules hold.
use Rattle.std.proofs.Common.{◌≡◌, ◌∙◌, refl, sym, ap, ℕ, Bool, true, false, List}
use Rattle.std.specs.FinMap.{values}
use Rattle.dh_types.specs.declared.lease.Charge.{Charge}
use Rattle.dh_types.specs.declared.run.Run.{Run}
use Rattle.dh_types.specs.declared.run.Part.{Part}
use Rattle.dh_types.specs.declared.fee.PartFee.{PartFee}
use Rattle.dh_model.specs.Books.{Books}
use Rattle.dh_model.specs.Kinds.{Kind}
use Rattle.dh_model.specs.Leases.{dues}
use Rattle.dh_model.specs.Runs.{charge_key, part_fee_key, part_key, posted_charges, posted_fees, posted_parts}
use Rattle.dh_model.specs.Rules.{MeetsRules, Rule, charges_in}
use Rattle.dh_model.proofs.Among.{Among, among, is_among}
use Rattle.dh_model.proofs.KeyOrders.{nat_ties, nat_total, nats_tie, nats_total}
use Rattle.dh_laws.specs.InOrder.{AreKeyed}
use Rattle.dh_model.proofs.MapRows.{of_row, there}
use Rattle.dh_laws.proofs.BatchLemmas.MonthRows.{Fits, of_rows}
use Rattle.dh_laws.proofs.BatchLemmas.Dues.{IsOwed, month_of_begun, month_of_fee, one_begun, one_charge, one_fee, one_posted, owed_due, owed_posted}

abbrev pub charge_month : Charge → ℕ
charge_month charge = charge.month

abbrev pub part_month : Part → ℕ
part_month part = part.month

abbrev pub fee_month : PartFee → ℕ
fee_month fee = fee.month

module _ (size : ℕ) (books : Books) (keyed : AreKeyed books) (rules : MeetsRules books size) where
  owed_in : (b : Bool) (run : Run) (charge : Charge) → run.is_closed ≡ b → Among (values books.runs) run → charge.month ≡ run.month
      → Among (values books.charges) charge → IsOwed books charge
  owed_in true run charge e a own c =
      let month = (rules Rule.Months).closed run (is_among (values books.runs) run a) e in
      let here = of_rows charge_key charge_month nats_total nats_tie books.charges run.month charge c own in
      (owed_due books run.month charge (among (dues books run.month) charge ((month.charges charge).0 (is_among (charges_in books run.month) charge here)))).0
  owed_in false run charge e a own c =
      let month = (rules Rule.Months).under_way run (is_among (values books.runs) run a) e in
      let here = of_rows charge_key charge_month nats_total nats_tie books.charges run.month charge c own in
      let posted = posted_charges size books run.month month.done in
      (owed_posted size books run.month month.done charge
      (among posted charge ((month.posted.charges charge).0 (is_among (charges_in books run.month) charge here)))).0

  -- what is charged falls due
  pub owed_charge : (charge : Charge) → Among (values books.charges) charge → IsOwed books charge
  owed_charge charge a =
      let run = (there nat_total nat_ties books.runs charge.month).0 ((rules Rule.Months).charged charge (is_among (values books.charges) charge a)) in
      owed_in run.0.is_closed run.0 charge refl (of_row nat_total nat_ties books.runs charge.month run.0 run.1)
      (sym (keyed Kind.Runs charge.month run.0 run.1)) a

  pub charges_fit : (month n : ℕ) → Fits charge_key charge_month books.charges month (posted_charges size books month n)
  charges_fit month n = record {
    keyed = keyed Kind.Charges;
    one = one_posted size books month n (keyed Kind.Leases);
    of_month = λ x a. (owed_posted size books month n x a).1;
    apart = λ x y k a h e.
        let own = owed_posted size books month n x a in
        let other = owed_charge y (of_row nats_total nats_tie books.charges k y h) in
        let same = one_charge books (keyed Kind.Leases) x y own.0 other (e ∙ sym (keyed Kind.Charges k y h)) in
        sym (ap charge_month same) ∙ own.1;
  }

  pub parts_fit : (month n : ℕ) → Fits part_key part_month books.parts month (posted_parts size books month n)
  parts_fit month n = record {
    keyed = keyed Kind.Parts;
    one = one_begun size books month n;
    of_month = month_of_begun size books month n;
    apart = λ x y k a h e. sym (ap (λ (key : ℕ × List ℕ). key.0) (e ∙ sym (keyed Kind.Parts k y h))) ∙ month_of_begun size books month n x a;
  }

  pub fees_fit : (month n : ℕ) → Fits part_fee_key fee_month books.part_fees month (posted_fees size books month n)
  fees_fit month n = record {
    keyed = keyed Kind.PartFees;
    one = one_fee size books month n;
    of_month = month_of_fee size books month n;
    apart = λ x y k a h e. sym (ap (λ (key : ℕ × List ℕ). key.0) (e ∙ sym (keyed Kind.PartFees k y h))) ∙ month_of_fee size books month n x a;
  }
