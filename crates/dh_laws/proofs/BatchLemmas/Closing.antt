-- Where no batch is left, closing makes the books whole.
use Rattle.std.proofs.Common.{◌≡◌, ◌∙◌, sym, ap, subst, ℕ, ◌≤◌, nat_eq, true, List, length, Some}
use Rattle.std.specs.FinMap.{insert, values}
use Rattle.dh_types.specs.declared.lease.Charge.{Charge}
use Rattle.dh_types.specs.declared.run.Run.{Run}
use Rattle.dh_model.specs.Books.{Books}
use Rattle.dh_model.specs.Kinds.{Kind}
use Rattle.dh_model.specs.Leases.{dues}
use Rattle.dh_model.specs.Runs.{batches, charge_key, closed_run, part_fee_key, part_key, posted_charges, posted_fees, posted_parts, total_of}
use Rattle.dh_model.specs.Rules.{ArePosted, MeetsRules, Rule, charges_in}
use Rattle.dh_model.specs.Whole.{completed}
use Rattle.dh_model.proofs.Among.{Among, among, is_among}
use Rattle.dh_model.proofs.BranchDues.{dues_rise, lease_of, leases_rise}
use Rattle.dh_model.proofs.KeyOrders.{nat_text_ties, nat_text_total, nats_tie, nats_total}
use Rattle.dh_model.proofs.Rising.{Rises, filter_rises}
use Rattle.dh_laws.specs.InOrder.{AreKeyed}
use Rattle.dh_laws.specs.Posting.{ClosingMakesWhole, closed}
use Rattle.dh_model.proofs.MapRows.{inside}
use Rattle.dh_laws.proofs.MonthLemmas.Sums.{all_are_dues, count_of_all, total_of_all}
use Rattle.dh_laws.proofs.BatchLemmas.MonthRows.{stays}
use Rattle.dh_laws.proofs.BatchLemmas.Charged.{charge_month, charges_fit, fee_month, fees_fit, part_month, parts_fit}
use Rattle.dh_laws.proofs.BatchLemmas.Fees.{fees_posted}
use Rattle.dh_laws.proofs.BatchLemmas.Whole.{IsOpen, is_open}
use Rattle.dh_laws.proofs.BatchLemmas.Counts.{Differ, lesser_differ, rows_differ, same_length, same_sum}

pub closed_alike : (month : ℕ) (key : List ℕ) (xs ys : List Charge) → length xs ≡ length ys → total_of xs ≡ total_of ys
    → closed_run month key xs ≡ closed_run month key ys
closed_alike month key xs ys count total = λ i. record { month = month; key = key; count = count i; total = total i; is_closed = true }

module _ (size : ℕ) (books : Books) (pos : 1 ≤ size) (keyed : AreKeyed books) (rules : MeetsRules books size) (run : Run)
    (posted : ArePosted books size run.month (batches size books run.month)) where
  -- a charge of the month is one of its dues
  to_due : (charge : Charge) → Among (charges_in books run.month) charge → Among (dues books run.month) charge
  to_due charge a =
      among (dues books run.month) charge
      ((all_are_dues books (rules Rule.References) run.month size pos (keyed Kind.Leases) charge).0
      ((posted.charges charge).0 (is_among (charges_in books run.month) charge a)))

  of_due : (charge : Charge) → Among (dues books run.month) charge → Among (charges_in books run.month) charge
  of_due charge a =
      among (charges_in books run.month) charge
      ((posted.charges charge).1 ((all_are_dues books (rules Rule.References) run.month size pos (keyed Kind.Leases) charge).1
      (is_among (dues books run.month) charge a)))

  charges_differ : Rises Differ (charges_in books run.month)
  charges_differ = filter_rises Differ (λ charge. nat_eq charge.month run.month) (values books.charges)
      (rows_differ nats_total nats_tie charge_key books.charges (keyed Kind.Charges))

  dues_differ : Rises Differ (dues books run.month)
  dues_differ = lesser_differ lease_of (dues books run.month) (dues_rise books.endings (values books.leases) run.month (leases_rise books (keyed Kind.Leases)))

  same_count : length (posted_charges size books run.month (batches size books run.month)) ≡ length (charges_in books run.month)
  same_count =
      count_of_all books (rules Rule.References) run.month size pos (keyed Kind.Leases)
      ∙ sym (same_length (charges_in books run.month) (dues books run.month) charges_differ dues_differ to_due of_due)

  same_total : total_of (posted_charges size books run.month (batches size books run.month)) ≡ total_of (charges_in books run.month)
  same_total =
      total_of_all books (rules Rule.References) run.month size pos (keyed Kind.Leases)
      ∙ sym (same_sum (λ charge. charge.amount) (charges_in books run.month) (dues books run.month) charges_differ dues_differ to_due of_due)

  completed_is_closed : IsOpen books run → completed size books (Some run) ≡ closed books run
  completed_is_closed at =
      let all = posted_charges size books run.month (batches size books run.month) in
      let begun = posted_parts size books run.month (batches size books run.month) in
      let charges = stays charge_key charge_month nats_total nats_tie books.charges run.month all
      (charges_fit size books keyed rules run.month (batches size books run.month)) posted.charges in
      let parts = stays part_key part_month nat_text_total nat_text_ties books.parts run.month begun
      (parts_fit size books keyed rules run.month (batches size books run.month)) posted.parts in
      let fees = stays part_fee_key fee_month nat_text_total nat_text_ties books.part_fees run.month
      (posted_fees size books run.month (batches size books run.month))
      (fees_fit size books keyed rules run.month (batches size books run.month))
      (fees_posted size books keyed rules run.month (batches size books run.month) posted run at.is at.open_still) in
      let row = closed_alike run.month run.key all (charges_in books run.month) same_count same_total in
      λ i. record books { charges = charges i; parts = parts i; part_fees = fees i; runs = insert books.runs run.month (row i) }

pub closing_makes_whole : (size : ℕ) → ClosingMakesWhole size
closing_makes_whole size books month run pos order shown =
    let same : order.shown.0 ≡ run = inside order.shown.0 run (sym order.shown.1 ∙ shown) in
    let own : month ≡ run.month = sym order.shown.2 ∙ ap (λ (row : Run). row.month) same in
    let posted = subst (λ m. ArePosted books size m (batches size books m)) own order.shown.3 in
    sym (ap (completed size books) shown ∙ completed_is_closed size books pos order.keyed order.rules run posted (is_open books run order.keyed shown))
