-- What is charged in whole books.
use Rattle.std.proofs.Common.{subst, ℕ}
use Rattle.std.specs.FinMap.{values}
use Rattle.dh_types.specs.declared.lease.Charge.{Charge}
use Rattle.dh_types.proofs.SameValues.{numbers}
use Rattle.dh_model.specs.Books.{Books}
use Rattle.dh_model.specs.Kinds.{Kind}
use Rattle.dh_model.specs.Leases.{dues}
use Rattle.dh_model.specs.Rules.{HaveTheSame, IsLawful, IsThere, MonthsInOrder, charges_in}
use Rattle.dh_model.specs.Rules.Rule.{Months}
use Rattle.dh_model.proofs.Among.{Among, among, in_filter, is_among, of_filter}
use Rattle.dh_model.proofs.DueLemmas.{falls_in}
use Rattle.dh_model.proofs.KeyOrders.{nat_ties, nat_total}
use Rattle.dh_laws.specs.InOrder.{AreKeyed}
use Rattle.dh_laws.specs.Balances.{ChargesAreDues}
use Rattle.dh_model.proofs.MapRows.{among_values, there}

module _ (size : ℕ) (books : Books) (keyed : AreKeyed books) (lawful : IsLawful books size) where
  months : MonthsInOrder books size
  months = lawful.rules Months

  -- a month that was run is charged with its dues
  run_is_charged : (month : ℕ) → IsThere books.runs month → HaveTheSame (charges_in books month) (dues books month)
  run_is_charged month h =
      let row = (there nat_total nat_ties books.runs month).0 h in
      let of = (among_values nat_total nat_ties books.runs row.0).1 (month, row.1) in
      subst (λ m. HaveTheSame (charges_in books m) (dues books m)) (keyed Kind.Runs month row.0 row.1) (months.closed row.0 of (lawful.closed row.0 of)).charges

  pub charged_was_run : (charge : Charge) → Among (values books.charges) charge → IsThere books.runs charge.month
  charged_was_run charge a = months.charged charge (is_among (values books.charges) charge a)

  pub charged_is_due : (charge : Charge) → Among (values books.charges) charge → Among (dues books charge.month) charge
  charged_is_due charge a =
      let own = of_filter (falls_in charge.month) (values books.charges) charge ((numbers charge.month charge.month).1 (λ i. charge.month)) a in
      let same = run_is_charged charge.month (charged_was_run charge a) charge in
      among (dues books charge.month) charge (same.0 (is_among (charges_in books charge.month) charge own))

  due_is_charged : (month : ℕ) (charge : Charge) → IsThere books.runs month → Among (dues books month) charge → Among (values books.charges) charge
  due_is_charged month charge h a =
      let same = run_is_charged month h charge in
      (in_filter (falls_in month) (values books.charges) charge (among (charges_in books month) charge (same.1 (is_among (dues books month) charge a)))).0

pub charges_are_dues : (size : ℕ) → ChargesAreDues size
charges_are_dues size books charge pos keyed lawful = (
  λ h.
      let a = among (values books.charges) charge h in (
        charge.month,
        charged_was_run size books keyed lawful charge a,
        is_among (dues books charge.month) charge (charged_is_due size books keyed lawful charge a),
      ),
  λ h. is_among (values books.charges) charge (due_is_charged size books keyed lawful h.0 charge h.1 (among (dues books h.0) charge h.2)),
)
