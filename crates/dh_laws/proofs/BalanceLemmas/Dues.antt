-- What falls due in the next month adds to what is charged.
use Rattle.std.proofs.Common.{◌≡◌, ◌≢◌, ◌∙◌, sym, ap, ℕ, ◌+◌, ◌<◌, nat_eq, List, Option, Some, None, arith}
use Rattle.std.specs.FinMap.{get, values}
use Rattle.dh_days.specs.Days.{month_of_day}
use Rattle.dh_types.specs.declared.lease.Lease.{Lease}
use Rattle.dh_types.specs.declared.lease.Charge.{Charge}
use Rattle.dh_model.specs.Books.{Books}
use Rattle.dh_model.specs.Kinds.{Kind}
use Rattle.dh_model.specs.Leases.{dues}
use Rattle.dh_model.specs.Runs.{charge_key, ran, total_of}
use Rattle.dh_model.specs.Answers.{charges_of}
use Rattle.dh_model.specs.Rules.{IsLawful, IsThere, RunsInOrder}
use Rattle.dh_model.specs.Rules.Rule.{Runs}
use Rattle.dh_model.proofs.Among.{Among}
use Rattle.dh_model.proofs.BranchDues.{dues_rise, lease_of, leases_rise}
use Rattle.dh_model.proofs.DueLemmas.{is_due}
use Rattle.dh_model.proofs.KeyOrders.{nat_ties, nat_total, nats_tie, nats_total}
use Rattle.dh_model.proofs.Rising.{Lesser, Rises, rises_by}
use Rattle.dh_laws.specs.InOrder.{AreKeyed}
use Rattle.dh_laws.specs.Balances.{due_on}
use Rattle.dh_laws.proofs.MapMerges.{one_row}
use Rattle.dh_model.proofs.MapRows.{of_row}
use Rattle.dh_laws.proofs.BalanceLemmas.Charges.{charged_is_due, charged_was_run}
use Rattle.dh_laws.proofs.BalanceLemmas.Sums.{Apart, kept_added}

pub none_if : {X : Type 0} (found : Option X) → ((x : X) → found ≡ Some x → ⊥) → found ≡ None
none_if None h = λ i. None
none_if (Some x) h = absurd (h x (λ i. Some x))

by_lease : (x y : Charge) → Lesser lease_of x y → charge_key x ≢ charge_key y
by_lease x y less e =
    let same = ap (λ (k : ℕ × ℕ). k.0) e in
    let h : x.lease < y.lease = less in
    omega (arith, same, h)

-- the dues of a month have different keys
dues_apart : (books : Books) (month : ℕ) → AreKeyed books → Rises (Apart nats_total nats_tie charge_key) (dues books month)
dues_apart books month keyed =
    rises_by (Lesser lease_of) (Apart nats_total nats_tie charge_key) by_lease (dues books month)
    (dues_rise books.endings (values books.leases) month (leases_rise books (keyed Kind.Leases)))

-- two dues of one key fall in one month
one_month : (books : Books) → AreKeyed books → (m n : ℕ) (a b : Charge) → Among (dues books m) a → Among (dues books n) b → charge_key a ≡ charge_key b → m ≡ n
one_month books keyed m n a b p q e =
    let x = is_due books.endings (values books.leases) m a p in
    let y = is_due books.endings (values books.leases) n b q in
    let lease = ap (λ (k : ℕ × ℕ). k.0) e in
    let index = ap (λ (k : ℕ × ℕ). k.1) e in
    let number : x.lease.terms.number ≡ y.lease.terms.number = sym (ap (λ (c : Charge). c.lease) x.is) ∙ lease ∙ ap (λ (c : Charge). c.lease) y.is in
    let k : x.k ≡ y.k = sym (ap (λ (c : Charge). c.index) x.is) ∙ index ∙ ap (λ (c : Charge). c.index) y.is in
    let same = one_row nat_total nat_ties (λ it. it.terms.number) books.leases (keyed Kind.Leases) x.lease y.lease x.of y.of number in
    let start = ap (λ (it : Lease). month_of_day it.terms.start) same in
    let first = ap (λ (c : Charge). c.month) x.is in
    let second = ap (λ (c : Charge). c.month) y.is in
    let here = x.month_is in
    let there = y.month_is in
    omega (arith, k, start, first, second, here, there)

module _ (size : ℕ) (books : Books) (keyed : AreKeyed books) (lawful : IsLawful books size) where
  runs : RunsInOrder books
  runs = lawful.rules Runs

  run_is_early : (month : ℕ) → IsThere books.runs month → month < books.next
  run_is_early month h = ((runs.run month).0 h).1

  -- what falls due in the next month isn't charged
  not_charged : (charge : Charge) → Among (dues books books.next) charge → get books.charges (charge_key charge) ≡ None
  not_charged charge a = none_if (get books.charges (charge_key charge)) (λ x e.
      let of = of_row nats_total nats_tie books.charges (charge_key charge) x e in
      let early = run_is_early x.month (charged_was_run size books keyed lawful x of) in
      let same = one_month books keyed x.month books.next x charge (charged_is_due size books keyed lawful x of) a
      (keyed Kind.Charges (charge_key charge) x e) in
      omega (arith, early, same))

  -- a run adds its due
  pub ran_adds : (key : List ℕ) (lease : ℕ)
      → total_of (charges_of (ran size books key) lease) ≡ total_of (charges_of books lease) + total_of (due_on books books.next lease)
  ran_adds key lease =
      kept_added nats_total nats_tie charge_key (λ charge. charge.amount) (λ charge. nat_eq charge.lease lease) (dues books books.next) books.charges
      (dues_apart books books.next keyed) not_charged
