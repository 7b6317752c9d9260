-- The charges of a batch lead from those before it to those with it, and are new to them.
use Rattle.std.proofs.Common.{◌≡◌, ◌⊎◌, ◌∙◌, refl, sym, ap, subst, inl, inr, ℕ, ◌+◌, ◌<◌, ◌≤◌, nat_lt, List, [], ◌∷◌, ◌++◌, None, ltb-true, lt-ltb, arith}
use Rattle.std.specs.FinMap.{FinMap, get, insert}
use Rattle.std.specs.Ordering.{nat_cmp}
use Rattle.std.proofs.lemmas.Bool.{cases_lt}
use Rattle.dh_types.specs.declared.lease.Charge.{Charge}
use Rattle.dh_model.specs.Books.{Books, pair_cmp, with_rows}
use Rattle.dh_model.specs.Kinds.{Kind}
use Rattle.dh_model.specs.Runs.{batch_of, charge_key, dues_of_branch, posted_charges, posted_of_branch}
use Rattle.dh_model.specs.Rules.{MeetsRules}
use Rattle.dh_model.proofs.Among.{Among, in_append, in_filter, of_filter, of_right}
use Rattle.dh_model.proofs.BranchDues.{dues_of_branch_rise, lease_of, one_branch_of_due}
use Rattle.dh_model.proofs.KeyOrders.{nats_tie, nats_total}
use Rattle.dh_model.proofs.MapRows.{get_other}
use Rattle.dh_model.proofs.Rising.{Lesser, Rises, filter_rises}
use Rattle.dh_laws.specs.InOrder.{AreKeyed}
use Rattle.dh_laws.proofs.BatchLemmas.Charged.{charge_month, charges_fit}
use Rattle.dh_laws.proofs.BatchLemmas.Dues.{is_posted, of_posted, one_posted}
use Rattle.dh_laws.proofs.BatchLemmas.MonthRows.{replaced}
use Rattle.dh_leases.specs.Plans.{AreNew}
use Rattle.dh_leases.specs.Rows.{charges_at}
use Rattle.dh_leases.proofs.BatchBranch.{IsHeld, branch_of_due, own_dues, own_number, posted_in_two}
use Rattle.dh_leases.proofs.MonthRows.{led, was_free}
use Rattle.dh_leases.proofs.Places.{first_before, second_rises}

-- charges that rise by lease, and of which none is there, are new
are_new : (charges : List Charge) (held : FinMap (pair_cmp nat_cmp nat_cmp) Charge) → Rises (Lesser lease_of) charges
    → ((x : Charge) → Among charges x → get held (charge_key x) ≡ None) → AreNew charges held
are_new [] held rise free = tt
are_new (charge ∷ charges) held rise free = (
  free charge (inl refl),
  are_new charges (insert held (charge_key charge) charge) rise.1
      (λ x a. get_other nats_total nats_tie held (charge_key charge) charge (charge_key x)
      (λ e. let less : charge.lease < x.lease = rise.0 x a in
      let same = ap (λ (k : ℕ × ℕ). k.0) e in omega (arith, less, same))
      ∙ free x (inr a)),
)

module _ (size : ℕ) (books : Books) (month number : ℕ) (pos : 1 ≤ size) (keyed : AreKeyed books) (held : IsHeld size books month number) where
  abbrev own : List Charge
  own = charges_at size (own_dues size books month number pos (keyed Kind.Leases) held) (own_number size books month number pos (keyed Kind.Leases) held)

  abbrev key : List ℕ
  key = held.key

  abbrev in_two : posted_of_branch size books month (number + 1) key ≡ posted_of_branch size books month number key ++ own
  in_two = posted_in_two size books month number pos (keyed Kind.Leases) held

  rise : Rises (Lesser lease_of) (posted_of_branch size books month number key ++ own)
  rise =
      subst (Rises (Lesser lease_of)) in_two
      (filter_rises (Lesser lease_of) (λ charge. nat_lt (batch_of size books month key charge) (number + 1)) (dues_of_branch books month key)
      (dues_of_branch_rise books month (keyed Kind.Leases) key))

  -- a charge of the batch is a due of its branch, and of this batch
  of_batch : (x : Charge) → Among own x → Among (dues_of_branch books month key) x × (batch_of size books month key x ≡ number)
  of_batch x a =
      let dues = dues_of_branch books month key in
      let there = subst (λ cs. Among cs x) (sym in_two) (of_right (posted_of_branch size books month number key) own x a) in
      let kept = in_filter (λ charge. nat_lt (batch_of size books month key charge) (number + 1)) dues x there in
      let early = ltb-true (batch_of size books month key x) (number + 1) kept.1 in (
        kept.0,
        elim (cases_lt (batch_of size books month key x) number) [
          | inl less ↦
              let here = of_filter (λ charge. nat_lt (batch_of size books month key charge) number) dues x
              (lt-ltb (batch_of size books month key x) number less) kept.0 in
              let before : x.lease < x.lease = first_before (Lesser lease_of) (posted_of_branch size books month number key) own x x rise here a in
              absurd (omega (arith, before))
          | inr later ↦ omega (arith, early, later)
        ],
      )

  -- and each such due is a charge of it
  is_own : (x : Charge) → Among (dues_of_branch books month key) x → batch_of size books month key x ≡ number → Among own x
  is_own x due is =
      let dues = dues_of_branch books month key in
      let there = of_filter (λ charge. nat_lt (batch_of size books month key charge) (number + 1)) dues x
      (lt-ltb (batch_of size books month key x) (number + 1) (omega (arith, is))) due in
      elim (in_append (posted_of_branch size books month number key) own x (subst (λ cs. Among cs x) in_two there)) [
        | inl before ↦
            let kept = in_filter (λ charge. nat_lt (batch_of size books month key charge) number) dues x before in
            let early = ltb-true (batch_of size books month key x) number kept.1 in
            absurd (omega (arith, early, is))
        | inr here ↦ here
      ]

  posted_too : (x : Charge) → Among own x → Among (posted_charges size books month (number + 1)) x
  posted_too x a =
      let of = of_batch x a in
      of_posted size books month (number + 1) x (record { branch = key; of = held.of; due = of.0; early = omega (arith, of.1) })

  posted_still : (x : Charge) → Among (posted_charges size books month number) x → Among (posted_charges size books month (number + 1)) x
  posted_still x a =
      let p = is_posted size books month number x a in
      of_posted size books month (number + 1) x (record { branch = p.branch; of = p.of; due = p.due; early = omega (arith, p.early) })

  own_or_before : (x : Charge) → Among (posted_charges size books month (number + 1)) x → Among own x ⊎ Among (posted_charges size books month number) x
  own_or_before x a =
      let p = is_posted size books month (number + 1) x a in
      elim (cases_lt (batch_of size books month p.branch x) number) [
        | inl less ↦ inr (of_posted size books month number x (record { branch = p.branch; of = p.of; due = p.due; early = less }))
        | inr later ↦
            let is : batch_of size books month p.branch x ≡ number = omega (arith, later, p.early) in
            let same = branch_of_due size books month number pos (keyed Kind.Leases) held p.branch x p.of p.due is in
            inl (is_own x (subst (λ b. Among (dues_of_branch books month b) x) same p.due) (subst (λ b. batch_of size books month b x ≡ number) same is))
      ]

  -- no charge of the batch was posted before
  not_before : (x : Charge) → Among own x → (y : Charge) → Among (posted_charges size books month number) y → charge_key y ≡ charge_key x → ⊥
  not_before x a y b e =
      let of = of_batch x a in
      let one = one_posted size books month (number + 1) (keyed Kind.Leases) y x (posted_still y b) (posted_too x a) e in
      let p = is_posted size books month number y b in
      let due = subst (λ z. Among (dues_of_branch books month p.branch) z) one p.due in
      let same = one_branch_of_due books month (keyed Kind.Leases) p.branch key x due of.0 in
      let early : batch_of size books month p.branch y < number = p.early in
      let here : batch_of size books month key x < number =
      subst (λ b. batch_of size books month b x < number) same (subst (λ z. batch_of size books month p.branch z < number) one early) in
      omega (arith, here, of.1)

  module _ (rules : MeetsRules books size) where
    pub charges_led : with_rows charge_key own (replaced charge_key charge_month books.charges month (posted_charges size books month number))
        ≡ replaced charge_key charge_month books.charges month (posted_charges size books month (number + 1))
    charges_led =
        led charge_key charge_month nats_total nats_tie books.charges month (posted_charges size books month number)
        (posted_charges size books month (number + 1)) (charges_fit size books keyed rules month number)
        (charges_fit size books keyed rules month (number + 1)) own posted_too (λ x a. inl (posted_still x a)) own_or_before

    pub charges_new : AreNew own (replaced charge_key charge_month books.charges month (posted_charges size books month number))
    charges_new =
        are_new own (replaced charge_key charge_month books.charges month (posted_charges size books month number))
        (second_rises (Lesser lease_of) (posted_of_branch size books month number key) own rise)
        (λ x a. was_free charge_key charge_month nats_total nats_tie books.charges month (posted_charges size books month number)
        (posted_charges size books month (number + 1)) (charges_fit size books keyed rules month number)
        (charges_fit size books keyed rules month (number + 1)) x (posted_too x a) (not_before x a))
