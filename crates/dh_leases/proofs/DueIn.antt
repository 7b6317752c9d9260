-- The one due of a lease in a month.
use Rattle.std.proofs.Common.{◌≡◌, ◌∙◌, ◌⊎◌, refl, sym, ap, inl, inr, ℕ, zero, suc, ◌+◌, ◌<◌, ◌≤◌, Bool, true, false, cond, nat_eq, List, [], ◌∷◌, map}
use Rattle.std.proofs.Common.{append-nil, arith}
use Rattle.std.specs.List.{filter, range_with_len}
use Rattle.std.proofs.lemmas.Bool.Decides.{nat_tests}
use Rattle.dh_days.specs.Days.{month_of_day, plus_months}
use Rattle.dh_types.specs.declared.lease.Lease.{Lease}
use Rattle.dh_types.specs.declared.lease.Charge.{Charge}
use Rattle.dh_model.specs.Books.{Endings}
use Rattle.dh_model.specs.Leases.{due, dues_among, dues_of, length_of}

differs : (m n : ℕ) → (m < n) ⊎ (n < m) → nat_eq m n ≡ false
differs m n (inl h) = grind (arith, nat_tests)
differs m n (inr h) = grind (arith, nat_tests)

same : (m n : ℕ) → m ≡ n → nat_eq m n ≡ true
same m n h = grind (arith, nat_tests)

-- a month before or after those of the indices from a on
abbrev Outside : ℕ → ℕ → ℕ → ℕ → Type 0
Outside first month a n = (month < first + a) ⊎ (first + (a + n) ≤ month)

first_out : (first month a n : ℕ) → Outside first month a (suc n) → (first + a < month) ⊎ (month < first + a)
first_out first month a n (inl h) = inr h
first_out first month a n (inr h) = inl (omega (arith, h))

rest_out : (first month a n : ℕ) → Outside first month a (suc n) → Outside first month (a + 1) n
rest_out first month a n (inl h) = inl (omega (arith, h))
rest_out first month a n (inr h) = inr (omega (arith, h))

module _ (endings : Endings) (lease : Lease) (month : ℕ) where
  abbrev months : ℕ
  months = length_of endings lease

  abbrev falls : Charge → Bool
  falls charge = nat_eq charge.month month

  abbrev first : ℕ
  first = month_of_day lease.terms.start

  abbrev those : ℕ → ℕ → List Charge
  those a n = filter falls (map (due lease) (range_with_len a n))

  step : (a n : ℕ) (b : Bool) → nat_eq (first + a) month ≡ b → those a (suc n) ≡ cond b (due lease a ∷ those (a + 1) n) (those (a + 1) n)
  step a n b e = ap (λ b. cond b (due lease a ∷ those (a + 1) n) (those (a + 1) n)) e

  no_due : (a n : ℕ) → Outside first month a n → those a n ≡ []
  no_due a zero h = refl
  no_due a (suc n) h = step a n false (differs (first + a) month (first_out first month a n h)) ∙ no_due (a + 1) n (rest_out first month a n h)

  one_due : (a n k : ℕ) → first + (a + k) ≡ month → k < n → those a n ≡ due lease (a + k) ∷ []
  one_due a zero k e h = absurd (omega (arith, h))
  one_due a (suc n) zero e h =
      let here : a + 0 ≡ a = omega arith in
      let rest = no_due (a + 1) n (inl (omega (arith, e))) in
      step a n true (same (first + a) month (omega (arith, e))) ∙ ap (λ cs. due lease a ∷ cs) rest ∙ ap (λ i. due lease i ∷ []) (sym here)
  one_due a (suc n) (suc k) e h =
      let here : a + 1 + k ≡ a + suc k = omega arith in
      step a n false (differs (first + a) month (inl (omega (arith, e)))) ∙ one_due (a + 1) n k (omega (arith, e)) (omega (arith, h))
      ∙ ap (λ i. due lease i ∷ []) here

  of_one : dues_among endings (lease ∷ []) month ≡ those 0 months
  of_one = ap (filter falls) (append-nil (dues_of endings lease))

  pub none_before : month < first → [] ≡ dues_among endings (lease ∷ []) month
  none_before h = sym (of_one ∙ no_due 0 months (inl (omega (arith, h))))

  pub none_after : first + months ≤ month → [] ≡ dues_among endings (lease ∷ []) month
  none_after h = sym (of_one ∙ no_due 0 months (inr (omega (arith, h))))

  -- the charge with these parts is what falls due
  pub its_due : (k i m d : ℕ) → first + k ≡ month → k < months → i ≡ k → m ≡ month → d ≡ plus_months lease.terms.start k
      → ◌≡◌ {A = List Charge} (record { lease = lease.terms.number; index = i; month = m; day = d; amount = lease.rent } ∷ [])
      (dues_among endings (lease ∷ []) month)
  its_due k i m d e h p q r =
      let charge : ℕ → ℕ → ℕ → Charge = λ x y z. record { lease = lease.terms.number; index = x; month = y; day = z; amount = lease.rent } in
      let falls_in = q ∙ sym e in
      let here : 0 + k ≡ k = omega arith in
      (λ j. charge (p j) (falls_in j) (r j) ∷ []) ∙ ap (λ x. due lease x ∷ []) (sym here) ∙ sym (of_one ∙ one_due 0 months k (omega (arith, e)) h)
