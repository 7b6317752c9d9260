-- Sums of dues, one due after the other.
use Rattle.std.proofs.Common.{◌≡◌, ◌↔◌, ◌∙◌, refl, sym, ap, subst, ℕ, ◌+◌, ◌*◌, ◌<◌, ◌≤◌, Bool, true, false, cond, ◌&&◌, nat_eq, is_eq, List, [], ◌∷◌, ◌++◌}
use Rattle.std.proofs.Common.{map, length, length-append, append-nil, take, slice_index_or, Option, Some, None, arith}
use Rattle.std.specs.declared.cmp.Ordering.{Ordering}
use Rattle.std.specs.List.{filter}
use Rattle.std.specs.Option.{option_eq}
use Rattle.std.specs.Cmp.{IsTotalOrder}
use Rattle.std.specs.FinMap.{IsAntisymmetric}
use Rattle.std.proofs.lemmas.Bool.{and_from, and_parts, false_from_ne_true, false≢true}
use Rattle.std.proofs.Math.Seq.{take-length}
use Rattle.std.proofs.lemmas.List.{length-take-le, map-append, take_more}
use Rattle.std.proofs.lemmas.List.Elements.{filter-append}
use Rattle.std.proofs.lemmas.List.Sums.{fold-append, sum_by_push}
use Rattle.dh_types.specs.declared.lease.Charge.{Charge}
use Rattle.dh_types.proofs.SameValues.{numbers, texts}
use Rattle.dh_model.specs.Runs.{at_least, greatest_lease, total_of}
use Rattle.dh_model.proofs.MapRows.{inside, key_itself, same_key}
use Rattle.dh_audit_rules.specs.declared.closed_dues.Due.{Due}
use Rattle.dh_audit_rules.specs.declared.closed_sums.Sum.{Sum}
use Rattle.dh_audit_rules.specs.ClosedMonths.{is_at_branch, is_in, sum_of, with_charge}
use Rattle.dh_audit_rules.proofs.ClosedDues.{charge_of}

one_more : (charges : List Charge) (charge : Charge) → sum_of (charges ++ charge ∷ []) ≡ with_charge (sum_of charges) charge
one_more charges charge =
    let through = fold-append (λ most c. Some (at_least most c.lease)) None charges (charge ∷ []) in
    let count = length-append charges (charge ∷ []) in
    let total = sum_by_push (λ c. c.amount) charges charge in
    ap (λ (t : Option ℕ). let s : Sum = record { through = t; count = length (charges ++ charge ∷ []); total = total_of (charges ++ charge ∷ []) } in s) through
    ∙ ap (λ (n : ℕ). let s : Sum = record {
      through = Some (at_least (greatest_lease charges) charge.lease);
      count = n;
      total = total_of (charges ++ charge ∷ []);
    } in s) count
    ∙ ap (λ (n : ℕ). let s : Sum = record { through = Some (at_least (greatest_lease charges) charge.lease); count = length charges + 1; total = n } in s) total

module _ (p : Due → Bool) where
  abbrev pub sum_kept : List Due → Sum
  sum_kept dues = sum_of (map charge_of (filter p dues))

  kept_last : (b : Bool) (ds : List Due) (due : Due)
      → sum_of (map charge_of (ds ++ cond b (due ∷ []) [])) ≡ cond b (with_charge (sum_of (map charge_of ds)) due.charge) (sum_of (map charge_of ds))
  kept_last true ds due = ap sum_of (map-append charge_of ds (due ∷ [])) ∙ one_more (map charge_of ds) due.charge
  kept_last false ds due = ap (λ es. sum_of (map charge_of es)) (append-nil ds)

  pub sum_step : (done : List Due) (due : Due) (b : Bool) → p due ≡ b
      → sum_kept (done ++ due ∷ []) ≡ cond b (with_charge (sum_kept done) due.charge) (sum_kept done)
  sum_step done due b e =
      ap (λ ds. sum_of (map charge_of ds)) (filter-append p done (due ∷ []))
      ∙ ap (λ b. sum_of (map charge_of (filter p done ++ cond b (due ∷ []) []))) e
      ∙ kept_last b (filter p done) due

  kept_count : (b : Bool) (due : Due) (ks xs : List Due) → length (map charge_of ks) ≤ length xs
      → length (map charge_of (cond b (due ∷ ks) ks)) ≤ length (due ∷ xs)
  kept_count true due ks xs h = omega (arith, h)
  kept_count false due ks xs h = omega (arith, h)

  pub few_kept : (dues : List Due) → (sum_kept dues).count ≤ length dues
  few_kept [] = omega arith
  few_kept (due ∷ dues) = kept_count (p due) due (filter p dues) dues (few_kept dues)

-- what is under each key, after a due was put under one
module _ {K : Type 0} {R : K → K → Ordering} (o : IsTotalOrder R) (ties : IsAntisymmetric R) (p : K → Due → Bool) (k : K) (done : List Due) (due : Due)
    (old new : K → Sum)
    (tells : (q : K) → (p q due ≡ true) ↔ (k ≡ q)) (was : (q : K) → old q ≡ sum_kept (p q) done) (is : (q : K)
    → new q ≡ cond (is_eq (R k q)) (with_charge (old k) due.charge) (old q)) where
  put_by : (q : K) (b : Bool) → is_eq (R k q) ≡ b → cond b (with_charge (old k) due.charge) (old q) ≡ sum_kept (p q) (done ++ due ∷ [])
  put_by q true e =
      let same : k ≡ q = same_key o ties k q e in
      ap (λ k. with_charge (old k) due.charge) same ∙ ap (λ s. with_charge s due.charge) (was q) ∙ sym (sum_step (p q) done due true ((tells q).1 same))
  put_by q false e =
      let differs : p q due ≡ false = false_from_ne_true (p q due) (λ h. let same : k ≡ q = (tells q).0 h in
      let here : is_eq (R k q) ≡ true = ap (λ q. is_eq (R k q)) (sym same) ∙ key_itself o ties k in
      false≢true (sym e ∙ here)) in
      was q ∙ sym (sum_step (p q) done due false differs)

  pub put_one : (q : K) → new q ≡ sum_kept (p q) (done ++ due ∷ [])
  put_one q = is q ∙ ap (λ b. cond b (with_charge (old k) due.charge) (old q)) refl ∙ put_by q (is_eq (R k q)) refl

  small_by : (b : Bool) (q : K) → due.charge.amount ≤ 999999 → ((q : K) → (old q).total ≤ 999999 * (old q).count)
      → (cond b (with_charge (old k) due.charge) (old q)).total ≤ 999999 * (cond b (with_charge (old k) due.charge) (old q)).count
  small_by true q amount small = let had = small k in omega (arith, had, amount)
  small_by false q amount small = small q

  pub still_small : due.charge.amount ≤ 999999 → ((q : K) → (old q).total ≤ 999999 * (old q).count) → (q : K) → (new q).total ≤ 999999 * (new q).count
  still_small amount small q = subst (λ s. s.total ≤ 999999 * s.count) (sym (is q)) (small_by (is_eq (R k q)) q amount small)

-- the key of a due is its month
pub month_tells : (due : Due) (month : ℕ) → (is_in month due ≡ true) ↔ (due.charge.month ≡ month)
month_tells due month = numbers due.charge.month month

abbrev pub is_under : ℕ × List ℕ → Due → Bool
is_under key due = is_in key.0 due && is_at_branch key.1 due.branch

abbrev pub at_key : ℕ → List ℕ → ℕ × List ℕ
at_key month branch = (month, branch)

under : (m n : ℕ) (a b : List ℕ) → (nat_eq m n && is_at_branch b (Some a)) ≡ true → at_key m a ≡ at_key n b
under m n a b h =
    let parts = and_parts (nat_eq m n) (is_at_branch b (Some a)) h in
    let first : m ≡ n = (numbers m n).0 parts.0 in
    let second : a ≡ b = (texts a b).0 parts.1 in
    λ i. (first i, second i)

of_under : (m n : ℕ) (a b : List ℕ) → at_key m a ≡ at_key n b → (nat_eq m n && is_at_branch b (Some a)) ≡ true
of_under m n a b e = and_from (nat_eq m n) (is_at_branch b (Some a)) ((numbers m n).1 (ap (λ (t : ℕ × List ℕ). t.0) e))
    ((texts a b).1 (ap (λ (t : ℕ × List ℕ). t.1) e))

-- or its month and its branch
pub branch_tells : (due : Due) (branch : List ℕ) → due.branch ≡ Some branch → (key : ℕ × List ℕ) → (is_under key due ≡ true)
    ↔ (at_key due.charge.month branch ≡ key)
branch_tells due branch is key = (
  λ h. under due.charge.month key.0 branch key.1 (sym (ap (λ o. nat_eq due.charge.month key.0 && is_at_branch key.1 o) is) ∙ h),
  λ e. ap (λ o. nat_eq due.charge.month key.0 && is_at_branch key.1 o) is ∙ of_under due.charge.month key.0 branch key.1 e,
)

nowhere : (b : Bool) → (b && false) ≡ false
nowhere true = refl
nowhere false = refl

-- a due of no branch stands under none
pub no_branch : (due : Due) → due.branch ≡ None → (key : ℕ × List ℕ) → is_under key due ≡ false
no_branch due is key = ap (λ o. nat_eq due.charge.month key.0 && is_at_branch key.1 o) is ∙ nowhere (nat_eq due.charge.month key.0)

option_told : (a b : Option ℕ) → (option_eq nat_eq a b ≡ true) ↔ (a ≡ b)
option_told None None = (λ _. refl, λ _. refl)
option_told None (Some b) = (λ h. absurd (false≢true h), λ e. absurd (let no : None ≡ Some b = e in cc))
option_told (Some a) None = (λ h. absurd (false≢true h), λ e. absurd (let no : Some a ≡ None = e in cc))
option_told (Some a) (Some b) = (λ h. ap (λ x. Some x) ((numbers a b).0 h), λ e. (numbers a b).1 (inside a b e))

abbrev sum_from : Option ℕ → ℕ → ℕ → Sum
sum_from through count total = record { through = through; count = count; total = total }

-- sums that compare as the same are one
pub same_sums : (a b : Sum) → ((option_eq nat_eq a.through b.through && (nat_eq a.count b.count && nat_eq a.total b.total)) ≡ true) ↔ (a ≡ b)
same_sums a b = (
  λ h.
      let first = and_parts (option_eq nat_eq a.through b.through) (nat_eq a.count b.count && nat_eq a.total b.total) h in
      let others = and_parts (nat_eq a.count b.count) (nat_eq a.total b.total) first.1 in
      let through = (option_told a.through b.through).0 first.0 in
      let count = (numbers a.count b.count).0 others.0 in
      let total = (numbers a.total b.total).0 others.1 in
      λ i. sum_from (through i) (count i) (total i),
  λ e. and_from (option_eq nat_eq a.through b.through) (nat_eq a.count b.count
      && nat_eq a.total b.total) ((option_told a.through b.through).1 (ap (λ (s : Sum). s.through) e))
      (and_from (nat_eq a.count b.count) (nat_eq a.total b.total) ((numbers a.count b.count).1 (ap (λ (s : Sum). s.count) e))
      ((numbers a.total b.total).1 (ap (λ (s : Sum). s.total) e))),
)

-- a sum of some of the dues so far counts fewer than all
pub count_fits : (p : Due → Bool) (dues : List Due) (i most : ℕ) (sum : Sum) → sum ≡ sum_kept p (take i dues) → i < length dues → length dues ≤ most
    → sum.count + 1 ≤ most
count_fits p dues i most sum is within long =
    let count = ap (λ (s : Sum). s.count) is in
    let few = few_kept p (take i dues) in
    let taken = length-take-le i dues (omega (arith, within)) in
    omega (arith, count, few, taken, within, long)

pub taken : (dues : List Due) (i : ℕ) (due : Due) → due ≡ slice_index_or dues i due → i < length dues → take (i + 1) dues ≡ take i dues ++ due ∷ []
taken dues i due is within = take_more dues i due within ∙ ap (λ d. take i dues ++ d ∷ []) (sym is)

pub taken_all : (dues : List Due) (i : ℕ) → i ≤ length dues → length dues ≤ i → take i dues ≡ dues
taken_all dues i most least = let is : i ≡ length dues = omega (arith, most, least) in ap (λ n. take n dues) is ∙ take-length dues
