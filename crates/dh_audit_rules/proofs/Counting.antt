-- Counts by code, as a loop over rows counts on.
use Rattle.std.proofs.Common.{◌≡◌, ◌∙◌, ap, ℕ, ◌+◌, ◌≤◌, Bool, true, false, cond, List, ◌∷◌, length, Some, arith}
use Rattle.std.specs.List.{count_by}
use Rattle.std.specs.Option.{unwrap_or}
use Rattle.std.specs.BTreeMap.{BTreeMap, get}
use Rattle.std.proofs.lemmas.List.Sums.{sum_by-cons}
use Rattle.dh_types.proofs.SameValues.{texts}
use Rattle.dh_model.specs.Books.{text_cmp}
use Rattle.dh_model.specs.Checks.{is_same_text}
use Rattle.dh_audit_rules.specs.Counts.{count_at}

-- one more put under a code
pub one_more : (counts : BTreeMap (List ℕ) ℕ) (code other : List ℕ) (n : ℕ) → n ≡ count_at counts code + 1 → (b : Bool) → is_same_text code other ≡ b
    → unwrap_or (cond b (Some n) (get text_cmp counts other)) 0 ≡ count_at counts other + cond b 1 0
one_more counts code other n is true same = is ∙ ap (λ code. count_at counts code + 1) ((texts code other).0 same)
one_more counts code other n is false differ = omega arith

at_most_one : (b : Bool) → cond b 1 0 ≤ 1
at_most_one true = omega arith
at_most_one false = omega arith

module _ {X : Type 0} (test : X → Bool) (x : X) (xs ys : List X) (n m : ℕ) (b : Bool) (front : xs ≡ x ∷ ys) (is : test x ≡ b) (added : n ≡ m + cond b 1 0) where
  -- the first of what is left is counted
  pub counted_on : (all : ℕ) → m + count_by test xs ≡ all → n + count_by test ys ≡ all
  counted_on all so_far =
      let here : count_by test xs ≡ cond b 1 0 + count_by test ys =
      ap (count_by test) front ∙ sum_by-cons (λ y. cond (test y) 1 0) x ys ∙ ap (λ b. cond b 1 0 + count_by test ys) is in
      omega (arith, here, added, so_far)

  pub still_fits : (most : ℕ) → m + length xs ≤ most → n + length ys ≤ most
  still_fits most so_far =
      let here : length xs ≡ length (x ∷ ys) = ap length front in
      let one = at_most_one b in
      omega (arith, here, one, added, so_far)
