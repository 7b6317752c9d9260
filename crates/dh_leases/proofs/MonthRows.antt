-- More rows of a month put into a map that has rows of it.
use Rattle.std.proofs.Common.{◌≡◌, ◌⊎◌, ◌∙◌, refl, sym, ap, subst, inl, inr, ℕ, List, Option, Some, None, Ordering}
use Rattle.std.specs.Option.{option_or}
use Rattle.std.specs.Cmp.{IsTotalOrder}
use Rattle.std.specs.FinMap.{FinMap, IsAntisymmetric, get}
use Rattle.dh_model.specs.Books.{with_rows}
use Rattle.dh_model.proofs.Among.{Among}
use Rattle.dh_laws.proofs.MapMerges.{get-with_rows, get_of_rows, get_past_rows, got_with_rows, row_at, row_at_is, row_at_own}
use Rattle.dh_laws.proofs.BatchLemmas.MonthRows.{Fits, Has, OneEach, in_replaced, of_new, of_old, replaced, same_rows}

module _ {K X : Type 0} {R : K → K → Ordering} (key : X → K) (month_of : X → ℕ) (o : IsTotalOrder R) (anti : IsAntisymmetric R) where
  module _ (m : FinMap R X) (month : ℕ) (rows more : List X) (f : Fits key month_of m month rows) (g : Fits key month_of m month more) where
    abbrev before : FinMap R X
    before = replaced key month_of m month rows

    abbrev after : FinMap R X
    after = replaced key month_of m month more

    had : (k : K) (x : X) → Among rows x → key x ≡ k → Has before k x
    had k x a e = ap (get before) (sym e) ∙ of_new key month_of o anti m month rows f x a

    has : (k : K) (x : X) → Among more x → key x ≡ k → Has after k x
    has k x a e = ap (get after) (sym e) ∙ of_new key month_of o anti m month more g x a

    -- a row that is of none of the rows of before has a key that was free
    pub was_free : (x : X) → Among more x → ((y : X) → Among rows y → key y ≡ key x → ⊥) → get before (key x) ≡ None
    was_free x a apart = free (get before (key x)) refl
      where
        free : (found : Option X) → get before (key x) ≡ found → get before (key x) ≡ None
        free None e = e
        free (Some y) e = elim (in_replaced key month_of o anti m month rows f (key x) y e) [
          | inl own ↦ absurd (apart y own.0 own.1)
          | inr other ↦ absurd (other.1 (g.apart x y (key x) a other.0 refl))
        ]

    module _ (new : List X) (are : (x : X) → Among new x → Among more x)
        (kept : (x : X) → Among rows x → Among more x ⊎ ((y : X) × Among new y × (key y ≡ key x)))
        (come : (x : X) → Among more x → Among new x ⊎ Among rows x) where
      one_new : OneEach key new
      one_new x y a b e = g.one x y (are x a) (are y b) e

      abbrev put : FinMap R X
      put = with_rows key new before

      is_put : (k : K) (x : X) → Among new x → key x ≡ k → Has put k x
      is_put k x a e = ap (get put) (sym e) ∙ get_of_rows o anti key new before x a (λ y b s. one_new y x b a s)

      to : (k : K) (x : X) → Has put k x → Has after k x
      to k x h = elim (got_with_rows o anti key new before k x h) [
        | inl fresh ↦ has k x (are x fresh.0) fresh.1
        | inr old ↦ elim (in_replaced key month_of o anti m month rows f k x old.1) [
          | inl own ↦ elim (kept x own.0) [
            | inl still ↦ has k x still own.1
            | inr gone ↦
                let at = row_at_own o anti key new gone.0 gone.1 (λ z b e. one_new z gone.0 b gone.1 e) in
                let there : row_at o anti key k new ≡ Some gone.0 = ap (λ q. row_at o anti key q new) (sym (gone.2 ∙ own.1)) ∙ at in
                let no : None ≡ Some gone.0 = sym old.0 ∙ there in
                cc
          ]
          | inr other ↦ of_old key month_of o anti m month more g k x other.0 other.1
        ]
      ]

      past : (k : K) (x : X) → Among more x → Among rows x → key x ≡ k → (at : Option X) → row_at o anti key k new ≡ at → Has put k x
      past k x a b own None e = get-with_rows o anti key new before k ∙ ap (λ at. option_or at (get before k)) e ∙ had k x b own
      past k x a b own (Some y) e =
          let is = row_at_is o anti key new k y e in
          is_put k x (subst (λ z. Among new z) (g.one y x (are y is.0) a (is.1 ∙ sym own)) is.0) own

      from : (k : K) (x : X) → Has after k x → Has put k x
      from k x h = elim (in_replaced key month_of o anti m month more g k x h) [
        | inl own ↦ elim (come x own.0) [
          | inl fresh ↦ is_put k x fresh own.1
          | inr was ↦ past k x own.0 was own.1 (row_at o anti key k new) refl
        ]
        | inr other ↦
            get_past_rows o anti key new before k (λ y a e. other.1 (g.apart y x k (are y a) other.0 e))
            ∙ of_old key month_of o anti m month rows f k x other.0 other.1
      ]

      -- the new rows lead from the ones to the others
      pub led : with_rows key new (replaced key month_of m month rows) ≡ replaced key month_of m month more
      led = same_rows o anti put after to from
