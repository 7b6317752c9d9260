-- The rows of a month in the place of those that a map has of it.
use Rattle.std.proofs.Common.{◌≡◌, ◌⊎◌, ◌∙◌, refl, sym, ap, inl, inr, ℕ, Bool, true, false, not, nat_eq, List, Option, Some, None, Ordering}
use Rattle.std.specs.List.{filter}
use Rattle.std.specs.Cmp.{IsTotalOrder}
use Rattle.std.specs.FinMap.{FinMap, IsAntisymmetric, get, same_map, values}
use Rattle.dh_types.proofs.SameValues.{numbers}
use Rattle.dh_model.specs.Books.{StandUnder, with_rows}
use Rattle.dh_model.specs.Rules.{HaveTheSame}
use Rattle.dh_model.specs.Whole.{rows_where}
use Rattle.dh_model.proofs.Among.{Among, among, in_filter, is_among, of_filter}
use Rattle.dh_model.proofs.MapRows.{of_row, row_of}
use Rattle.dh_model.proofs.UnderKeys.{rows_where_keyed}
use Rattle.dh_laws.proofs.MapMerges.{get_kept, get_of_rows, get_past_rows, got_rows_where, got_with_rows, with_rows_keyed}

-- the row stands under the key
abbrev pub Has : {K X : Type 0} {R : K → K → Ordering} → FinMap R X → K → X → Type 0
Has m k x = get m k ≡ Some x

-- no two of the rows have one key
abbrev pub OneEach : {K X : Type 0} → (X → K) → List X → Type 0
OneEach {X = X} key rows = (x y : X) → Among rows x → Among rows y → key x ≡ key y → x ≡ y

same_option : {X : Type 0} (a b : Option X) → ((x : X) → a ≡ Some x → b ≡ Some x) → ((x : X) → b ≡ Some x → a ≡ Some x) → a ≡ b
same_option None None f g = refl
same_option None (Some y) f g = g y refl
same_option (Some x) b f g = sym (f x refl)

-- maps with the same rows are one
pub same_rows : {K X : Type 0} {R : K → K → Ordering} (o : IsTotalOrder R) (anti : IsAntisymmetric R) (m n : FinMap R X)
    → ((k : K) (x : X) → Has m k x → Has n k x) → ((k : K) (x : X) → Has n k x → Has m k x) → m ≡ n
same_rows o anti m n f g = same_map o anti m n (λ q. same_option (get m q) (get n q) (f q) (g q))

pub is_other : (n month : ℕ) → (n ≡ month → ⊥) → not (nat_eq n month) ≡ true
is_other n month h = other_by (nat_eq n month) refl
  where
    other_by : (b : Bool) → nat_eq n month ≡ b → not b ≡ true
    other_by true e = absurd (h ((numbers n month).0 e))
    other_by false e = refl

pub of_other : (n month : ℕ) → not (nat_eq n month) ≡ true → n ≡ month → ⊥
of_other n month h e =
    let same : nat_eq n month ≡ true = (numbers n month).1 e in
    let no : not true ≡ true = rw same at h in
    cc

pub same_or_other : (n month : ℕ) → (n ≡ month) ⊎ (n ≡ month → ⊥)
same_or_other n month = by (nat_eq n month) refl
  where
    by : (b : Bool) → nat_eq n month ≡ b → (n ≡ month) ⊎ (n ≡ month → ⊥)
    by true e = inl ((numbers n month).0 e)
    by false e = inr (λ s. let t : nat_eq n month ≡ true = (numbers n month).1 s in cc)

module _ {K X : Type 0} {R : K → K → Ordering} (key : X → K) (month_of : X → ℕ) where
  -- rows of a month that can stand in a map, in the place of those that it has of the month
  pub record Fits (m : FinMap R X) (month : ℕ) (rows : List X) : Type 0 where
    pub keyed : StandUnder key m
    pub one : OneEach key rows
    pub of_month : (x : X) → Among rows x → month_of x ≡ month
    pub apart : (x y : X) (k : K) → Among rows x → Has m k y → key x ≡ k → month_of y ≡ month

  -- the map without the rows of the month, and with these in their place
  abbrev pub others : FinMap R X → ℕ → FinMap R X
  others m month = rows_where (λ x. not (nat_eq (month_of x) month)) m

  abbrev pub replaced : FinMap R X → ℕ → List X → FinMap R X
  replaced m month rows = with_rows key rows (others m month)

  abbrev pub rows_in : FinMap R X → ℕ → List X
  rows_in m month = filter (λ x. nat_eq (month_of x) month) (values m)

  module _ (o : IsTotalOrder R) (anti : IsAntisymmetric R) where
    pub in_others : (m : FinMap R X) (month : ℕ) (k : K) (x : X) → Has (others m month) k x → Has m k x × (month_of x ≡ month → ⊥)
    in_others m month k x h = let w = got_rows_where o anti (λ x. not (nat_eq (month_of x) month)) m k x h in (w.0, of_other (month_of x) month w.1)

    pub of_others : (m : FinMap R X) (month : ℕ) (k : K) (x : X) → Has m k x → (month_of x ≡ month → ⊥) → Has (others m month) k x
    of_others m month k x h n = get_kept o anti (λ x. not (nat_eq (month_of x) month)) m k x h (is_other (month_of x) month n)

    pub in_rows : (m : FinMap R X) (month : ℕ) (x : X) → Among (rows_in m month) x → Among (values m) x × (month_of x ≡ month)
    in_rows m month x a = let kept = in_filter (λ x. nat_eq (month_of x) month) (values m) x a in (kept.0, (numbers (month_of x) month).0 kept.1)

    pub of_rows : (m : FinMap R X) (month : ℕ) (x : X) → Among (values m) x → month_of x ≡ month → Among (rows_in m month) x
    of_rows m month x a e = of_filter (λ x. nat_eq (month_of x) month) (values m) x ((numbers (month_of x) month).1 e) a

    -- where no row is of the month, all stay
    pub none_of_month : (m : FinMap R X) (month : ℕ) → ((k : K) (x : X) → Has m k x → month_of x ≡ month → ⊥) → others m month ≡ m
    none_of_month m month none = same_rows o anti (others m month) m (λ k x h. (in_others m month k x h).0) (λ k x h. of_others m month k x h (none k x h))

    module _ (m : FinMap R X) (month : ℕ) (rows : List X) (f : Fits m month rows) where
      -- what stands there then is one of the rows, or was there and is of another month
      pub in_replaced : (k : K) (x : X) → Has (replaced m month rows) k x → (Among rows x × (key x ≡ k)) ⊎ (Has m k x × (month_of x ≡ month → ⊥))
      in_replaced k x h = elim (got_with_rows o anti key rows (others m month) k x h) [
        | inl new ↦ inl new
        | inr old ↦ inr (in_others m month k x old.1)
      ]

      pub of_new : (x : X) → Among rows x → Has (replaced m month rows) (key x) x
      of_new x a = get_of_rows o anti key rows (others m month) x a (λ y b e. f.one y x b a e)

      pub of_old : (k : K) (x : X) → Has m k x → (month_of x ≡ month → ⊥) → Has (replaced m month rows) k x
      of_old k x h n = get_past_rows o anti key rows (others m month) k (λ y a e. n (f.apart y x k a h e)) ∙ of_others m month k x h n

      pub keyed_replaced : StandUnder key (replaced m month rows)
      keyed_replaced = with_rows_keyed o anti key rows (others m month) (rows_where_keyed o anti key (λ x. not (nat_eq (month_of x) month)) m f.keyed)

      pub value_of_replaced : (x : X) → Among (values (replaced m month rows)) x → Among rows x ⊎ (Among (values m) x × (month_of x ≡ month → ⊥))
      value_of_replaced x a =
          let at = row_of o anti (replaced m month rows) x a in
          elim (in_replaced at.0 x at.1) [
            | inl new ↦ inl new.0
            | inr old ↦ inr (of_row o anti m at.0 x old.0, old.1)
          ]

      -- those of other months are as they were
      pub others_stay : others (replaced m month rows) month ≡ others m month
      others_stay = same_rows o anti (others (replaced m month rows) month) (others m month)
          (λ k x h. let was = in_others (replaced m month rows) month k x h in
          elim (in_replaced k x was.0) [
            | inl new ↦ absurd (was.1 (f.of_month x new.0))
            | inr old ↦ of_others m month k x old.0 old.1
          ])
          (λ k x h. let was = in_others m month k x h in of_others (replaced m month rows) month k x (of_old k x was.0 was.1) was.1)

      -- and those of the month are the rows
      pub in_month : HaveTheSame (rows_in (replaced m month rows) month) rows
      in_month x = (
        λ a. let of = in_rows (replaced m month rows) month x (among (rows_in (replaced m month rows) month) x a) in
            elim (value_of_replaced x of.0) [
              | inl new ↦ is_among rows x new
              | inr old ↦ absurd (old.1 of.1)
            ],
        λ a. let new = among rows x a in
            is_among (rows_in (replaced m month rows) month) x
            (of_rows (replaced m month rows) month x (of_row o anti (replaced m month rows) (key x) x (of_new x new)) (f.of_month x new)),
      )

      pub in_other_month : (n : ℕ) → (n ≡ month → ⊥) → HaveTheSame (rows_in (replaced m month rows) n) (rows_in m n)
      in_other_month n apart x = (
        λ a. let of = in_rows (replaced m month rows) n x (among (rows_in (replaced m month rows) n) x a) in
            elim (value_of_replaced x of.0) [
              | inl new ↦ absurd (apart (sym of.1 ∙ f.of_month x new))
              | inr old ↦ is_among (rows_in m n) x (of_rows m n x old.0 of.1)
            ],
        λ a. let of = in_rows m n x (among (rows_in m n) x a) in
            let at = row_of o anti m x of.0 in
            is_among (rows_in (replaced m month rows) n) x
            (of_rows (replaced m month rows) n x (of_row o anti (replaced m month rows) at.0 x (of_old at.0 x at.1 (λ e. apart (sym of.1 ∙ e)))) of.1),
      )

      -- where the rows are those of the month already, nothing changes
      pub stays : HaveTheSame (rows_in m month) rows → replaced m month rows ≡ m
      stays same = same_rows o anti (replaced m month rows) m
          (λ k x h. elim (in_replaced k x h) [
            | inl new ↦
                let of = in_rows m month x (among (rows_in m month) x ((same x).1 (is_among rows x new.0))) in
                let at = row_of o anti m x of.0 in
                let place = sym (f.keyed at.0 x at.1) ∙ new.1 in
                ap (get m) (sym place) ∙ at.1
            | inr old ↦ old.0
          ])
          (λ k x h. elim (same_or_other (month_of x) month) [
            | inl own ↦
                let new = among rows x ((same x).0 (is_among (rows_in m month) x (of_rows m month x (of_row o anti m k x h) own))) in
                ap (get (replaced m month rows)) (sym (f.keyed k x h)) ∙ of_new x new
            | inr other ↦ of_old k x h other
          ])
