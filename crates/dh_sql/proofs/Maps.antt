-- A map of entries does not know their order.
use Rattle.std.proofs.Common.{◌≡◌, List, [], ◌∷◌, Bool, true, false, cond, Option, Some, refl, sym, ap, ◌∙◌, IsPermutation}
use Rattle.std.specs.declared.cmp.Ordering.{Ordering}
use Rattle.std.specs.Ordering.{eq_by_cmp}
use Rattle.std.specs.Cmp.{IsTotalOrder}
use Rattle.std.proofs.lemmas.Cmp.{eq_by_cmp_equiv}
use Rattle.std.specs.FinMap.{IsAntisymmetric, from_entries, insert, get-from_entries, get-insert, same_map}
use Rattle.std.specs.FinMap.Entries.{find}
use Rattle.std.specs.List.{IsDistinct}
use Rattle.std.specs.Map.{keys_of}
use Rattle.std.proofs.lemmas.List.Sorted.{IsPermutation-refl, IsPermutation-cons, IsPermutation-middle, IsPermutation-trans, IsPermutation-map}
use Rattle.std.proofs.lemmas.Map.Keys.{IsDistinct-IsPermutation}
use Rattle.sqlite_trees.proofs.ListLemmas.{along_permutation}

turned : {X : Type 0} (a b : Bool) (u v f : Option X) → (a ≡ true → b ≡ true → ⊥) → cond b v (cond a u f) ≡ cond a u (cond b v f)
turned false b u v f apart = refl
turned true false u v f apart = refl
turned true true u v f apart = absurd (apart refl refl)

module _ {K X : Type 0} {R : K → K → Ordering} (o : IsTotalOrder R) where
  abbrev Finds : K → List (K × X) → List (K × X) → Type 0
  Finds q es fs = IsPermutation es fs × (IsDistinct (eq_by_cmp R) (keys_of es) → find R q fs ≡ find R q es)

  swapped : (q : K) (x y : K × X) (es : List (K × X)) → Finds q (x ∷ y ∷ es) (y ∷ x ∷ es)
  unfolding IsDistinct
  swapped q x y es = (
    IsPermutation-middle (x ∷ []) y es,
    λ d. turned (eq_by_cmp R q x.0) (eq_by_cmp R q y.0) _ _ _ (λ one two.
        let both : eq_by_cmp R x.0 y.0 ≡ true = sym ((eq_by_cmp_equiv o).congr q x.0 y.0 one) ∙ two in
        let apart = d.0.0 in
        absurd (cc)),
  )

  pub same_found : (q : K) (es fs : List (K × X)) → IsPermutation es fs → Finds q es fs
  unfolding IsDistinct
  same_found q = along_permutation (Finds q) (λ es. (IsPermutation-refl es, λ _. refl))
      (λ x es fs h. (IsPermutation-cons x es fs h.0, λ d. ap (cond (eq_by_cmp R q x.0) (Some x.1)) (h.1 d.1)))
      (swapped q)
      (λ es fs hs p r. (
        IsPermutation-trans es fs hs p.0 r.0,
        λ d. r.1 (IsDistinct-IsPermutation (eq_by_cmp R) (eq_by_cmp_equiv o).symm (keys_of es) (keys_of fs) (IsPermutation-map _ es fs p.0) d) ∙ p.1 d,
      ))

  module _ (anti : IsAntisymmetric R) where
    -- the map of the entries, in whatever order
    pub from_permutation : (es fs : List (K × X)) → IsPermutation es fs → IsDistinct (eq_by_cmp R) (keys_of es)
        → from_entries {R = R} fs ≡ from_entries es
    from_permutation es fs perm distinct =
        same_map o anti _ _ (λ q. get-from_entries o fs q ∙ (same_found q es fs perm).1 distinct ∙ sym (get-from_entries o es q))

    -- one more entry, whose key is new
    pub from_more : (k : K) (v : X) (es fs : List (K × X)) → IsPermutation ((k, v) ∷ es) fs → IsDistinct (eq_by_cmp R) (keys_of ((k, v) ∷ es))
        → from_entries {R = R} fs ≡ insert (from_entries es) k v
    from_more k v es fs perm distinct = same_map o anti _ _ (λ q.
        get-from_entries o fs q ∙ (same_found q ((k, v) ∷ es) fs perm).1 distinct
        ∙ ap (cond (eq_by_cmp R q k) (Some v)) (sym (get-from_entries o es q)) ∙ sym (get-insert o (from_entries es) k v q))
