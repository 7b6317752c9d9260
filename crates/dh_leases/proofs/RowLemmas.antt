-- Rows put one by one, from the last.
use Rattle.std.proofs.Common.{◌≡◌, ◌∙◌, sym, ap, List, [], ◌∷◌, ◌++◌, length}
use Rattle.std.specs.declared.cmp.Ordering.{Ordering}
use Rattle.std.specs.Cmp.{IsTotalOrder}
use Rattle.std.specs.FinMap.{FinMap, IsAntisymmetric, entries, from_entries, get-entries, get-from_entries, insert, same_map}
use Rattle.std.proofs.lemmas.List.{nil_from_length}
use Rattle.dh_model.specs.Books.{State, with_rows}

module _ {K X : Type 0} {R : K → K → Ordering} (o : IsTotalOrder R) (ties : IsAntisymmetric R) (key : X → K) where
  pub no_rows : (m : FinMap R X) → with_rows key [] m ≡ m
  no_rows m = same_map o ties (from_entries (entries m)) m (λ q. get-from_entries o (entries m) q ∙ sym (get-entries m q))

  -- the last row is put first
  pub last_row : (rows : List X) (row : X) (m : FinMap R X) → with_rows key rows (insert m (key row) row) ≡ with_rows key (rows ++ row ∷ []) m
  last_row [] row m = no_rows (insert m (key row) row) ∙ ap (λ n. insert n (key row) row) (sym (no_rows m))
  last_row (first ∷ rows) row m = ap (λ n. insert n (key first) first) (last_row rows row m)

  -- in books with a table of such rows: the last row is put, and the others are left; or none is left
  module _ (held : State → FinMap R X) (put : FinMap R X → State → State) (again : (m n : FinMap R X) (s : State) → put n (put m s) ≡ put n s)
      (has : (m : FinMap R X) (s : State) → held (put m s) ≡ m) (s : State) where
    pub last_put : (t : State) (rest rows : List X) (row : X) → t ≡ put (insert (held s) (key row) row) s → rows ≡ rest ++ row ∷ []
        → put (with_rows key rest (held t)) t ≡ put (with_rows key rows (held s)) s
    last_put t rest rows row is all =
        ap (λ u. put (with_rows key rest (held u)) u) is ∙ again (insert (held s) (key row) row) _ s
        ∙ ap (λ m. put m s) (ap (with_rows key rest) (has _ s) ∙ last_row rest row (held s) ∙ ap (λ l. with_rows key l (held s)) (sym all))

    pub none_put : (rows : List X) → put (held s) s ≡ s → length rows ≡ 0 → s ≡ put (with_rows key rows (held s)) s
    none_put rows same none =
        sym same ∙ ap (λ m. put m s) (sym (no_rows (held s)) ∙ ap (λ l. with_rows key l (held s)) (sym (nil_from_length rows none)))
