-- What one look brings, said of books and tables that are equal to these.
use Rattle.std.proofs.Common.{◌≡◌, ◌∙◌, refl, sym, ap, Bool, ◌||◌, false, Option, Some, None}
use Rattle.std.specs.declared.cmp.Ordering.{Ordering}
use Rattle.std.specs.Cmp.{IsTotalOrder}
use Rattle.std.specs.FinMap.{FinMap, IsAntisymmetric, empty, get, get-empty, same_map}
use Rattle.sqlite_trees.specs.Tree.{Trees}
use Rattle.dh_model.specs.Books.{State}
use Rattle.dh_model.specs.Whole.{rows_where}
use Rattle.dh_model.proofs.MapRows.{kept_if}
use Rattle.dh_laws.proofs.MapMerges.{get-rows_where}
use Rattle.dh_sql.specs.Shape.{Shape, rows_in}
use Rattle.dh_tables.specs.Tables.{Accessor}
use Rattle.dh_schema.specs.Tables.{state_in}

module _ {K X : Type 0} {R : K → K → Ordering} (o : IsTotalOrder R) (anti : IsAntisymmetric R) where
  no_row : (found : Option X) → None ≡ kept_if (λ _. false) found
  no_row None = refl
  no_row (Some x) = refl

  -- a test that no row passes leaves none
  none_pass : (m : FinMap R X) → empty ≡ rows_where (λ _. false) m
  none_pass m = same_map o anti _ _ (λ q. get-empty R q ∙ no_row (get m q) ∙ sym (get-rows_where o anti (λ _. false) m q))

  module _ (it : Shape K X) (accessor : Accessor K X R) (asks : X → Bool) (trees : Trees) (t b old new : State)
      (holds : accessor.held (state_in trees) ≡ rows_in it trees) (at : state_in trees ≡ t) (is : old ≡ b)
      (fetched : (test : X → Bool) → accessor.held old ≡ rows_where test (rows_in it trees)
      → new ≡ accessor.with old (rows_where (λ x. test x || asks x) (rows_in it trees))) where
    rows : accessor.held t ≡ rows_in it trees
    rows = ap accessor.held (sym at) ∙ holds

    pub taken_more : (test : X → Bool) → accessor.held b ≡ rows_where test (accessor.held t)
        → new ≡ accessor.with b (rows_where (λ x. test x || asks x) (accessor.held t))
    taken_more test begun =
        fetched test (ap accessor.held is ∙ begun ∙ ap (rows_where test) rows)
        ∙ ap (λ (s : State). accessor.with s (rows_where (λ x. test x || asks x) (rows_in it trees))) is
        ∙ ap (λ (m : FinMap R X). accessor.with b (rows_where (λ x. test x || asks x) m)) (sym rows)

    pub taken : accessor.held b ≡ empty → new ≡ accessor.with b (rows_where asks (accessor.held t))
    taken none = taken_more (λ _. false) (none ∙ none_pass (accessor.held t))
