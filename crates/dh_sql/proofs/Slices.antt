-- Rows that were looked at, put beside others that were.
use Rattle.std.proofs.Common.{◌≡◌, ◌∙◌, ◌||◌, refl, sym, ap, Bool, true, false, cond, List, [], ◌∷◌, map, Option, Some, None}
use Rattle.std.specs.declared.cmp.Ordering.{Ordering}
use Rattle.std.specs.Ordering.{eq_by_cmp}
use Rattle.std.specs.List.{AllByRecursion, IsDistinct}
use Rattle.std.specs.Option.{option_or}
use Rattle.std.specs.Cmp.{IsTotalOrder}
use Rattle.std.specs.FinMap.{FinMap, IsAntisymmetric, find, get, get-empty, empty, get-from_entries, get-insert, same_map}
use Rattle.sqlite_value.specs.Order.{Row}
use Rattle.dh_model.specs.Whole.{rows_where}
use Rattle.dh_model.proofs.MapRows.{kept_if, same_key}
use Rattle.dh_laws.proofs.MapMerges.{get-rows_where}
use Rattle.dh_sql.specs.Shape.{Shape, rows_of, shown_keys, under_key}
use Rattle.dh_sql.specs.Gathered.{put_row, put_rows}

module _ {K X : Type 0} {R : K → K → Ordering} (o : IsTotalOrder R) (anti : IsAntisymmetric R) (it : Shape K X) where
  abbrev es_of : List Row → List (K × X)
  es_of rows = map (λ row. under_key it (it.row_in row)) rows

  skipped : (k : K) (rows : List Row) → AllByRecursion (λ j. eq_by_cmp R k j ≡ false) (shown_keys it rows) → find R k (es_of rows) ≡ None
  skipped k [] h = refl
  skipped k (r ∷ rows) h = ap (λ b. cond b (Some (it.row_in r)) (find R k (es_of rows))) h.0 ∙ skipped k rows h.1

  -- the first row, before or behind the others
  turned : (b : Bool) (x : X) (later there : Option X) → (b ≡ true → later ≡ None)
      → option_or later (cond b (Some x) there) ≡ option_or (cond b (Some x) later) there
  turned true x later there none = ap (λ l. option_or l (Some x)) (none refl)
  turned false x later there none = refl

  got : (rows : List Row) (m : FinMap R X) (q : K) → IsDistinct (eq_by_cmp R) (shown_keys it rows)
      → get (put_rows it rows m) q ≡ option_or (find R q (es_of rows)) (get m q)
  unfolding IsDistinct
  got [] m q d = refl
  got (r ∷ rows) m q d =
      let k = it.key (it.row_in r) in
      got rows (put_row it m r) q d.1 ∙ ap (option_or (find R q (es_of rows))) (get-insert o m k (it.row_in r) q)
      ∙ turned (eq_by_cmp R q k) (it.row_in r) (find R q (es_of rows)) (get m q)
      (λ ties. ap (λ j. find R j (es_of rows)) (same_key o anti q k ties) ∙ skipped k rows d.0)

  none_more : (found : Option X) → option_or found None ≡ found
  none_more None = refl
  none_more (Some x) = refl

  -- the rows alone
  pub put_alone : (rows : List Row) → IsDistinct (eq_by_cmp R) (shown_keys it rows) → put_rows it rows (empty {R = R}) ≡ rows_of it rows
  put_alone rows d = same_map o anti _ _ (λ q.
      got rows empty q d ∙ ap (option_or (find R q (es_of rows))) (get-empty R q) ∙ none_more (find R q (es_of rows)) ∙ sym (get-from_entries o (es_of rows) q))

  either : (t u : X → Bool) (found : Option X) → option_or (kept_if u found) (kept_if t found) ≡ kept_if (λ x. t x || u x) found
  either t u None = refl
  either t u (Some x) = by (t x) (u x)
    where
      by : (a b : Bool) → option_or (cond b (Some x) None) (cond a (Some x) None) ≡ cond (a || b) (Some x) None
      by true true = refl
      by true false = refl
      by false true = refl
      by false false = refl

  -- two look-ups in one map are one look-up of both
  pub put_beside : (t u : X → Bool) (m : FinMap R X) (rows : List Row) → IsDistinct (eq_by_cmp R) (shown_keys it rows)
      → rows_of it {R = R} rows ≡ rows_where u m → put_rows it rows (rows_where t m) ≡ rows_where (λ x. t x || u x) m
  put_beside t u m rows d is = same_map o anti _ _ (λ q.
      got rows (rows_where t m) q d
      ∙ ap (λ f. option_or f (get (rows_where t m) q)) (sym (get-from_entries o (es_of rows) q) ∙ ap (λ n. get n q) is ∙ get-rows_where o anti u m q)
      ∙ ap (option_or (kept_if u (get m q))) (get-rows_where o anti t m q) ∙ either t u (get m q)
      ∙ sym (get-rows_where o anti (λ x. t x || u x) m q))
