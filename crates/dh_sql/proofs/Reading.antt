-- What a query over one table answers, with no grouping and no limit.
use Rattle.std.proofs.Common.{◌≡◌, ℕ, List, [], ◌∷◌, ◌++◌, map, filter, flat_map, Bool, true, false, if◌then◌else◌, refl, sym, ap, subst, ◌∙◌}
use Rattle.std.specs.Prelude.{IsPermutation, IsSorted}
use Rattle.std.proofs.lemmas.List.Sorted.{IsPermutation-map}
use Rattle.sqlite.specs.declared.types.Value.{Value}
use Rattle.sqlite_value.specs.declared.keys.Key.{Key}
use Rattle.sqlite.specs.Order.{Row}
use Rattle.sqlite.specs.Term.{Term, Env}
use Rattle.sqlite.specs.Query.{Query, IsAnswerAs, Output, output, output_cmp}
use Rattle.sqlite.specs.Tree.{Trees}
use Rattle.dh_sql.specs.Queries.{passes_all, plain_query, shows}

abbrev pub found : Row → List Term → List Row → List Env
found params tests rows = map (λ r. params ∷ r ∷ []) (filter (passes_all params tests) rows)

pub matched : (params : Row) (tests : List Term) (rows : List Row)
    → flat_map (λ r. if passes_all params tests r then (params ∷ r ∷ []) ∷ [] else []) rows ≡ found params tests rows
matched params tests [] = refl
matched params tests (r ∷ rows) = one (passes_all params tests r) (matched params tests rows)
  where
    rest : List Env
    rest = flat_map (λ r. if passes_all params tests r then (params ∷ r ∷ []) ∷ [] else []) rows

    one : (b : Bool) → rest ≡ found params tests rows
        → ◌≡◌ {A = List Env} ((if b then (params ∷ r ∷ []) ∷ [] else []) ++ rest)
        (map (λ r. params ∷ r ∷ []) (if b then r ∷ filter (passes_all params tests) rows else filter (passes_all params tests) rows))
    one true e = ap (λ xs. (params ∷ r ∷ []) ∷ xs) e
    one false e = e

pub record IsPlainAnswer (q : Query) (params : Row) (rows : List Row) (answer : List Row) : Type 0 where
  pub ordered : List Output
  pub same : IsPermutation (map (output q) (found params q.filter rows)) ordered
  pub sorted : IsSorted (output_cmp q) ordered
  pub shown : answer ≡ map (λ (o : Output). o.1) ordered

module _ (lost : Value) (tree : ℕ) (tests project : List Term) (order : List (Term × Key)) (db : Trees) (params : Row) (answer : List Row) where
  abbrev q : Query
  q = plain_query tree tests project order

  pub plain_answer : IsAnswerAs lost (plain_query tree tests project order) db params answer
      → IsPlainAnswer (plain_query tree tests project order) params (db tree) answer
  plain_answer a =
      let staged : a.staged ≡ found params tests (db tree) = a.grouped ∙ matched params tests (db tree) in
      let kept : a.kept ≡ map (output q) (found params tests (db tree)) = a.distinct ∙ ap (map (output q)) staged in
      record { ordered = a.ordered; same = subst (λ k. IsPermutation k a.ordered) kept a.same; sorted = a.sorted; shown = a.shown }

  shown_of : (rows : List Row) → map (λ (o : Output). o.1) (map (output q) (map (λ r. params ∷ r ∷ []) rows)) ≡ map (shows project params) rows
  shown_of [] = refl
  shown_of (r ∷ rows) = ap (λ xs. shows project params r ∷ xs) (shown_of rows)

  -- what it answers is what the rows show that pass, in some order
  pub plain_rows : IsAnswerAs lost (plain_query tree tests project order) db params answer
      → IsPermutation (map (shows project params) (filter (passes_all params tests) (db tree))) answer
  plain_rows a =
      let p = plain_answer a in
      let few = filter (passes_all params tests) (db tree) in
      let moved = IsPermutation-map (λ (o : Output). o.1) _ _ p.same in
      let listed = subst (λ xs. IsPermutation xs (map (λ (o : Output). o.1) p.ordered)) (shown_of few) moved in
      subst (IsPermutation (map (shows project params) few)) (sym p.shown) listed
