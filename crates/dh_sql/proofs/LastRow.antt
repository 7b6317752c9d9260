-- What SELECT .. ORDER BY key DESC LIMIT 1 shows of a table whose keys are numbers.
use Rattle.std.proofs.Common.{get_or, subst₂, suc, ◌+◌, flat_map, ◌≡◌, ◌∙◌, ◌≤◌, refl, sym, ap, subst, ℕ, pos, false, List}
use Rattle.std.proofs.Common.{[], ◌∷◌, map, Result, Ok, Err, IfOk, IsPermutation, is_lt, arith}
use Rattle.std.specs.Prelude.{IsSorted, Vec}
use Rattle.std.specs.declared.alloc.Global.{Global}
use Rattle.std.specs.declared.cmp.Ordering.{Ordering}
use Rattle.std.specs.Ordering.{int_cmp}
use Rattle.std.specs.List.{AllByRecursion}
use Rattle.std.proofs.lemmas.Bool.Decides.{nat_tests}
use Rattle.std.proofs.lemmas.List.Sorted.{IsPermutation-sym}
use Rattle.sqlite_value.specs.declared.value.Value.TheVariants.{Int, Null}
use Rattle.sqlite_value.specs.Order.{Row, value_cmp}
use Rattle.sqlite_value.specs.declared.value.Value.{Value}
use Rattle.sqlite_value.proofs.OrderLemmas.{then-Equal, value_cmp-Int}
use Rattle.sqlite_trees.proofs.ListLemmas.{all-map, all-permutation, all_from_map, map-map}
use Rattle.sqlite_rules.specs.Lists.{Has}
use Rattle.sqlite_schema.specs.declared.schema.Schema.{Schema}
use Rattle.sqlite.specs.Term.{Term, eval}
use Rattle.sqlite.specs.Tree.{Trees}
use Rattle.sqlite.specs.Program.{overlay}
use Rattle.sqlite.specs.Query.{IsAnswerAs, Output, key_cmp, output, output_cmp, page}
use Rattle.sqlite.specs.State.{State, Shown}
use Rattle.sqlite.specs.declared.error.Error.{Error}
use Rattle.sqlite.proofs.Callers.{reads_as}
use Rattle.dh_sql.specs.Queries.{downwards, last_query, shows}
use Rattle.dh_sql.specs.Shape.{IsGreatest, IsStored, Shape, number_at}
use Rattle.dh_sql.specs.Texts.{IsLastText}
use Rattle.dh_sql.proofs.WholeTable.{no_tests}
use Rattle.dh_sql.proofs.Lists.{all_from_has, has_all}
use Rattle.dh_sql.proofs.Reading.{found, matched}

module _ {X : Type 0} (it : Shape ℕ X) where
  falls : (m n : ℕ) → is_lt (int_cmp (pos m) (pos n)) ≡ false → n ≤ m
  falls m n h = grind (arith, nat_tests)

  same_number : (m n : ℕ) → Int (pos m) ∷ [] ≡ Int (pos n) ∷ [] → m ≡ n
  same_number m n h = cc

  module _
      (project : List Term) (key : Term)
      (columns : (r : Row) → shows project [] r ≡ it.columns r)
      (keyed : (r : Row) → IsStored it r → eval key ([] ∷ r ∷ []) ≡ Int (pos (number_at it r)))
      (all : List Row) (stored : AllByRecursion (IsStored it) all) where
    abbrev out : Row → Output
    out r = output (last_query it.tree project key) ([] ∷ r ∷ [])

    ranked : (r : Row) → Has all r → (out r).0 ≡ Int (pos (number_at it r)) ∷ []
    ranked r has = ap (λ v. v ∷ []) (keyed r (has_all (IsStored it) all r stored has))

    -- it stands for a row, whose number is no greater than this one
    abbrev IsBelow : ℕ → Output → Type 0
    IsBelow n o = (r : Row) × Has all r × (o ≡ out r) × (number_at it r ≤ n)

    abbrev IsOf : Output → Type 0
    IsOf o = (r : Row) × Has all r × (o ≡ out r)

    no_row : (rows : List Row) → AllByRecursion (λ r. ⊥) rows → rows ≡ []
    no_row [] h = refl
    no_row (r ∷ rows) h = absurd h.0

    compared : (m n : ℕ) → key_cmp 0 (downwards ∷ []) (Int (pos m) ∷ []) (Int (pos n) ∷ []) ≡ int_cmp (pos n) (pos m)
    compared m n = then-Equal (value_cmp (Int (pos n)) (Int (pos m))) ∙ value_cmp-Int (pos n) (pos m)

    next_falls : (x y : Row) → Has all x → Has all y → is_lt (output_cmp (last_query it.tree project key) (out y) (out x)) ≡ false
        → number_at it y ≤ number_at it x
    next_falls x y hx hy h =
        let cmp : Row → Row → Ordering = key_cmp 0 (downwards ∷ []) in
        let same : cmp (out y).0 (out x).0 ≡ int_cmp (pos (number_at it x)) (pos (number_at it y)) =
        (λ i. cmp (ranked y hy i) (ranked x hx i)) ∙ compared (number_at it y) (number_at it x) in
        falls (number_at it x) (number_at it y) (sym (ap is_lt same) ∙ h)

    all_below : (n : ℕ) (o : Output) (os : List Output) → IsBelow n o → AllByRecursion IsOf os
        → IsSorted (output_cmp (last_query it.tree project key)) (o ∷ os) → AllByRecursion (IsBelow n) (o ∷ os)
    all_below n o [] low of sorted = (low, tt)
    all_below n o (p ∷ os) low of sorted =
        let x = low.0 in
        let y = of.0.0 in
        let first = sorted 0 o (omega arith) (omega arith) in
        let cmp = output_cmp (last_query it.tree project key) in
        let falls = next_falls x y low.1 of.0.1 (subst₂ (λ a b. is_lt (cmp a b) ≡ false) of.0.2 low.2 first) in
        let next : IsBelow n p = (y, of.0.1, of.0.2, omega (arith, falls, low.3)) in
        let more : (k : ℕ) → k + 1 ≡ suc k = λ k. omega arith in
        let rest : IsSorted cmp (p ∷ os) = λ k d from to.
        let at : ℕ → Output = λ n. get_or (o ∷ p ∷ os) n d in
        subst₂ (λ i j. is_lt (cmp (at i) (at j)) ≡ false) (more (k + 1)) (more k) (sorted (k + 1) d (omega arith) (omega arith)) in
        (low, all_below n p os next of.1 rest)

    within : (n : ℕ) (r : Row) → Has all r → IsBelow n (out r) → number_at it r ≤ n
    within n r has low =
        let same = same_number (number_at it r) (number_at it low.0) (sym (ranked r has) ∙ ap (λ (o : Output). o.0) low.2 ∙ ranked low.0 low.1) in
        omega (arith, same, low.3)

    module _ (lost : Value) (db : Trees) (rows : List Row) (same : db it.tree ≡ all) where
      top_shown : IsAnswerAs lost (last_query it.tree project key) db [] rows → IsGreatest it all rows
      top_shown a = by a.ordered refl
        where
          staged : a.staged ≡ found [] [] all
          staged = a.grouped ∙ ap (λ few. flat_map (λ r. ([] ∷ r ∷ []) ∷ []) few) same ∙ matched [] [] all

          perm : (os : List Output) → a.ordered ≡ os → IsPermutation (map out all) os
          perm os is =
              let few : found [] [] all ≡ map (λ r. [] ∷ r ∷ []) all = ap (map (λ r. [] ∷ r ∷ [])) (no_tests all) in
              let outs = a.distinct ∙ ap (map (output (last_query it.tree project key))) (staged ∙ few)
              ∙ map-map (output (last_query it.tree project key)) (λ (r : Row). [] ∷ r ∷ []) all in
              subst₂ IsPermutation outs is a.same

          by : (os : List Output) → a.ordered ≡ os → IsGreatest it all rows
          by [] is =
              let none = all_from_map (λ o. ⊥) out all (all-permutation (λ o. ⊥) [] (map out all) (IsPermutation-sym _ _ (perm [] is)) tt) in
              let shown : rows ≡ [] = a.shown ∙ ap (λ os. page (last_query it.tree project key) [] (map (λ (o : Output). o.1) os)) is in
              subst (IsGreatest it all) (sym shown) (no_row all none)
          by (o ∷ os) is =
              let each = all_from_has (λ r. IsOf (out r)) all (λ r has. (r, has, refl)) in
              let of = all-permutation IsOf (map out all) (o ∷ os) (perm (o ∷ os) is) (all-map IsOf out all each) in
              let top = of.0.0 in
              let n = number_at it top in
              let sorted = subst (IsSorted (output_cmp (last_query it.tree project key))) is a.sorted in
              let below = all_below n o os (top, of.0.1, of.0.2, omega arith) of.1 sorted in
              let back = all_from_map (IsBelow n) out all
              (all-permutation (IsBelow n) (o ∷ os) (map out all) (IsPermutation-sym _ _ (perm (o ∷ os) is)) below) in
              let most = all_from_has (λ r. number_at it r ≤ n) all (λ r has. within n r has (has_all (λ x. IsBelow n (out x)) all r back has)) in
              let shown : rows ≡ o.1 ∷ [] = a.shown ∙ ap (λ os. page (last_query it.tree project key) [] (map (λ (o : Output). o.1) os)) is in
              subst (IsGreatest it all) (sym shown) (top, of.0.1, ap (λ (o : Output). o.1) of.0.2 ∙ columns top, most)

  module _
      (text : List ℕ) (schema : Schema) (project : List Term) (key : Term) (names : List (List ℕ))
      (is : IsLastText text schema it.tree project key names)
      (columns : (r : Row) → shows project [] r ≡ it.columns r)
      (keyed : (r : Row) → IsStored it r → eval key ([] ∷ r ∷ []) ≡ Int (pos (number_at it r)))
      (old new : State) (has : old.now.schema ≡ schema) (stored : AllByRecursion (IsStored it) (old.now.trees it.tree)) where
    pub greatest_shown : (r : Result (Vec Row Global) Error) → IfOk r (λ rows. Shown text [] old new rows.items)
        → IfOk r (λ rows. IsGreatest it (old.now.trees it.tree) rows.items)
    greatest_shown (Err e) h = tt
    greatest_shown (Ok rows) h =
        let got = reads_as text [] old new schema has _ is.command is.plain is.unlisted rows.items h in
        top_shown project key columns keyed (old.now.trees it.tree) stored Null (overlay old.now.trees [])
        rows.items (is.stored old.now.trees) (got.answer Null)
