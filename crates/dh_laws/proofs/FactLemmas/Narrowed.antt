-- Fewer rows, among which are all that are asked for.
use Rattle.std.proofs.Common.{◌≡◌, ◌∙◌, refl, sym, ap, subst, T, ◌+◌, Bool, true, false, cond, List, [], ◌∷◌, map, length, Option, Some, None}
use Rattle.std.proofs.Common.{Ordering, is_lt, ◌||◌, arith}
use Rattle.std.specs.List.{count_by, filter, list_any}
use Rattle.std.specs.List as list
use Rattle.std.specs.Option.{is_some}
use Rattle.std.specs.Cmp.{IsTotalOrder}
use Rattle.std.specs.FinMap.{FinMap, IsAntisymmetric, entries, entries-from_sorted, from_sorted, get, get-from_entries, get-from_sorted, is_sorted}
use Rattle.std.specs.FinMap.{same_map, values}
use Rattle.std.specs.FinMap.Entries.{below_all}
use Rattle.std.proofs.lemmas.Bool.{and_parts}
use Rattle.std.proofs.lemmas.List.Recursion.{is_count_by}
use Rattle.dh_model.specs.Whole.{rows_where}
use Rattle.dh_model.proofs.MapRows.{kept_if, sorted}
use Rattle.dh_laws.proofs.MapMerges.{get-rows_where}
use Rattle.dh_model.specs.Books.{StandUnder}

module _ {X : Type 0} (p t : X → Bool) (covers : (x : X) → p x ≡ true → t x ≡ true) where
  both : (b c : Bool) (x : X) (ks ls : List X) → t x ≡ b → p x ≡ c → filter p ks ≡ ls → filter p (cond b (x ∷ ks) ks) ≡ cond c (x ∷ ls) ls
  both true true x ks ls b c rest = ap (λ d. cond d (x ∷ filter p ks) (filter p ks)) c ∙ ap (λ m. x ∷ m) rest
  both true false x ks ls b c rest = ap (λ d. cond d (x ∷ filter p ks) (filter p ks)) c ∙ rest
  both false true x ks ls b c rest = let is = covers x c in cc
  both false false x ks ls b c rest = rest

  pub filter_narrowed : (xs : List X) → filter p (filter t xs) ≡ filter p xs
  filter_narrowed [] = refl
  filter_narrowed (x ∷ xs) = both (t x) (p x) x (filter t xs) (filter p xs) refl refl (filter_narrowed xs)

module _ {X : Type 0} (p : X → Bool) where
  counted : (b : Bool) (x : X) (ks : List X) → length (cond b (x ∷ ks) ks) ≡ cond b (1 + length ks) (length ks)
  counted true x ks = omega arith
  counted false x ks = refl

  pub count_filter : (xs : List X) → length (filter p xs) ≡ count_by p xs
  count_filter = is_count_by (λ xs. length (filter p xs)) p refl (λ x xs. counted (p x) x (filter p xs))

  abbrev first_of : List X → Option X
  first_of [] = None
  first_of (x ∷ xs) = Some x

  first_if : (b : Bool) (x : X) (ks : List X) → first_of (cond b (x ∷ ks) ks) ≡ cond b (Some x) (first_of ks)
  first_if true x ks = refl
  first_if false x ks = refl

  pub find_filter : (xs : List X) → first_of (filter p xs) ≡ list.find p xs
  find_filter [] = refl
  find_filter (x ∷ xs) = first_if (p x) x (filter p xs) ∙ ap (cond (p x) (Some x)) (find_filter xs)

  any_if : (b : Bool) (x : X) (o : Option X) → is_some (cond b (Some x) o) ≡ (b || is_some o)
  any_if true x o = refl
  any_if false x o = refl

  pub any_find : (xs : List X) → is_some (list.find p xs) ≡ list_any p xs
  any_find [] = refl
  any_find (x ∷ xs) = any_if (p x) x (list.find p xs) ∙ ap (λ b. p x || b) (any_find xs)

module _ {K X : Type 0} {R : K → K → Ordering} (o : IsTotalOrder R) (anti : IsAntisymmetric R) (t : X → Bool) where
  abbrev passes : K × X → Bool
  passes e = t e.1

  below_kept : (b : Bool) (k : K) (e : K × X) (es : List (K × X)) → is_lt (R k e.0) ≡ true → below_all R k es ≡ true → below_all R k (cond b (e ∷ es) es) ≡ true
  below_kept true k e es here rest = rw (here, rest) refl
  below_kept false k e es here rest = rest

  below_filter : (k : K) (es : List (K × X)) → below_all R k es ≡ true → below_all R k (filter passes es) ≡ true
  below_filter k [] h = refl
  below_filter k (e ∷ es) h =
      let parts = and_parts (is_lt (R k e.0)) (below_all R k es) h in
      below_kept (t e.1) k e (filter passes es) parts.0 (below_filter k es parts.1)

  sorted_kept : (b : Bool) (e : K × X) (es : List (K × X)) → below_all R e.0 es ≡ true → is_sorted R es ≡ true → is_sorted R (cond b (e ∷ es) es) ≡ true
  sorted_kept true e es below rest = rw (below, rest) refl
  sorted_kept false e es below rest = rest

  sorted_filter : (es : List (K × X)) → is_sorted R es ≡ true → is_sorted R (filter passes es) ≡ true
  sorted_filter [] h = refl
  sorted_filter (e ∷ es) h =
      let parts = and_parts (below_all R e.0 es) (is_sorted R es) h in
      sorted_kept (t e.1) e (filter passes es) (below_filter e.0 es parts.0) (sorted_filter es parts.1)

  rows_filter : (es : List (K × X)) → map (λ e. e.1) (filter passes es) ≡ filter t (map (λ e. e.1) es)
  rows_filter [] = refl
  rows_filter (e ∷ es) = mapped (t e.1) (filter passes es) ∙ ap (λ xs. cond (t e.1) (e.1 ∷ xs) xs) (rows_filter es)
    where
      mapped : (b : Bool) (ks : List (K × X))
          → map (λ (f : K × X). f.1) (cond b (e ∷ ks) ks) ≡ cond b (e.1 ∷ map (λ (f : K × X). f.1) ks) (map (λ (f : K × X). f.1) ks)
      mapped true ks = refl
      mapped false ks = refl

  -- the rows that pass, in their order
  pub values_where : (m : FinMap R X) → values (rows_where t m) ≡ filter t (values m)
  values_where m =
      let kept = filter passes (entries m) in
      let sorts : T (is_sorted R kept) = subst T (sym (sorted_filter (entries m) (sorted o anti m))) tt in
      let same : rows_where t m ≡ from_sorted {R = R} kept = same_map o anti _ _ (λ q. get-from_entries o kept q ∙ sym (get-from_sorted R kept q sorts)) in
      ap values same ∙ ap (map (λ e. e.1)) (entries-from_sorted R kept sorts) ∙ rows_filter (entries m)

  -- of the rows that pass
  pub filter_where : (p : X → Bool) → ((x : X) → p x ≡ true → t x ≡ true) → (m : FinMap R X) → filter p (values (rows_where t m)) ≡ filter p (values m)
  filter_where p covers m = ap (filter p) (values_where m) ∙ filter_narrowed p t covers (values m)

  pub count_where : (p : X → Bool) → ((x : X) → p x ≡ true → t x ≡ true) → (m : FinMap R X) → count_by p (values (rows_where t m)) ≡ count_by p (values m)
  count_where p covers m = sym (count_filter p (values (rows_where t m))) ∙ ap length (filter_where p covers m) ∙ count_filter p (values m)

  pub find_where : (p : X → Bool) → ((x : X) → p x ≡ true → t x ≡ true) → (m : FinMap R X) → list.find p (values (rows_where t m)) ≡ list.find p (values m)
  find_where p covers m = sym (find_filter p (values (rows_where t m))) ∙ ap (first_of p) (filter_where p covers m) ∙ find_filter p (values m)

  pub any_where : (p : X → Bool) → ((x : X) → p x ≡ true → t x ≡ true) → (m : FinMap R X) → list_any p (values (rows_where t m)) ≡ list_any p (values m)
  any_where p covers m = sym (any_find p (values (rows_where t m))) ∙ ap is_some (find_where p covers m) ∙ any_find p (values m)

  kept_of : (found : Option X) → ((x : X) → found ≡ Some x → t x ≡ true) → kept_if t found ≡ found
  kept_of None h = refl
  kept_of (Some x) h = ap (λ b. cond b (Some x) None) (h x refl)

  -- a row by its key
  pub get_where : (key : X → K) (m : FinMap R X) (q : K) → StandUnder key m → ((x : X) → key x ≡ q → t x ≡ true) → get (rows_where t m) q ≡ get m q
  get_where key m q keyed covers = get-rows_where o anti t m q ∙ kept_of (get m q) (λ x is. covers x (keyed q x is))
