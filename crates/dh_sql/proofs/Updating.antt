-- What an UPDATE of the row of one key leaves: the map with another record under that key.
use Rattle.std.proofs.Common.{◌≡◌, ◌∙◌, inl, inr, refl, sym, ap, subst, Bool, true, false, not, cond, List, [], ◌∷◌, ◌++◌, map, drop, Option, Some}
use Rattle.std.proofs.Common.{IsPermutation, true≢false, is_eq}
use Rattle.std.specs.declared.cmp.Ordering.{Ordering}
use Rattle.std.specs.Ordering.{eq_by_cmp}
use Rattle.std.specs.List.{AllByRecursion, IsDistinct, filter}
use Rattle.std.specs.Map.{keys_of}
use Rattle.std.specs.Cmp.{IsTotalOrder, eq_by_cmp_equiv}
use Rattle.std.specs.FinMap.{FinMap, IsAntisymmetric, from_entries, get, get-from_entries, get-insert, insert, same_map}
use Rattle.std.proofs.lemmas.Bool.{cases_Bool}
use Rattle.std.proofs.lemmas.Cmp.{tied_itself}
use Rattle.std.proofs.lemmas.List.Sorted.{IsPermutation-filter_both, IsPermutation-map, IsPermutation-sym}
use Rattle.std.proofs.lemmas.Map.Keys.{IsDistinct-IsPermutation}
use Rattle.std.proofs.lemmas.Map.Made.{IsDistinct-keys_filter}
use Rattle.sqlite.proofs.Callers.{one_permutation}
use Rattle.sqlite_value.specs.Order.{Row}
use Rattle.sqlite_trees.proofs.ListLemmas.{all-permutation, filter-map, filter_same, map-map}
use Rattle.sqlite_trees.specs.Tree.{Trees, has_rowid, put_row, rowid, without_rowid}
use Rattle.sqlite_trees.specs.View.{is_int}
use Rattle.sqlite_rules.specs.Lists.{Has}
use Rattle.sqlite_rules.specs.Calls.{ids_of}
use Rattle.sqlite_rules.proofs.ListLemmas.{has_filtered, has_kept}
use Rattle.sqlite.specs.Table.{Table}
use Rattle.sqlite.specs.Cast.{cast_row}
use Rattle.sqlite.specs.Edit.{are_fresh, id_in, put_all, without_all}
use Rattle.dh_model.proofs.Among.{in_map}
use Rattle.dh_model.proofs.MapRows.{found_entry}
use Rattle.dh_sql.specs.Shape.{AreApart, Shape, IsKept, IsStored, entry_in, rows_in, stored_in}
use Rattle.dh_sql.proofs.Apart.{own_rowid}
use Rattle.dh_sql.proofs.Lists.{all_from_has, has_all, has_among}
use Rattle.dh_sql.proofs.Maps.{from_more}
use Rattle.dh_sql.proofs.Running.{and_first, not_true, put_fresh}

-- the rows that a test finds, shown with their rowids, are taken out and put in anew
module _ (t : Table) (rows answer : List Row) (p : Row → Bool) (f : Row → Row) (found : IsPermutation (map f (filter p rows)) answer)
    (keeps : (r : Row) → rowid (f r) ≡ rowid r) (ints : AllByRecursion (λ r. is_int (rowid r) ≡ true) rows) (apart : AreApart rows) where
  abbrev pub after : List Row
  after = put_all (without_all rows (ids_of answer)) (map (λ s. cast_row t (drop 1 s)) answer)

  abbrev pub others : List Row
  others = filter (λ s. not (p s)) rows

  module _ (r : Row) (only : filter p rows ≡ r ∷ []) where
    pub there : Has rows r × (p r ≡ true)
    there = has_filtered p rows r (subst (λ xs. Has xs r) (sym only) (inl refl))

    is_r : (s : Row) → Has rows s → p s ≡ true → s ≡ r
    is_r s among passes = one (subst (λ xs. Has xs s) only (has_kept p rows s among passes))
      where
        one : Has (r ∷ []) s → s ≡ r
        one (inl e) = e
        one (inr h) = absurd h

    pub own : is_int (rowid r) ≡ true
    own = has_all (λ s. is_int (rowid s) ≡ true) rows r ints there.0

    same_test : (s : Row) → Has rows s → has_rowid (id_in (rowid r)) s ≡ p s
    same_test s among = elim (cases_Bool (p s)) [
      | inl passes ↦ ap (has_rowid (id_in (rowid r))) (is_r s among passes) ∙ own_rowid r own ∙ sym passes
      | inr fails ↦ elim (cases_Bool (has_rowid (id_in (rowid r)) s)) [
        | inl its ↦ absurd (true≢false (sym there.1 ∙ ap p (apart r s there.0 among its) ∙ fails))
        | inr other ↦ other ∙ sym fails
      ]
    ]

    answer_is : answer ≡ f r ∷ []
    answer_is = one_permutation (f r) answer (subst (λ xs. IsPermutation (map f xs) answer) only found)

    left : without_all rows (ids_of answer) ≡ others
    left =
        ap (λ (xs : List Row). without_all rows (ids_of xs)) answer_is ∙ ap (λ v. without_rowid (id_in v) rows) (keeps r)
        ∙ filter_same (λ s. not (has_rowid (id_in (rowid r)) s)) (λ s. not (p s)) rows (all_from_has _ rows (λ s among. ap not (same_test s among)))

    abbrev pub new : Row
    new = cast_row t (drop 1 (f r))

    pub was : IsPermutation (r ∷ others) rows
    was =
        IsPermutation-sym rows (r ∷ others)
        (subst (λ xs. IsPermutation rows (xs ++ others)) only (IsPermutation-filter_both p (λ s. not (p s)) (λ s. refl) rows))

    pub is : are_fresh (without_all rows (ids_of answer)) (map (λ s. cast_row t (drop 1 s)) answer) ≡ true → IsPermutation (new ∷ others) after
    is fresh =
        let news : List Row → List Row = map (λ s. cast_row t (drop 1 s)) in
        let first = subst (λ (a : List Row). are_fresh (without_all rows (ids_of answer)) (news a) ≡ true) answer_is fresh in
        let one : are_fresh others (new ∷ []) ≡ true = subst (λ xs. are_fresh xs (new ∷ []) ≡ true) left first in
        let made : after ≡ put_row new others =
        ap (λ (a : List Row). put_all (without_all rows (ids_of answer)) (news a)) answer_is ∙ ap (put_row new) left in
        subst (IsPermutation (new ∷ others)) (sym made) (put_fresh new others (not_true _ (and_first _ true one)))

    -- no other row has its rowid
    pub others_apart : AllByRecursion (λ s. has_rowid (id_in (rowid r)) s ≡ false) others
    others_apart = all_from_has _ others (λ s h.
        let w = has_filtered (λ s. not (p s)) rows s h in
        same_test s w.0 ∙ not_true (p s) w.1)

    pub others_own : AllByRecursion (λ s. is_int (rowid s) ≡ true) others
    others_own = all_from_has _ others (λ s h. has_all (λ s. is_int (rowid s) ≡ true) rows s ints (has_filtered (λ s. not (p s)) rows s h).0)

    pub apart_among : AreApart others
    apart_among x y hx hy e = apart x y (has_filtered (λ s. not (p s)) rows x hx).0 (has_filtered (λ s. not (p s)) rows y hy).0 e

module _ {K X : Type 0} {R : K → K → Ordering} (o : IsTotalOrder R) (anti : IsAntisymmetric R) where
  twice : (b : Bool) (x y : Option X) (z : Option X) → cond b x (cond b y z) ≡ cond b x z
  twice true x y z = refl
  twice false x y z = refl

  insert_twice : (m : FinMap R X) (k : K) (x y : X) → insert (insert m k x) k y ≡ insert m k y
  insert_twice m k x y = same_map o anti _ _ (λ q.
      get-insert o (insert m k x) k y q ∙ ap (cond (eq_by_cmp R q k) (Some y)) (get-insert o m k x q)
      ∙ twice (eq_by_cmp R q k) (Some y) (Some x) (get m q) ∙ sym (get-insert o m k y q))

  module _ (it : Shape K X) (old : Trees) (kept : IsKept it R old) where
    key_of : Row → K
    key_of r = it.key (stored_in it r)

    module _ (p : Row → Bool) (k : K)
        (passes : (r : Row) → Has (old it.tree) r → (p r ≡ true → it.key (stored_in it r) ≡ k) × (it.key (stored_in it r) ≡ k → p r ≡ true)) where
      keys_of_found : IsDistinct (eq_by_cmp R) (map (λ r. it.key (stored_in it r)) (filter p (old it.tree)))
      keys_of_found =
          let by : Row → K × Row = λ r. (it.key (stored_in it r), r) in
          let all : IsDistinct (eq_by_cmp R) (keys_of (map by (old it.tree))) = rw (map-map (λ (e : K × Row). e.0) by (old it.tree)) kept.keys in
          let few = IsDistinct-keys_filter (eq_by_cmp R) (λ (e : K × Row). p e.1) (map by (old it.tree)) all in
          let listed = ap keys_of (filter-map (λ (e : K × Row). p e.1) by (old it.tree)) ∙ map-map (λ (e : K × Row). e.0) by (filter p (old it.tree)) in
          subst (IsDistinct (eq_by_cmp R)) listed few

      tied : (j : K) → eq_by_cmp R j j ≡ true
      tied j = ap is_eq (tied_itself o j)

      one_of : (rs : List Row) → ((r : Row) → Has rs r → it.key (stored_in it r) ≡ k) → IsDistinct (eq_by_cmp R) (map (λ r. it.key (stored_in it r)) rs)
          → (r : Row) → Has rs r → rs ≡ r ∷ []
      unfolding IsDistinct
      one_of [] all d r h = absurd h
      one_of (s ∷ []) all d r (inl e) = ap (λ x. x ∷ []) (sym e)
      one_of (s ∷ []) all d r (inr h) = absurd h
      one_of (s ∷ u ∷ rs) all d r h =
          let same : it.key (stored_in it s) ≡ it.key (stored_in it u) = all s (inl refl) ∙ sym (all u (inr (inl refl))) in
          let both : eq_by_cmp R (it.key (stored_in it s)) (it.key (stored_in it u)) ≡ true =
          ap (eq_by_cmp R (it.key (stored_in it s))) (sym same) ∙ tied (it.key (stored_in it s)) in
          let no = d.0.0 in
          absurd (cc)

      -- the row that has the key
      pub only_row : (x : X) → get (rows_in it {R = R} old) k ≡ Some x
          → (r : Row) × (filter p (old it.tree) ≡ r ∷ []) × (stored_in it r ≡ x) × (it.is_row (it.columns r) ≡ true)
      only_row x h =
          let es = map (entry_in it) (old it.tree) in
          let of = in_map (entry_in it) (old it.tree) (k, x) (found_entry o anti es k x (sym (get-from_entries o es k) ∙ h)) in
          let r = of.0 in
          let among = has_among (old it.tree) r of.1 in
          let key : it.key (stored_in it r) ≡ k = sym (ap (λ (e : K × X). e.0) of.2) in
          let passing = (passes r among).1 key in
          let its : (s : Row) → Has (filter p (old it.tree)) s → it.key (stored_in it s) ≡ k =
          λ s a. let w = has_filtered p (old it.tree) s a in (passes s w.0).0 w.1 in (
            r,
            one_of (filter p (old it.tree)) its keys_of_found r (has_kept p (old it.tree) r among passing),
            sym (ap (λ (e : K × X). e.1) of.2),
            has_all (IsStored it) (old it.tree) r kept.values among,
          )

    module _ (new : Trees) (r s : Row) (x y : X) (rest : List Row) (was : IsPermutation (r ∷ rest) (old it.tree)) (is : IsPermutation (s ∷ rest) (new it.tree))
        (rx : stored_in it r ≡ x) (sy : stored_in it s ≡ y) (same : it.key x ≡ it.key y) where
      -- the map after it
      pub updated : rows_in it {R = R} new ≡ insert (rows_in it old) (it.key y) y
      updated =
          let k = it.key y in
          let es = map (entry_in it) rest in
          let at_r : entry_in it r ≡ (k, x) = λ i. ((ap it.key rx ∙ same) i, rx i) in
          let at_s : entry_in it s ≡ (k, y) = λ i. (it.key (sy i), sy i) in
          let olds = subst (λ (e : K × X). IsPermutation (e ∷ es) (map (entry_in it) (old it.tree))) at_r (IsPermutation-map (entry_in it) _ _ was) in
          let news = subst (λ (e : K × X). IsPermutation (e ∷ es) (map (entry_in it) (new it.tree))) at_s (IsPermutation-map (entry_in it) _ _ is) in
          let all : IsDistinct (eq_by_cmp R) (keys_of (map (entry_in it) (old it.tree))) =
          rw (map-map (λ (e : K × X). e.0) (entry_in it) (old it.tree)) kept.keys in
          let back = IsPermutation-map (λ (e : K × X). e.0) _ _ (IsPermutation-sym _ _ olds) in
          let distinct : IsDistinct (eq_by_cmp R) (k ∷ keys_of es) = IsDistinct-IsPermutation (eq_by_cmp R) (eq_by_cmp_equiv o).symm _ _ back all in
          let before = from_more o anti k x es _ olds distinct in
          let behind = from_more o anti k y es _ news distinct in
          behind ∙ sym (insert_twice (from_entries es) k x y) ∙ ap (λ m. insert m k y) (sym before)

      -- and it is in order
      pub kept_after : it.is_row (it.columns s) ≡ true → is_int (rowid s) ≡ true → IsKept it R new
      kept_after grammar keyed =
          let values = all-permutation (IsStored it) (old it.tree) (r ∷ rest) (IsPermutation-sym _ _ was) kept.values in
          let rowids = all-permutation (λ r. is_int (rowid r) ≡ true) (old it.tree) (r ∷ rest) (IsPermutation-sym _ _ was) kept.rowids in
          let key : Row → K = λ r. it.key (stored_in it r) in
          let back = IsPermutation-map key _ _ (IsPermutation-sym _ _ was) in
          let moved = IsDistinct-IsPermutation (eq_by_cmp R) (eq_by_cmp_equiv o).symm _ _ back kept.keys in
          let alike : key r ≡ key s = ap it.key rx ∙ same ∙ sym (ap it.key sy) in
          let placed = subst (λ (k : K). IsDistinct (eq_by_cmp R) (k ∷ map key rest)) alike moved in
          record {
            values = all-permutation (IsStored it) (s ∷ rest) (new it.tree) is (grammar, values.1);
            rowids = all-permutation (λ r. is_int (rowid r) ≡ true) (s ∷ rest) (new it.tree) is (keyed, rowids.1);
            keys = IsDistinct-IsPermutation (eq_by_cmp R) (eq_by_cmp_equiv o).symm _ _ (IsPermutation-map key _ _ is) placed;
          }
