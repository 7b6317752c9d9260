-- Rows put into a map all at once, and rows kept by a test.
use Rattle.std.proofs.Common.{◌≡◌, ◌≢◌, ◌⊎◌, ◌∙◌, refl, sym, ap, inl, inr, Bool, true, false, cond, List, [], ◌∷◌, ◌++◌, map, Option, Some, None, Ordering}
use Rattle.std.proofs.Common.{is_eq}
use Rattle.std.specs.List.{filter}
use Rattle.std.specs.List as list
use Rattle.std.specs.Option.{option_or}
use Rattle.std.specs.Ordering.{eq_by_cmp}
use Rattle.std.specs.Cmp.{IsTotalOrder}
use Rattle.std.specs.FinMap.{FinMap, IsAntisymmetric, entries, find, get, get-entries, get-from_entries, is_sorted, values}
use Rattle.std.specs.FinMap.Entries.{below_all}
use Rattle.std.proofs.lemmas.Bool.{and_parts}
use Rattle.std.proofs.lemmas.Option.{cond_some}
use Rattle.dh_model.specs.Books.{StandUnder, with_rows}
use Rattle.dh_model.specs.Whole.{rows_where}
use Rattle.dh_model.proofs.Among.{Among, in_filter, in_map}
use Rattle.dh_model.proofs.Rising.{IsBefore, Rises}
use Rattle.dh_model.proofs.MapRows.{below_at, inside, is_less, key_itself, kept_if, keys_differ, row_of, same_key, sorted}
use Rattle.dh_model.proofs.BranchDues.{entry_found}

none_found : {K X : Type 0} (R : K → K → Ordering) (q : K) (es : List (K × X)) → ((e : K × X) → Among es e → eq_by_cmp R q e.0 ≡ false) → find R q es ≡ None
none_found R q [] apart = refl
none_found R q (e ∷ es) apart = ap (λ b. cond b (Some e.1) (find R q es)) (apart e (inl refl)) ∙ none_found R q es (λ f a. apart f (inr a))

module _ {K X : Type 0} {R : K → K → Ordering} (o : IsTotalOrder R) (anti : IsAntisymmetric R) where
  module _ (key : X → K) where
    -- the first of the rows that has the key
    abbrev pub row_at : K → List X → Option X
    row_at q rows = list.find (λ row. eq_by_cmp R q (key row)) rows

    found_first : (b : Bool) (row : X) (at later : Option X) → cond b (Some row) (option_or at later) ≡ option_or (cond b (Some row) at) later
    found_first true row at later = refl
    found_first false row at later = refl

    found_in_both : (rows : List X) (es : List (K × X)) (q : K) → find R q (map (λ row. (key row, row)) rows ++ es) ≡ option_or (row_at q rows) (find R q es)
    found_in_both [] es q = refl
    found_in_both (row ∷ rows) es q =
        ap (cond (eq_by_cmp R q (key row)) (Some row)) (found_in_both rows es q) ∙ found_first (eq_by_cmp R q (key row)) row (row_at q rows) (find R q es)

    -- the row of the list with that key, else what the map has
    pub get-with_rows : (rows : List X) (m : FinMap R X) (q : K) → get (with_rows key rows m) q ≡ option_or (row_at q rows) (get m q)
    get-with_rows rows m q =
        get-from_entries o (map (λ row. (key row, row)) rows ++ entries m) q ∙ found_in_both rows (entries m) q
        ∙ ap (option_or (row_at q rows)) (sym (get-entries m q))

    at_by : (b : Bool) (row x : X) (rows : List X) (q : K) → eq_by_cmp R q (key row) ≡ b → (row_at q rows ≡ Some x → Among rows x × (key x ≡ q))
        → cond b (Some row) (row_at q rows) ≡ Some x → Among (row ∷ rows) x × (key x ≡ q)
    at_by true row x rows q ties rest h = let is = inside row x h in (inl (sym is), ap key (sym is) ∙ sym (same_key o anti q (key row) ties))
    at_by false row x rows q differs rest h = let r = rest h in (inr r.0, r.1)

    -- it is one of the list, with that key
    pub row_at_is : (rows : List X) (q : K) (x : X) → row_at q rows ≡ Some x → Among rows x × (key x ≡ q)
    row_at_is [] q x h = cc
    row_at_is (row ∷ rows) q x h = at_by (eq_by_cmp R q (key row)) row x rows q refl (row_at_is rows q x) h

    -- none, where none has the key
    pub no_row_at : (rows : List X) (q : K) → ((x : X) → Among rows x → key x ≢ q) → row_at q rows ≡ None
    no_row_at [] q apart = refl
    no_row_at (row ∷ rows) q apart =
        ap (λ b. cond b (Some row) (row_at q rows)) (keys_differ o anti q (key row) (λ e. apart row (inl refl) (sym e)))
        ∙ no_row_at rows q (λ x a. apart x (inr a))

    first_at : (b : Bool) (row x : X) (at : Option X) → (b ≡ true → row ≡ x) → (b ≡ false → at ≡ Some x) → cond b (Some row) at ≡ Some x
    first_at true row x at here later = ap (λ y. Some y) (here refl)
    first_at false row x at here later = later refl

    -- and the row itself, where those of one key are one
    pub row_at_own : (rows : List X) (x : X) → Among rows x → ((y : X) → Among rows y → key y ≡ key x → y ≡ x) → row_at (key x) rows ≡ Some x
    row_at_own [] x a one = absurd a
    row_at_own (row ∷ rows) x (inl e) one =
        first_at (eq_by_cmp R (key x) (key row)) row x (row_at (key x) rows) (λ ties. sym e)
        (λ differs. let ties : eq_by_cmp R (key x) (key row) ≡ true = rw e (key_itself o anti (key row)) in cc)
    row_at_own (row ∷ rows) x (inr a) one =
        first_at (eq_by_cmp R (key x) (key row)) row x (row_at (key x) rows)
        (λ ties. one row (inl refl) (sym (same_key o anti (key x) (key row) ties)))
        (λ differs. row_at_own rows x a (λ y b. one y (inr b)))

    from_either : (at later : Option X) (x : X) → option_or at later ≡ Some x → (at ≡ Some x) ⊎ ((at ≡ None) × (later ≡ Some x))
    from_either None later x h = inr (refl, h)
    from_either (Some y) later x h = inl h

    -- what is got is a row of the list, or of the map where the list has none of that key
    pub got_with_rows : (rows : List X) (m : FinMap R X) (q : K) (x : X) → get (with_rows key rows m) q ≡ Some x
        → (Among rows x × (key x ≡ q)) ⊎ ((row_at q rows ≡ None) × (get m q ≡ Some x))
    got_with_rows rows m q x h = elim (from_either (row_at q rows) (get m q) x (sym (get-with_rows rows m q) ∙ h)) [
      | inl new ↦ inl (row_at_is rows q x new)
      | inr old ↦ inr old
    ]

    pub get_of_rows : (rows : List X) (m : FinMap R X) (x : X) → Among rows x → ((y : X) → Among rows y → key y ≡ key x → y ≡ x)
        → get (with_rows key rows m) (key x) ≡ Some x
    get_of_rows rows m x a one = get-with_rows rows m (key x) ∙ ap (λ at. option_or at (get m (key x))) (row_at_own rows x a one)

    pub get_past_rows : (rows : List X) (m : FinMap R X) (q : K) → ((x : X) → Among rows x → key x ≢ q) → get (with_rows key rows m) q ≡ get m q
    get_past_rows rows m q apart = get-with_rows rows m q ∙ ap (λ at. option_or at (get m q)) (no_row_at rows q apart)

    pub with_rows_keyed : (rows : List X) (m : FinMap R X) → StandUnder key m → StandUnder key (with_rows key rows m)
    with_rows_keyed rows m keyed q x h = elim (got_with_rows rows m q x h) [
      | inl new ↦ new.1
      | inr old ↦ keyed q x old.1
    ]

    -- each row is got by its key
    pub own_row : (m : FinMap R X) → StandUnder key m → (x : X) → Among (values m) x → get m (key x) ≡ Some x
    own_row m keyed x a = let r = row_of o anti m x a in ap (get m) (keyed r.0 x r.1) ∙ r.1

    -- and two rows of one key are one
    pub one_row : (m : FinMap R X) → StandUnder key m → (x y : X) → Among (values m) x → Among (values m) y → key x ≡ key y → x ≡ y
    one_row m keyed x y a b e = inside x y (sym (own_row m keyed x a) ∙ ap (get m) e ∙ own_row m keyed y b)

    rise_by_key : (es : List (K × X)) → is_sorted R es ≡ true → ((e : K × X) → Among es e → key e.1 ≡ e.0)
        → Rises (λ x y. IsBefore R (key x) (key y)) (map (λ e. e.1) es)
    rise_by_key [] h are = tt
    rise_by_key (e ∷ es) h are =
        let parts = and_parts (below_all R e.0 es) (is_sorted R es) h in (
          λ x a.
              let of = in_map (λ f. f.1) es x a in
              let less = below_at o anti e.0 es of.0 parts.0 of.1 in
              let own = are e (inl refl) in
              let other = are of.0 (inr of.1) in
              rw (own, of.2, other) less,
          rise_by_key es parts.1 (λ f a. are f (inr a)),
        )

    -- the rows rise by their keys
    pub rows_rise : (m : FinMap R X) → StandUnder key m → Rises (λ x y. IsBefore R (key x) (key y)) (values m)
    rows_rise m keyed = rise_by_key (entries m) (sorted o anti m) (λ e a. keyed e.0 e.1 (get-entries m e.0
        ∙ entry_found R o (entries m) e (sorted o anti m) a))

  -- ---- by a test

  module _ (test : X → Bool) where
    kept_by : (t b : Bool) (e : K × X) (es : List (K × X)) (q : K) → test e.1 ≡ t → eq_by_cmp R q e.0 ≡ b
        → (b ≡ true → find R q (filter (λ entry. test entry.1) es) ≡ None)
        → find R q (filter (λ entry. test entry.1) es) ≡ kept_if test (find R q es)
        → find R q (cond t (e ∷ filter (λ entry. test entry.1) es) (filter (λ entry. test entry.1) es)) ≡ kept_if test (cond b (Some e.1) (find R q es))
    kept_by true true e es q t b none rest =
        ap (λ c. cond c (Some e.1) (find R q (filter (λ entry. test entry.1) es))) b ∙ sym (ap (λ c. cond c (Some e.1) None) t)
    kept_by true false e es q t b none rest = ap (λ c. cond c (Some e.1) (find R q (filter (λ entry. test entry.1) es))) b ∙ rest
    kept_by false true e es q t b none rest = none refl ∙ sym (ap (λ c. cond c (Some e.1) None) t)
    kept_by false false e es q t b none rest = rest

    later_differ : (e : K × X) (es : List (K × X)) (q : K) → eq_by_cmp R q e.0 ≡ true → below_all R e.0 es ≡ true
        → (f : K × X) → Among (filter (λ entry. test entry.1) es) f → eq_by_cmp R q f.0 ≡ false
    later_differ e es q ties below f a =
        let kept = in_filter (λ entry. test entry.1) es f a in
        let less = below_at o anti e.0 es f below kept.0 in
        ap (λ k. eq_by_cmp R k f.0) (same_key o anti q e.0 ties) ∙ ap is_eq (is_less (R e.0 f.0) less)

    found_kept : (es : List (K × X)) (q : K) → is_sorted R es ≡ true → find R q (filter (λ entry. test entry.1) es) ≡ kept_if test (find R q es)
    found_kept [] q h = refl
    found_kept (e ∷ es) q h =
        let parts = and_parts (below_all R e.0 es) (is_sorted R es) h in
        kept_by (test e.1) (eq_by_cmp R q e.0) e es q refl refl
        (λ ties. none_found R q (filter (λ entry. test entry.1) es) (later_differ e es q ties parts.0))
        (found_kept es q parts.1)

    -- the map's row, if the test holds of it
    pub get-rows_where : (m : FinMap R X) (q : K) → get (rows_where test m) q ≡ kept_if test (get m q)
    get-rows_where m q =
        get-from_entries o (filter (λ entry. test entry.1) (entries m)) q ∙ found_kept (entries m) q (sorted o anti m)
        ∙ ap (kept_if test) (sym (get-entries m q))

    kept_is : (found : Option X) (x : X) → kept_if test found ≡ Some x → (found ≡ Some x) × (test x ≡ true)
    kept_is None x h = cc
    kept_is (Some y) x h = let p = cond_some (test y) y x h in (ap (λ z. Some z) p.1, ap test (sym p.1) ∙ p.0)

    pub got_rows_where : (m : FinMap R X) (q : K) (x : X) → get (rows_where test m) q ≡ Some x → (get m q ≡ Some x) × (test x ≡ true)
    got_rows_where m q x h = kept_is (get m q) x (sym (get-rows_where m q) ∙ h)

    pub get_kept : (m : FinMap R X) (q : K) (x : X) → get m q ≡ Some x → test x ≡ true → get (rows_where test m) q ≡ Some x
    get_kept m q x h t = get-rows_where m q ∙ ap (kept_if test) h ∙ ap (λ b. cond b (Some x) None) t
