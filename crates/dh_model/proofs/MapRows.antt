-- Rows of finite maps, by their keys.
use Rattle.std.proofs.Common.{◌≡◌, ◌≢◌, ◌↔◌, ◌⊎◌, ◌∙◌, refl, sym, ap, subst, inl, inr, ℕ, ◌+◌, Bool, true, false, cond, List, [], ◌∷◌, ◌++◌, map, Option, Some}
use Rattle.std.proofs.Common.{None, is_some, Ordering, Less, Equal, Greater, is_lt, is_eq, arith}
use Rattle.std.specs.List.{IsAmong, sum_by}
use Rattle.std.specs.Ordering.{eq_by_cmp, ordering_reverse}
use Rattle.std.specs.Cmp.{IsTotalOrder}
use Rattle.std.specs.FinMap.{FinMap, IsAntisymmetric, contains_key, entries, entries_sorted, find, get, get-entries, get-insert, entries-insert, insert}
use Rattle.std.specs.FinMap.{is_sorted, values}
use Rattle.std.specs.FinMap.Entries.{below_all, by_order, put}
use Rattle.std.proofs.lemmas.Cmp.{tied_itself}
use Rattle.std.proofs.lemmas.Bool.{and_parts, false_from_ne_true}
use Rattle.std.proofs.lemmas.List.Sums.{sum_by-append, sum_by-cons}
use Rattle.dh_model.specs.Rules.{Each, EachTwo, IsThere}
use Rattle.dh_model.proofs.Among.{Among, among, in_map, is_among}
use Rattle.dh_model.proofs.BranchDues.{holds, entry_found}
use Rattle.dh_model.proofs.Rising.{Rises}
use Rattle.dh_model.proofs.Pairs.{rises_put, pairs_rise, rising_pairs}

pub inside : {X : Type 0} (x y : X) → Some x ≡ Some y → x ≡ y
inside x y e = cc

pub is_less : (r : Ordering) → is_lt r ≡ true → r ≡ Less
is_less Less e = refl
is_less Equal e = cc
is_less Greater e = cc

is_equal : (r : Ordering) → is_eq r ≡ true → r ≡ Equal
is_equal Less e = cc
is_equal Equal e = refl
is_equal Greater e = cc

-- xs, and ys that has v besides
pub record IsPutIn {X : Type 0} (xs ys : List X) (v : X) : Type 0 where
  pub before : List X
  pub after : List X
  pub was : xs ≡ before ++ after
  pub is : ys ≡ before ++ v ∷ after

-- ys has v where xs has the old one
pub record IsPutFor {X : Type 0} (xs ys : List X) (old v : X) : Type 0 where
  pub before : List X
  pub after : List X
  pub was : xs ≡ before ++ old ∷ after
  pub is : ys ≡ before ++ v ∷ after

-- the option, if the test holds of what is in it
abbrev pub kept_if : {X : Type 0} → (X → Bool) → Option X → Option X
kept_if test None = None
kept_if test (Some x) = cond (test x) (Some x) None

module _ {K : Type 0} {R : K → K → Ordering} (o : IsTotalOrder R) (anti : IsAntisymmetric R) where
  pub same_key : (q k : K) → eq_by_cmp R q k ≡ true → q ≡ k
  same_key q k e = anti q k (is_equal (R q k) e)

  pub key_itself : (k : K) → eq_by_cmp R k k ≡ true
  key_itself k = ap is_eq (tied_itself o k)

  pub keys_differ : (q k : K) → q ≢ k → eq_by_cmp R q k ≡ false
  keys_differ q k apart = false_from_ne_true (eq_by_cmp R q k) (λ e. apart (same_key q k e))

  by_tie : (q k : K) (b : Bool) → eq_by_cmp R q k ≡ b → (q ≡ k) ⊎ (q ≢ k)
  by_tie q k true ties = inl (same_key q k ties)
  by_tie q k false differs = inr (λ e. let ties : eq_by_cmp R q k ≡ true = rw e (key_itself k) in cc)

  pub cases_key : (q k : K) → (q ≡ k) ⊎ (q ≢ k)
  cases_key q k = by_tie q k (eq_by_cmp R q k) refl

  pub turned_back : (x y : K) → is_lt (R y x) ≡ true → R x y ≡ Greater
  turned_back x y h = o.antisymm x y ∙ ap ordering_reverse (is_less (R y x) h)

module _ {K X : Type 0} where
  abbrev rows_of : List (K × X) → List X
  rows_of es = map (λ e. e.1) es

  module _ {R : K → K → Ordering} (o : IsTotalOrder R) (anti : IsAntisymmetric R) where
    -- ---- what is got after an insertion

    pub get_new : (m : FinMap R X) (k : K) (v : X) → get (insert m k v) k ≡ Some v
    get_new m k v = get-insert o m k v k ∙ ap (λ b. cond b (Some v) (get m k)) (key_itself o anti k)

    pub get_other : (m : FinMap R X) (k : K) (v : X) (q : K) → q ≢ k → get (insert m k v) q ≡ get m q
    get_other m k v q apart = get-insert o m k v q ∙ ap (λ b. cond b (Some v) (get m q)) (keys_differ o anti q k apart)

    -- what is there after an insertion is the new row, or stood there
    pub got_after : (m : FinMap R X) (k : K) (v : X) (q : K) (x : X) → get (insert m k v) q ≡ Some x → ((q ≡ k) × (x ≡ v)) ⊎ ((q ≢ k) × (get m q ≡ Some x))
    got_after m k v q x e = elim (cases_key o anti q k) [
      | inl same ↦ inl (same, inside x v (sym e ∙ ap (get (insert m k v)) same ∙ get_new m k v))
      | inr apart ↦ inr (apart, sym (get_other m k v q apart) ∙ e)
    ]

    -- ---- lists of entries

    pub below_at : (k : K) (es : List (K × X)) (e : K × X) → below_all R k es ≡ true → Among es e → is_lt (R k e.0) ≡ true
    below_at k [] e h a = absurd a
    below_at k (f ∷ es) e h (inl s) = let parts = and_parts (is_lt (R k f.0)) (below_all R k es) h in rw s parts.0
    below_at k (f ∷ es) e h (inr a) = let parts = and_parts (is_lt (R k f.0)) (below_all R k es) h in below_at k es e parts.1 a

    found_by : (b : Bool) (e : K × X) (es : List (K × X)) (q : K) (x : X) → eq_by_cmp R q e.0 ≡ b → (find R q es ≡ Some x → Among es (q, x))
        → cond b (Some e.1) (find R q es) ≡ Some x → Among (e ∷ es) (q, x)
    found_by true e es q x t rest h = let key = same_key o anti q e.0 t in let row = inside e.1 x h in inl (λ i. (key i, sym row i))
    found_by false e es q x t rest h = inr (rest h)

    -- what is found is an entry
    pub found_entry : (es : List (K × X)) (q : K) (x : X) → find R q es ≡ Some x → Among es (q, x)
    found_entry [] q x h = cc
    found_entry (e ∷ es) q x h = found_by (eq_by_cmp R q e.0) e es q x refl (found_entry es q x) h

    pub sorted : (m : FinMap R X) → is_sorted R (entries m) ≡ true
    sorted m = holds (is_sorted R (entries m)) (entries_sorted m)

    -- ---- rows

    pub row_of : (m : FinMap R X) (x : X) → Among (values m) x → (k : K) × (get m k ≡ Some x)
    row_of m x a =
        let of = in_map (λ e. e.1) (entries m) x a in
        (of.0.0, get-entries m of.0.0 ∙ entry_found R o (entries m) of.0 (sorted m) of.1 ∙ ap (λ y. Some y) (sym of.2))

    value_of : (es : List (K × X)) (q : K) (x : X) → Among es (q, x) → Among (rows_of es) x
    value_of [] q x a = absurd a
    value_of (e ∷ es) q x (inl s) = inl (ap (λ (g : K × X). g.1) s)
    value_of (e ∷ es) q x (inr a) = inr (value_of es q x a)

    pub of_row : (m : FinMap R X) (k : K) (x : X) → get m k ≡ Some x → Among (values m) x
    of_row m k x e = value_of (entries m) k x (found_entry (entries m) k x (sym (get-entries m k) ∙ e))

    -- the rows are what is got
    pub among_values : (m : FinMap R X) (x : X) → IsAmong (values m) x ↔ ((k : K) × (get m k ≡ Some x))
    among_values m x = (λ a. row_of m x (among (values m) x a), λ r. is_among (values m) x (of_row m r.0 x r.1))

    pub each_got : (m : FinMap R X) (P : X → Type 0) → Each m P → (k : K) (x : X) → get m k ≡ Some x → P x
    each_got m P each k x e = each x ((among_values m x).1 (k, e))

    pub got_each : (m : FinMap R X) (P : X → Type 0) → ((k : K) (x : X) → get m k ≡ Some x → P x) → Each m P
    got_each m P got x a = let r = (among_values m x).0 a in got r.0 x r.1

    -- what holds of each row and of the new one holds of each row after it
    pub each_insert : (m : FinMap R X) (k : K) (v : X) (P : X → Type 0) → P v → ((q : K) (x : X) → q ≢ k → get m q ≡ Some x → P x) → Each (insert m k v) P
    each_insert m k v P new old = got_each (insert m k v) P (λ q x e. elim (got_after m k v q x e) [
      | inl s ↦ subst P (sym s.1) new
      | inr s ↦ old q x s.0 s.1
    ])

    pub each_put : (m : FinMap R X) (k : K) (v : X) (P : X → Type 0) → Each m P → P v → Each (insert m k v) P
    each_put m k v P each new = each_insert m k v P new (λ q x apart e. each_got m P each q x e)

    some_row : (found : Option X) → is_some found ≡ true → (x : X) × (found ≡ Some x)
    some_row None h = cc
    some_row (Some x) h = (x, refl)

    pub there : (m : FinMap R X) (k : K) → contains_key m k ≡ true ↔ ((x : X) × (get m k ≡ Some x))
    there m k = (some_row (get m k), λ r. ap is_some r.1)

    pub there_after : (m : FinMap R X) (k : K) (v : X) (q : K) → IsThere m q → IsThere (insert m k v) q
    there_after m k v q h = elim (cases_key o anti q k) [
      | inl same ↦ rw same (ap is_some (get_new m k v))
      | inr apart ↦ ap is_some (get_other m k v q apart) ∙ h
    ]

    pub new_is_there : (m : FinMap R X) (k : K) (v : X) → IsThere (insert m k v) k
    new_is_there m k v = ap is_some (get_new m k v)

    -- ---- an insertion among the rows in their order

    put_by : (r : Ordering) (k : K) (v : X) (e : K × X) (es : List (K × X)) → cond (is_eq r) (Some e.1) (find R k es) ≡ None
        → (find R k es ≡ None → IsPutIn (rows_of es) (rows_of (put R k v es)) v)
        → IsPutIn (e.1 ∷ rows_of es) (rows_of (by_order r ((k, v) ∷ e ∷ es) ((e.0, v) ∷ es) (e ∷ put R k v es))) v
    put_by Less k v e es h rest = record { before = []; after = e.1 ∷ rows_of es; was = refl; is = refl }
    put_by Equal k v e es h rest = cc
    put_by Greater k v e es h rest =
        let p = rest h in
        record { before = e.1 ∷ p.before; after = p.after; was = ap (λ xs. e.1 ∷ xs) p.was; is = ap (λ xs. e.1 ∷ xs) p.is }

    put_new : (k : K) (v : X) (es : List (K × X)) → find R k es ≡ None → IsPutIn (rows_of es) (rows_of (put R k v es)) v
    put_new k v [] h = record { before = []; after = []; was = refl; is = refl }
    put_new k v (e ∷ es) h = put_by (R k e.0) k v e es h (put_new k v es)

    not_first : (k : K) (old : X) (e : K × X) (es : List (K × X)) → R k e.0 ≡ Less → below_all R e.0 es ≡ true → Among (e ∷ es) (k, old) → ⊥
    not_first k old e es less below (inl s) =
        let same : k ≡ e.0 = ap (λ (g : K × X). g.0) s in
        let tied : R k e.0 ≡ Equal = rw same (tied_itself o e.0) in
        cc
    not_first k old e es less below (inr a) = let more = turned_back o anti k e.0 (below_at e.0 es (k, old) below a) in cc

    replaced_by : (r : Ordering) (k : K) (v old : X) (e : K × X) (es : List (K × X)) → R k e.0 ≡ r → below_all R e.0 es ≡ true → Among (e ∷ es) (k, old)
        → cond (is_eq r) (Some e.1) (find R k es) ≡ Some old
        → (find R k es ≡ Some old → IsPutFor (rows_of es) (rows_of (put R k v es)) old v)
        → IsPutFor (e.1 ∷ rows_of es) (rows_of (by_order r ((k, v) ∷ e ∷ es) ((e.0, v) ∷ es) (e ∷ put R k v es))) old v
    replaced_by Less k v old e es t below a h rest = absurd (not_first k old e es t below a)
    replaced_by Equal k v old e es t below a h rest =
        record { before = []; after = rows_of es; was = ap (λ x. x ∷ rows_of es) (inside e.1 old h); is = refl }
    replaced_by Greater k v old e es t below a h rest =
        let p = rest h in
        record { before = e.1 ∷ p.before; after = p.after; was = ap (λ xs. e.1 ∷ xs) p.was; is = ap (λ xs. e.1 ∷ xs) p.is }

    put_old : (k : K) (v old : X) (es : List (K × X)) → is_sorted R es ≡ true → find R k es ≡ Some old → IsPutFor (rows_of es) (rows_of (put R k v es)) old v
    put_old k v old [] s h = cc
    put_old k v old (e ∷ es) s h =
        let parts = and_parts (below_all R e.0 es) (is_sorted R es) s in
        replaced_by (R k e.0) k v old e es refl parts.0 (found_entry (e ∷ es) k old h) h (put_old k v old es parts.1)

    -- a row under a new key stands somewhere among the others
    pub values_new : (m : FinMap R X) (k : K) (v : X) → get m k ≡ None → IsPutIn (values m) (values (insert m k v)) v
    values_new m k v none =
        let p = put_new k v (entries m) (sym (get-entries m k) ∙ none) in
        record { before = p.before; after = p.after; was = p.was; is = ap rows_of (entries-insert o m k v) ∙ p.is }

    -- and under an old key in the place of the old one
    pub values_old : (m : FinMap R X) (k : K) (v old : X) → get m k ≡ Some old → IsPutFor (values m) (values (insert m k v)) old v
    values_old m k v old was =
        let p = put_old k v old (entries m) (sorted m) (sym (get-entries m k) ∙ was) in
        record { before = p.before; after = p.after; was = p.was; is = ap rows_of (entries-insert o m k v) ∙ p.is }

    pub sum_new : (f : X → ℕ) (m : FinMap R X) (k : K) (v : X) → get m k ≡ None → sum_by f (values (insert m k v)) ≡ sum_by f (values m) + f v
    sum_new f m k v none =
        let p = values_new m k v none in
        let whole = ap (sum_by f) p.is ∙ sum_by-append f p.before (v ∷ p.after) in
        let rest = ap (sum_by f) p.was ∙ sum_by-append f p.before p.after in
        let own = sum_by-cons f v p.after in
        omega (arith, whole, rest, own)

    pub sum_old : (f : X → ℕ) (m : FinMap R X) (k : K) (v old : X) → get m k ≡ Some old → sum_by f (values (insert m k v)) + f old ≡ sum_by f (values m) + f v
    sum_old f m k v old was =
        let p = values_old m k v old was in
        let whole = ap (sum_by f) p.is ∙ sum_by-append f p.before (v ∷ p.after) in
        let rest = ap (sum_by f) p.was ∙ sum_by-append f p.before (old ∷ p.after) in
        let own = sum_by-cons f v p.after in
        let theirs = sum_by-cons f old p.after in
        omega (arith, whole, rest, own, theirs)

    -- what holds of any two rows, and of each and the new one, holds of any two after it
    pub each_two_insert : (m : FinMap R X) (k : K) (v : X) (P : X → X → Type 0) → get m k ≡ None → EachTwo m P
        → ((q : K) (x : X) → get m q ≡ Some x → P x v × P v x) → EachTwo (insert m k v) P
    each_two_insert m k v P none two new =
        let p = values_new m k v none in
        let rises : Rises P (p.before ++ p.after) = subst (Rises P) p.was (pairs_rise P (values m) two) in
        let at = λ (x : X) (a : Among (p.before ++ p.after) x). let r = row_of m x (rw p.was a) in new r.0 x r.1 in
        rising_pairs P (values (insert m k v)) (rw p.is (rises_put P p.before p.after v rises at))
