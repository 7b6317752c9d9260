-- Records put into a map one after the other, each of which is new to it, are put there all at once.
use Rattle.std.proofs.Common.{◌≡◌, ◌≢◌, ◌∙◌, refl, sym, ap, subst, inl, inr, List, [], ◌∷◌, ◌++◌, Some, None}
use Rattle.std.specs.declared.cmp.Ordering.{Ordering}
use Rattle.std.specs.Cmp.{IsTotalOrder}
use Rattle.std.specs.Option.{option_or}
use Rattle.std.specs.FinMap.{FinMap, IsAntisymmetric, entries, get, get-entries, get-from_entries, insert, same_map}
use Rattle.dh_model.specs.Books.{with_rows}
use Rattle.dh_model.proofs.Among.{Among}
use Rattle.dh_model.proofs.MapRows.{cases_key, get_new, get_other}
use Rattle.dh_laws.proofs.MapMerges.{get-with_rows, get_past_rows, row_at}
use Rattle.dh_sql.specs.Changes.{AreNew}

module _ {K X : Type 0} {R : K → K → Ordering} (key : X → K) where
  -- the map with the records, each put on those before it
  abbrev pub with_each : List X → FinMap R X → FinMap R X
  with_each [] held = held
  with_each (x ∷ xs) held = with_each xs (insert held (key x) x)

  pub with_each_more : (xs ys : List X) (held : FinMap R X) → with_each (xs ++ ys) held ≡ with_each ys (with_each xs held)
  with_each_more [] ys held = refl
  with_each_more (x ∷ xs) ys held = with_each_more xs ys (insert held (key x) x)

  -- of new records the first are new, and the others are new to the map with these
  pub new_in_parts : (xs ys : List X) (held : FinMap R X) → AreNew key (xs ++ ys) held → AreNew key xs held × AreNew key ys (with_each xs held)
  new_in_parts [] ys held new = (tt, new)
  new_in_parts (x ∷ xs) ys held new = let rest = new_in_parts xs ys (insert held (key x) x) new.1 in ((new.0, rest.0), rest.1)

  module _ (o : IsTotalOrder R) (anti : IsAntisymmetric R) where
    pub with_none : (held : FinMap R X) → with_rows key [] held ≡ held
    with_none held = same_map o anti (with_rows key [] held) held (λ q. get-from_entries o (entries held) q ∙ sym (get-entries held q))

    pub with_one : (x : X) (held : FinMap R X) → with_rows key (x ∷ []) held ≡ insert held (key x) x
    with_one x held = ap (λ (m : FinMap R X). insert m (key x) x) (with_none held)

    -- a key that is there is of none of the new records
    apart : (xs : List X) (held : FinMap R X) (k : K) (there : X) → AreNew key xs held → get held k ≡ Some there
        → (x : X) → Among xs x → key x ≢ k
    apart [] held k there new found x a = absurd a
    apart (y ∷ xs) held k there new found x (inl e) = λ same.
        let is : key y ≡ k = ap key (sym e) ∙ same in
        let none : Some there ≡ None = sym found ∙ ap (get held) (sym is) ∙ new.0 in
        cc
    apart (y ∷ xs) held k there new found x (inr a) =
        let differs : k ≢ key y = λ same.
        let none : Some there ≡ None = sym found ∙ ap (get held) same ∙ new.0 in cc in
        apart xs (insert held (key y) y) k there new.1 (get_other o anti held (key y) y k differs ∙ found) x a

    -- records put on one that none of them is are this one put on them
    put_first : (xs : List X) (x : X) (held : FinMap R X) → AreNew key xs (insert held (key x) x)
        → with_rows key xs (insert held (key x) x) ≡ with_rows key (x ∷ xs) held
    put_first xs x held new = same_map o anti (with_rows key xs after) (insert rows own x) at
      where
        own : K
        own = key x

        after : FinMap R X
        after = insert held own x

        rows : FinMap R X
        rows = with_rows key xs held

        at_own : get (with_rows key xs after) own ≡ get (insert rows own x) own
        at_own =
            get_past_rows o anti key xs after own (apart xs after own x new (get_new o anti held own x)) ∙ get_new o anti held own x
            ∙ sym (get_new o anti rows own x)

        at_other : (q : K) → q ≢ own → get (with_rows key xs after) q ≡ get (insert rows own x) q
        at_other q differs =
            get-with_rows o anti key xs after q
            ∙ ap (option_or (row_at o anti key q xs)) (get_other o anti held own x q differs)
            ∙ sym (get-with_rows o anti key xs held q)
            ∙ sym (get_other o anti rows own x q differs)

        at : (q : K) → get (with_rows key xs after) q ≡ get (insert rows own x) q
        at q = elim (cases_key o anti q own) [
          | inl same ↦ subst (λ k. get (with_rows key xs after) k ≡ get (insert rows own x) k) (sym same) at_own
          | inr differs ↦ at_other q differs
        ]

    pub with_all : (xs : List X) (held : FinMap R X) → AreNew key xs held → with_each xs held ≡ with_rows key xs held
    with_all [] held new = sym (with_none held)
    with_all (x ∷ xs) held new = with_all xs (insert held (key x) x) new.1 ∙ put_first xs x held new.1
