-- Which properties are vacant, and which suit a client, and in which order they are listed.
use Rattle.std.proofs.Common.{◌≡◌, ◌∙◌, refl, sym, ap, inl, inr, ℕ, Bool, true, false, cond, not, nat_le, ◌&&◌, List, [], ◌∷◌, map, Some, Ordering}
use Rattle.std.proofs.Common.{Less, Equal, Greater, is_lt, nat_cmp, arith}
use Rattle.std.specs.List.{filter, list_any}
use Rattle.std.specs.Ordering.{eq_by_cmp, ordering_then}
use Rattle.std.specs.Cmp.{IsTotalOrder}
use Rattle.std.specs.FinMap.{FinMap, IsAntisymmetric, entries, find, from_entries, get, get-entries, get-from_entries, is_sorted, values}
use Rattle.std.specs.FinMap.Entries.{below_all}
use Rattle.std.proofs.lemmas.Bool.{and_from, and_parts}
use Rattle.std.proofs.lemmas.Bool.Decides.{nat_tests}
use Rattle.std.proofs.lemmas.Cmp.{ranked}
use Rattle.dh_types.specs.declared.property.Property.{Property}
use Rattle.dh_types.specs.declared.client.Client.{Client}
use Rattle.dh_types.specs.declared.lease.Lease.{Lease}
use Rattle.dh_types.specs.Records.{is_same_property_type}
use Rattle.dh_types.proofs.SameValues.{property_types, texts}
use Rattle.dh_model.specs.Books.{Books, pair_cmp, text_cmp}
use Rattle.dh_model.specs.Leases.{Covers, covers, running}
use Rattle.dh_model.specs.Checks.{is_same_text}
use Rattle.dh_model.specs.Answers.{is_vacant, matches, matching, vacant}
use Rattle.dh_model.specs.ListLaws.{IsCheaper, IsNotLet, MatchingRiseByRent, MatchingSuitTheClient, PropertiesAreNumbered, Suits, VacantAreNotLet}
use Rattle.dh_model.specs.ListLaws.{VacantRiseByNumber}
use Rattle.dh_model.proofs.Among.{Among, among, in_filter, in_map, is_among, of_filter, of_passes, some_passes}
use Rattle.dh_model.proofs.KeyOrders.{nat_text_ties, nat_text_total, nat_ties, text_ties, text_total}
use Rattle.dh_model.proofs.MapRows.{below_at, cases_key, found_entry, inside, is_less, key_itself, keys_differ, of_row, row_of, sorted}
use Rattle.dh_model.proofs.Pairs.{rising_pairs}
use Rattle.dh_model.proofs.Rising.{IsBefore, Rises, filter_rises, rises_by}
use Rattle.dh_model.proofs.BranchDues.{entry_found}
use Rattle.dh_model.proofs.LeaseLemmas.{covered, of_covered}

-- ---- vacant properties

not_true : (b : Bool) → not b ≡ true → b ≡ true → ⊥
not_true true e h = cc
not_true false e h = cc

not_from : (b : Bool) → (b ≡ true → ⊥) → not b ≡ true
not_from true h = absurd (h refl)
not_from false h = refl

module _ (books : Books) (day : ℕ) (property : Property) where
  abbrev lets : Lease → Bool
  lets lease = is_same_text lease.terms.property property.number && covers (running books.endings lease) day

  let_by : (lease : Lease) → lease.terms.property ≡ property.number → Covers (running books.endings lease) day → lets lease ≡ true
  let_by lease same h =
      and_from (is_same_text lease.terms.property property.number) (covers (running books.endings lease) day)
      ((texts lease.terms.property property.number).1 same)
      (of_covered (running books.endings lease) day h)

  not_let : is_vacant books day property ≡ true → IsNotLet books day property
  not_let h lease a same c =
      not_true (list_any lets (values books.leases)) h (of_passes lets (values books.leases) lease (among (values books.leases) lease a) (let_by lease same c))

  of_not_let : IsNotLet books day property → is_vacant books day property ≡ true
  of_not_let h = not_from (list_any lets (values books.leases)) (λ some.
      let by = some_passes lets (values books.leases) some in
      let parts = and_parts (is_same_text by.0.terms.property property.number) (covers (running books.endings by.0) day) by.2 in
      h by.0 (is_among (values books.leases) by.0 by.1) ((texts by.0.terms.property property.number).0 parts.0)
      (covered (running books.endings by.0) day parts.1))

pub vacant_are_not_let : VacantAreNotLet
vacant_are_not_let books day property =
    let all = values books.properties in (
      λ a. let kept = in_filter (is_vacant books day) all property (among (vacant books day) property a) in
          (is_among all property kept.0, not_let books day property kept.1),
      λ h. is_among (vacant books day) property (of_filter (is_vacant books day) all property (of_not_let books day property h.1) (among all property h.0)),
    )

-- ---- rows in the order of their keys

module _ {K X : Type 0} {R : K → K → Ordering} (o : IsTotalOrder R) (anti : IsAntisymmetric R) (key : X → K) where
  abbrev Before : X → X → Type 0
  Before x y = IsBefore R (key x) (key y)

  entries_rise : (es : List (K × X)) → is_sorted R es ≡ true → ((e : K × X) → Among es e → key e.1 ≡ e.0) → Rises Before (map (λ e. e.1) es)
  entries_rise [] h are = tt
  entries_rise (e ∷ es) h are =
      let parts = and_parts (below_all R e.0 es) (is_sorted R es) h in (
        λ x a.
            let of = in_map (λ (f : K × X). f.1) es x a in
            let less = below_at o anti e.0 es of.0 parts.0 of.1 in
            let own = are e (inl refl) in
            let other : key x ≡ of.0.0 = ap key of.2 ∙ are of.0 (inr of.1) in
            ap is_lt (λ i. R (own i) (other i)) ∙ less,
        entries_rise es parts.1 (λ f a. are f (inr a)),
      )

  -- rows under their keys stand in the order of these
  rows_rise : (m : FinMap R X) → ((k : K) (x : X) → get m k ≡ Some x → key x ≡ k) → Rises Before (values m)
  rows_rise m are =
      entries_rise (entries m) (sorted o anti m) (λ e a. are e.0 e.1 (get-entries m e.0 ∙ entry_found R o (entries m) e (sorted o anti m) a))

  -- ---- a map of rows by their keys

  abbrev entry : X → K × X
  entry x = (key x, x)

  abbrev by_key : List X → FinMap R X
  by_key xs = from_entries (map entry xs)

  in_by_key : (xs : List X) (k : K) (x : X) → get (by_key xs) k ≡ Some x → Among xs x × (key x ≡ k)
  in_by_key xs k x h =
      let a = found_entry o anti (map entry xs) k x (sym (get-from_entries o (map entry xs) k) ∙ h) in
      let of = in_map entry xs (k, x) a in
      let same : x ≡ of.0 = ap (λ (e : K × X). e.1) of.2 in
      let own : k ≡ key of.0 = ap (λ (e : K × X). e.0) of.2 in
      (rw same of.1, ap key same ∙ sym own)

  found_own : (xs : List X) (x : X) → Among xs x → ((y : X) → Among xs y → key y ≡ key x → y ≡ x) → find R (key x) (map entry xs) ≡ Some x
  found_own [] x a one = absurd a
  found_own (y ∷ xs) x (inl e) one =
      let tied : eq_by_cmp R (key x) (key y) ≡ true = ap (λ z. eq_by_cmp R (key x) (key z)) (sym e) ∙ key_itself o anti (key x) in
      ap (λ b. cond b (Some y) (find R (key x) (map entry xs))) tied ∙ ap (λ z. Some z) (sym e)
  found_own (y ∷ xs) x (inr a) one = elim (cases_key o anti (key x) (key y)) [
    | inl same ↦
        let tied : eq_by_cmp R (key x) (key y) ≡ true = ap (eq_by_cmp R (key x)) (sym same) ∙ key_itself o anti (key x) in
        ap (λ b. cond b (Some y) (find R (key x) (map entry xs))) tied ∙ ap (λ z. Some z) (one y (inl refl) (sym same))
    | inr apart ↦
        ap (λ b. cond b (Some y) (find R (key x) (map entry xs))) (keys_differ o anti (key x) (key y) apart)
        ∙ found_own xs x a (λ z b. one z (inr b))
  ]

  of_by_key : (xs : List X) (x : X) → Among xs x → ((y : X) → Among xs y → key y ≡ key x → y ≡ x) → Among (values (by_key xs)) x
  of_by_key xs x a one = of_row o anti (by_key xs) (key x) x (get-from_entries o (map entry xs) (key x) ∙ found_own xs x a one)

  value_of_by_key : (xs : List X) (x : X) → Among (values (by_key xs)) x → Among xs x
  value_of_by_key xs x a = let r = row_of o anti (by_key xs) x a in (in_by_key xs r.0 x r.1).0

  by_key_rises : (xs : List X) → Rises Before (values (by_key xs))
  by_key_rises xs = rows_rise (by_key xs) (λ k x h. (in_by_key xs k x h).1)

pub vacant_rise_by_number : VacantRiseByNumber
vacant_rise_by_number books day are =
    let rise = rows_rise text_total text_ties (λ (property : Property). property.number) books.properties are in
    let kept = filter_rises (λ (property : Property) (other : Property). IsBefore text_cmp property.number other.number) (is_vacant books day)
    (values books.properties) rise in
    rising_pairs (λ property other. text_cmp property.number other.number ≡ Less) (vacant books day)
    (rises_by (λ (property : Property) (other : Property). IsBefore text_cmp property.number other.number)
    (λ (property : Property) (other : Property). text_cmp property.number other.number ≡ Less)
    (λ property other h. is_less (text_cmp property.number other.number) h) (vacant books day) kept)

-- ---- matching properties

abbrev rent_key : Property → ℕ × List ℕ
rent_key property = (property.rent, property.number)

module _ (books : Books) (client : Client) (day : ℕ) where
  abbrev suiting : List Property
  suiting = filter (matches books client day) (values books.properties)

  suits : (property : Property) → Among suiting property → Suits books client day property
  suits property a =
      let kept = in_filter (matches books client day) (values books.properties) property a in
      let first = and_parts (is_same_property_type property.property_type client.preferred_type && nat_le property.rent client.greatest_rent)
      (is_vacant books day property) kept.1 in
      let parts = and_parts (is_same_property_type property.property_type client.preferred_type) (nat_le property.rent client.greatest_rent) first.0 in
      record {
        of = is_among (values books.properties) property kept.0;
        type_is = (property_types property.property_type client.preferred_type).0 parts.0;
        rent = grind (arith, nat_tests, parts.1);
        vacant = not_let books day property first.1;
      }

  of_suits : (property : Property) → Suits books client day property → Among suiting property
  of_suits property s =
      of_filter (matches books client day) (values books.properties) property
      (and_from (is_same_property_type property.property_type client.preferred_type && nat_le property.rent client.greatest_rent) (is_vacant books day property)
      (and_from (is_same_property_type property.property_type client.preferred_type) (nat_le property.rent client.greatest_rent)
      ((property_types property.property_type client.preferred_type).1 s.type_is) (let rent = s.rent in grind (arith, nat_tests, rent)))
      (of_not_let books day property s.vacant))
      (among (values books.properties) property s.of)

  -- a number is of one property
  one_number : PropertiesAreNumbered books.properties → (property other : Property) → Among (values books.properties) property
      → Among (values books.properties) other
      → other.number ≡ property.number → other ≡ property
  one_number are property other a b same =
      let p = row_of text_total text_ties books.properties property a in
      let q = row_of text_total text_ties books.properties other b in
      let key : q.0 ≡ p.0 = sym (are q.0 other q.1) ∙ same ∙ are p.0 property p.1 in
      inside other property (sym q.1 ∙ ap (get books.properties) key ∙ p.1)

  one_suiting : PropertiesAreNumbered books.properties → (property : Property) → Among suiting property → (other : Property) → Among suiting other
      → rent_key other ≡ rent_key property → other ≡ property
  one_suiting are property a other b same =
      one_number are property other (in_filter (matches books client day) (values books.properties) property a).0
      (in_filter (matches books client day) (values books.properties) other b).0
      (ap (λ (k : ℕ × List ℕ). k.1) same)

pub matching_suit_the_client : MatchingSuitTheClient
matching_suit_the_client books client day property are =
    let all = suiting books client day in (
      λ a. suits books client day property (value_of_by_key nat_text_total nat_text_ties rent_key all property (among (matching books client day) property a)),
      λ s. let a = of_suits books client day property s in
          is_among (matching books client day) property
          (of_by_key nat_text_total nat_text_ties rent_key all property a (one_suiting books client day are property a)),
    )

cheaper_by : (r : Ordering) (property other : Property) → nat_cmp property.rent other.rent ≡ r
    → is_lt (ordering_then r (text_cmp property.number other.number)) ≡ true → IsCheaper property other
cheaper_by Less property other e h = inl (ranked property.rent other.rent Less (sym e))
cheaper_by Equal property other e h = inr (nat_ties property.rent other.rent e, is_less (text_cmp property.number other.number) h)
cheaper_by Greater property other e h = cc

pub matching_rise_by_rent : MatchingRiseByRent
matching_rise_by_rent books client day =
    rising_pairs IsCheaper (matching books client day)
    (rises_by (λ (property : Property) (other : Property). IsBefore (pair_cmp nat_cmp text_cmp) (rent_key property) (rent_key other)) IsCheaper
    (λ property other h. cheaper_by (nat_cmp property.rent other.rent) property other refl h) (matching books client day)
    (by_key_rises nat_text_total nat_text_ties rent_key (suiting books client day)))
