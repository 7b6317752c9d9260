-- Stays in the order of their properties and starts: where none overlaps the next, no two overlap.
use Rattle.std.proofs.Common.{◌≡◌, ◌↔◌, ◌∙◌, refl, sym, subst, inl, inr, ℕ, suc, ◌+◌, ◌<◌, ◌≤◌}
use Rattle.std.proofs.Common.{Bool, true, false, not, nat_le, List, [], ◌∷◌, map, leb-true, leb-false}
use Rattle.std.proofs.Common.{length, slice_index_or, arith}
use Rattle.std.specs.declared.cmp.Ordering.{Ordering}
use Rattle.std.specs.declared.cmp.Ordering.TheVariants.{Less, Equal, Greater}
use Rattle.std.specs.List.{All, AllAdjacentBelow, AllPairs, IsAllAdjacentAnswer}
use Rattle.std.specs.List.Sorted.{IsPermutation, IsSortedByKey}
use Rattle.std.specs.Ordering.{is_lt, nat_cmp, ordering_reverse, ordering_then}
use Rattle.std.proofs.lemmas.Bool.{false≢true, false_from_ne_true, not_from_true, not_from_false, or_cases, or_parts, true_from_ne_false}
use Rattle.std.proofs.lemmas.Bool.Decides.{nat_tests}
use Rattle.std.proofs.lemmas.Cmp.{tied_itself}
use Rattle.std.proofs.lemmas.List.Sorted.{All-permutation, IsPermutation-sym, ranks_by, sorted_far}
use Rattle.dh_types.specs.declared.lease.Lease.{Lease}
use Rattle.dh_types.specs.declared.lease.LeaseTerms.{LeaseTerms}
use Rattle.dh_types.proofs.SameValues.{texts}
use Rattle.dh_model.specs.Books.{Endings, pair_cmp, text_cmp}
use Rattle.dh_model.specs.Checks.{is_same_text}
use Rattle.dh_model.specs.Leases.{overlap, running}
use Rattle.dh_model.proofs.Among.{Among, is_among, of_map}
use Rattle.dh_model.proofs.KeyOrders.{nat_total, pair_total, text_ties, text_total}
use Rattle.dh_model.proofs.LeaseLemmas.{overlap_is_by_ends}
use Rattle.dh_model.proofs.Rising.{Rises, rises_among}
use Rattle.dh_audit_rules.specs.declared.occupancies.Occupancy.{Occupancy}
use Rattle.dh_audit_rules.specs.Occupancies.{IsSound, makes_way, stay_key, stay_on}
use Rattle.dh_audit_rules.proofs.Pairs.{pairs_from_rises, rises_from_pairs, rises_mapped, rises_unmapped}
use Rattle.dh_audit_rules.proofs.Permuted.{pairs_permuted}
use Rattle.dh_audit_rules.proofs.Rows.{element}

-- they do not overlap
abbrev Clear : Occupancy → Occupancy → Type 0
Clear stay other = stay.property ≡ other.property → stay.start < other.end → other.start < stay.end → ⊥

clear_back : (stay other : Occupancy) → Clear stay other → Clear other stay
clear_back stay other clear same p q = clear (sym same) q p

-- the one ends before the other starts, if they are of one property
abbrev MakesWay : Occupancy → Occupancy → Type 0
MakesWay stay next = stay.property ≡ next.property → stay.end ≤ next.start

made_way : (stay next : Occupancy) → makes_way stay next ≡ true → MakesWay stay next
made_way stay next h same = elim (or_cases (not (is_same_text stay.property next.property)) (nat_le stay.end next.start) h) [
  | inl other ↦ absurd (false≢true (sym (not_from_true (is_same_text stay.property next.property) ((texts stay.property next.property).1 same)) ∙ other))
  | inr ends ↦ leb-true stay.end next.start ends
]

-- no way was made: they are of one property, and the next starts too early
record Meets (stay next : Occupancy) : Type 0 where
  property : stay.property ≡ next.property
  early : next.start < stay.end

no_way : (stay next : Occupancy) → makes_way stay next ≡ false → Meets stay next
no_way stay next h =
    let same = is_same_text stay.property next.property in
    let parts = or_parts (not same) (nat_le stay.end next.start) h in
    record {
      property = (texts stay.property next.property).0 (true_from_ne_false same (λ differs. false≢true (sym parts.0 ∙ not_from_false same differs)));
      early = leb-false stay.end next.start parts.1;
    }

-- the one stands no later than the other
abbrev InOrder : Occupancy → Occupancy → Type 0
InOrder stay other = is_lt (pair_cmp text_cmp nat_cmp (stay_key other) (stay_key stay)) ≡ false

first_part : (r q : Ordering) → is_lt (ordering_then r q) ≡ false → (is_lt r ≡ false) × (r ≡ Equal → is_lt q ≡ false)
first_part Less q h = absurd (false≢true (sym h))
first_part Equal q h = (refl, λ _. h)
first_part Greater q h = (refl, λ e. absurd (let no : Greater ≡ Equal = e in cc))

neither : (r : Ordering) → is_lt r ≡ false → is_lt (ordering_reverse r) ≡ false → r ≡ Equal
neither Less h k = absurd (false≢true (sym h))
neither Equal h k = refl
neither Greater h k = absurd (false≢true (sym k))

-- between two texts that are the same there is no other
squeezed : (a b : List ℕ) → is_lt (text_cmp b a) ≡ false → is_lt (text_cmp a b) ≡ false → a ≡ b
squeezed a b h k = text_ties a b (neither (text_cmp a b) k (subst (λ r. is_lt r ≡ false) (text_total.antisymm b a) h))

tied : (a b : List ℕ) → a ≡ b → text_cmp b a ≡ Equal
tied a b e = subst (λ b. text_cmp b a ≡ Equal) e (tied_itself text_total a)

not_before : (m n : ℕ) → is_lt (nat_cmp n m) ≡ false → m ≤ n
not_before m n h = grind (arith, nat_tests)

module _ (a b : Occupancy) (h : InOrder a b) where
  order_of_texts : is_lt (text_cmp b.property a.property) ≡ false
  order_of_texts = (first_part (text_cmp b.property a.property) (nat_cmp b.start a.start) h).0

  order_of_starts : a.property ≡ b.property → a.start ≤ b.start
  order_of_starts same =
      not_before a.start b.start ((first_part (text_cmp b.property a.property) (nat_cmp b.start a.start) h).1 (tied a.property b.property same))

between : (a b c : Occupancy) → InOrder a b → InOrder b c → a.property ≡ c.property → a.property ≡ b.property
between a b c h k same =
    squeezed a.property b.property (order_of_texts a b h) (subst (λ text. is_lt (text_cmp text b.property) ≡ false) (sym same) (order_of_texts b c k))

-- each makes way for the next
abbrev Follow : List Occupancy → Type 0
Follow [] = Unit {0}
Follow (x ∷ []) = Unit {0}
Follow (x ∷ (y ∷ ys)) = MakesWay x y × Follow (y ∷ ys)

rest_follow : (x : Occupancy) (xs : List Occupancy) → Follow (x ∷ xs) → Follow xs
rest_follow x [] f = tt
rest_follow x (y ∷ ys) f = f.1

first_makes_way : (x : Occupancy) (xs : List Occupancy) → Rises InOrder (x ∷ xs) → Follow (x ∷ xs) → (z : Occupancy) → Among xs z → MakesWay x z
first_makes_way x [] r f z a = absurd a
first_makes_way x (y ∷ ys) r f z (inl e) = subst (MakesWay x) (sym e) f.0
first_makes_way x (y ∷ ys) r f z (inr a) = λ same.
    let first : InOrder x y = r.0 y (inl refl) in
    let second : InOrder y z = r.1.0 z a in
    let here : x.property ≡ y.property = between x y z first second same in
    let ends : x.end ≤ y.start = f.0 here in
    let starts : y.start ≤ z.start = order_of_starts y z second (sym here ∙ same) in
    omega (arith, ends, starts)

all_make_way : (xs : List Occupancy) → Rises InOrder xs → Follow xs → Rises MakesWay xs
all_make_way [] r f = tt
all_make_way (x ∷ xs) r f = (first_makes_way x xs r f, all_make_way xs r.1 (rest_follow x xs f))

follow : (xs : List Occupancy) → AllAdjacentBelow MakesWay xs (length xs) → Follow xs
follow [] h = tt
follow (x ∷ []) h = tt
follow (x ∷ (y ∷ ys)) h = (
  h 0 x (omega arith),
  follow (y ∷ ys) (λ k d within.
      let next : suc k + 1 ≡ suc (k + 1) = omega arith in
      subst (λ n. MakesWay (slice_index_or (y ∷ ys) k d) (slice_index_or (x ∷ (y ∷ ys)) n d)) next (h (suc k) d (omega (arith, within)))),
)

clear_of_way : (x y : Occupancy) → MakesWay x y → Clear x y
clear_of_way x y way same p q = let ends = way same in omega (arith, ends, q)

module _ (stays : List Occupancy) (sound : All IsSound stays) (sorted : IsSortedByKey stay_key (pair_cmp text_cmp nat_cmp) stays) where
  in_order : AllPairs InOrder stays
  in_order = λ i j d before within.
      sorted_far (λ x y. is_lt (pair_cmp text_cmp nat_cmp (stay_key x) (stay_key y))) (ranks_by (pair_total text_total nat_total) stay_key) stays sorted i j d
      (omega (arith, before)) within

  never_clear : (k : ℕ) (d : Occupancy) → k + 1 < length stays → makes_way (slice_index_or stays k d) (slice_index_or stays (k + 1) d) ≡ false
      → AllPairs Clear stays
      → ⊥
  never_clear k d within blocked clear =
      let one = slice_index_or stays k d in
      let next = slice_index_or stays (k + 1) d in
      let meets = no_way one next blocked in
      let starts = order_of_starts one next (in_order k (k + 1) d (omega arith) within) meets.property in
      let later = (sound (k + 1) d within).later in
      clear k (k + 1) d (omega arith) within meets.property (omega (arith, starts, later)) meets.early

  clear_tell : (b : Bool) → IsAllAdjacentAnswer (λ stay next free. free ≡ makes_way stay next) stays b → (b ≡ true) ↔ AllPairs Clear stays
  clear_tell true h = (
    λ _. pairs_from_rises Clear stays (rises_among MakesWay Clear stays (λ x y _ _. clear_of_way x y)
        (all_make_way stays (rises_from_pairs InOrder stays in_order)
        (follow stays (λ k d within. made_way (slice_index_or stays k d) (slice_index_or stays (k + 1) d) (sym (h k d within)))))),
    λ _. refl,
  )
  clear_tell false h = (
    λ no. absurd (false≢true no),
    λ clear. let it = element stays h.0 (omega (arith, h.1)) in absurd (never_clear h.0 it.0 h.1 (sym (h.2 it.0)) clear),
  )

abbrev Apart : Endings → Lease → Lease → Type 0
Apart endings lease other = overlap (running endings lease) (running endings other) ≡ false

module _ (endings : Endings) where
  module _ (lease other : Lease) (s : IsSound (stay_on endings lease)) (t : IsSound (stay_on endings other)) where
    abbrev runs : LeaseTerms
    runs = running endings lease

    abbrev other_runs : LeaseTerms
    other_runs = running endings other

    apart_if_clear : Clear (stay_on endings lease) (stay_on endings other) → Apart endings lease other
    apart_if_clear clear = false_from_ne_true (overlap runs other_runs) (λ yes.
        let ends = (overlap_is_by_ends runs other_runs s.day t.day s.later t.later).0 yes in
        clear ends.0 ends.1 ends.2)

    clear_if_apart : Apart endings lease other → Clear (stay_on endings lease) (stay_on endings other)
    clear_if_apart apart same p q = false≢true (sym apart ∙ (overlap_is_by_ends runs other_runs s.day t.day s.later t.later).1 (same, p, q))

  sound_at : (leases : List Lease) → All IsSound (map (stay_on endings) leases) → (lease : Lease) → Among leases lease → IsSound (stay_on endings lease)
  sound_at leases all lease a =
      let is = is_among (map (stay_on endings) leases) (stay_on endings lease) (of_map (stay_on endings) leases lease a) in
      subst IsSound (sym is.1.1) (all is.0 (stay_on endings lease) is.1.0)

  abbrev ClearOn : Lease → Lease → Type 0
  ClearOn lease other = Clear (stay_on endings lease) (stay_on endings other)

  -- whether no two leases of one property cover a common day, as long as they run
  pub stays_tell : (leases : List Lease) (stays : List Occupancy) (b : Bool) → IsPermutation (map (stay_on endings) leases) stays → All IsSound stays
      → IsSortedByKey stay_key (pair_cmp text_cmp nat_cmp) stays
      → IsAllAdjacentAnswer (λ stay next free. free ≡ makes_way stay next) stays b → (b ≡ true)
      ↔ AllPairs (λ lease other. overlap (running endings lease) (running endings other) ≡ false) leases
  stays_tell leases stays b moved sound sorted answer =
      let on = map (stay_on endings) leases in
      let back = IsPermutation-sym on stays moved in
      let sound_on = sound_at leases (All-permutation IsSound stays on back sound) in
      let tell = clear_tell stays sound sorted b answer in (
        λ yes. pairs_from_rises (Apart endings) leases
            (rises_among ClearOn (Apart endings) leases (λ l k p q. apart_if_clear l k (sound_on l p) (sound_on k q))
            (rises_unmapped Clear (stay_on endings) leases
            (rises_from_pairs Clear on (pairs_permuted Clear clear_back stays on back (tell.0 yes))))),
        λ apart. tell.1 (pairs_permuted Clear clear_back on stays moved (pairs_from_rises Clear on
            (rises_mapped Clear (stay_on endings) leases
            (rises_among (Apart endings) ClearOn leases (λ l k p q. clear_if_apart l k (sound_on l p) (sound_on k q))
            (rises_from_pairs (Apart endings) leases apart))))),
      )
