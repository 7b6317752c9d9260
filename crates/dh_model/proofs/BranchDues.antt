-- The dues of a branch: they rise by lease, and no two branches share one.
use Rattle.std.proofs.Common.{◌≡◌, ◌∙◌, refl, sym, ap, inl, inr, ℕ, zero, suc, ◌+◌, ◌<◌, Bool, true, false, cond, T, List, [], ◌∷◌, map, Option, Some, None}
use Rattle.std.proofs.Common.{Ordering, Less, Equal, Greater, is_lt, is_eq, nat_cmp, arith}
use Rattle.std.specs.List.{filter, flat_map, range_with_len}
use Rattle.std.specs.Ordering.{eq_by_cmp, ordering_reverse}
use Rattle.std.specs.Cmp.{IsTotalOrder}
use Rattle.std.specs.FinMap.{entries, entries_sorted, find, get, get-entries, is_sorted, keys, values}
use Rattle.std.specs.FinMap.Entries.{below_all}
use Rattle.std.proofs.lemmas.Cmp.{nat_cmp_total, ranked, tied_itself}
use Rattle.std.proofs.lemmas.Bool.{and_parts}
use Rattle.std.proofs.lemmas.List.Elements.{filter-append}
use Rattle.dh_types.specs.declared.property.Property.{Property}
use Rattle.dh_types.specs.declared.lease.Lease.{Lease}
use Rattle.dh_types.specs.declared.lease.Charge.{Charge}
use Rattle.dh_types.proofs.SameValues.{numbers, texts}
use Rattle.dh_model.specs.Books.{Books, Endings, text_cmp}
use Rattle.dh_model.specs.Leases.{due, dues_among, dues_of, length_of}
use Rattle.dh_model.specs.Runs.{dues_of_branch, is_property_of, leases_of_branch}
use Rattle.dh_model.specs.BatchLaws.{AreNumbered}
use Rattle.dh_model.proofs.Among.{Among, in_filter, in_map, in_range}
use Rattle.dh_model.proofs.DueLemmas.{falls_in, is_due}
use Rattle.dh_model.proofs.Rising.{IsBefore, Lesser, Rises, append_rises, filter_rises}

pub holds : (b : Bool) → T b → b ≡ true
holds true h = refl
holds false h = absurd h

tied_from_back : (r : Ordering) → is_lt r ≡ true → is_eq (ordering_reverse r) ≡ false
tied_from_back Less h = refl
tied_from_back Equal h = cc
tied_from_back Greater h = refl

module _ {K X : Type 0} (R : K → K → Ordering) where
  -- a key that is below all is before each
  key_before : (k : K) (es : List (K × X)) (e : K × X) → below_all R k es ≡ true → Among es e → IsBefore R k e.0
  key_before k [] e h a = absurd a
  key_before k (f ∷ es) e h (inl s) = let parts = and_parts (is_lt (R k f.0)) (below_all R k es) h in rw s parts.0
  key_before k (f ∷ es) e h (inr a) = let parts = and_parts (is_lt (R k f.0)) (below_all R k es) h in key_before k es e parts.1 a

  -- the keys of a map rise
  pub keys_rise : (es : List (K × X)) → is_sorted R es ≡ true → Rises (IsBefore R) (map (λ e. e.0) es)
  keys_rise [] h = tt
  keys_rise (e ∷ es) h =
      let parts = and_parts (below_all R e.0 es) (is_sorted R es) h in
      (λ k a. let of = in_map (λ f. f.0) es k a in rw of.2 (key_before e.0 es of.0 parts.0 of.1), keys_rise es parts.1)

  module _ (o : IsTotalOrder R) where
    found_here : (e : K × X) (q : K) (es : List (K × X)) → q ≡ e.0 → find R q (e ∷ es) ≡ Some e.1
    found_here e q es s =
        let ties : eq_by_cmp R q e.0 ≡ true = rw s (ap is_eq (tied_itself o e.0)) in
        ap (λ b. cond b (Some e.1) (find R q es)) ties

    found_later : (e f : K × X) (es : List (K × X)) → IsBefore R f.0 e.0 → find R e.0 es ≡ Some e.1 → find R e.0 (f ∷ es) ≡ Some e.1
    found_later e f es h found =
        let differ : eq_by_cmp R e.0 f.0 ≡ false = ap is_eq (o.antisymm e.0 f.0) ∙ tied_from_back (R f.0 e.0) h in
        ap (λ b. cond b (Some f.1) (find R e.0 es)) differ ∙ found

    -- each entry is found
    pub entry_found : (es : List (K × X)) (e : K × X) → is_sorted R es ≡ true → Among es e → find R e.0 es ≡ Some e.1
    entry_found [] e h a = absurd a
    entry_found (f ∷ es) e h (inl s) = found_here f e.0 es (ap (λ (g : K × X). g.0) s) ∙ ap (λ (g : K × X). Some g.1) (sym s)
    entry_found (f ∷ es) e h (inr a) =
        let parts = and_parts (below_all R f.0 es) (is_sorted R es) h in
        found_later e f es (key_before f.0 es e parts.0 a) (entry_found es e parts.1 a)

abbrev pub number_of : Lease → ℕ
number_of lease = lease.terms.number

abbrev pub lease_of : Charge → ℕ
lease_of charge = charge.lease

is_before : (r : Ordering) (m n : ℕ) → r ≡ nat_cmp m n → is_lt r ≡ true → m < n
is_before Less m n e h = ranked m n Less e
is_before Equal m n e h = absurd (let no : false ≡ true = h in cc)
is_before Greater m n e h = absurd (let no : false ≡ true = h in cc)

pub branches_rise : (books : Books) → Rises (IsBefore text_cmp) (keys books.branches)
branches_rise books = keys_rise text_cmp (entries books.branches) (holds (is_sorted text_cmp (entries books.branches)) (entries_sorted books.branches))

-- leases in the order of their numbers
rise_by_number : (es : List (ℕ × Lease)) → is_sorted nat_cmp es ≡ true → ((e : ℕ × Lease) → Among es e → e.1.terms.number ≡ e.0)
    → Rises (Lesser number_of) (map (λ e. e.1) es)
rise_by_number [] h are = tt
rise_by_number (e ∷ es) h are =
    let parts = and_parts (below_all nat_cmp e.0 es) (is_sorted nat_cmp es) h in (
      λ lease a.
          let of = in_map (λ f. f.1) es lease a in
          let less = is_before (nat_cmp e.0 of.0.0) e.0 of.0.0 refl (key_before nat_cmp e.0 es of.0 parts.0 of.1) in
          let own = are e (inl refl) in
          let other = are of.0 (inr of.1) in
          rw of.2 (omega (arith, less, own, other)),
      rise_by_number es parts.1 (λ f a. are f (inr a)),
    )

module _ (books : Books) (are : AreNumbered books) where
  sorted : is_sorted nat_cmp (entries books.leases) ≡ true
  sorted = holds (is_sorted nat_cmp (entries books.leases)) (entries_sorted books.leases)

  got : (e : ℕ × Lease) → Among (entries books.leases) e → get books.leases e.0 ≡ Some e.1
  got e a = get-entries books.leases e.0 ∙ entry_found nat_cmp nat_cmp_total (entries books.leases) e sorted a

  under_number : (e : ℕ × Lease) → Among (entries books.leases) e → e.1.terms.number ≡ e.0
  under_number e a = are e.0 e.1 (got e a)

  -- the leases of the books rise by number
  pub leases_rise : Rises (Lesser number_of) (values books.leases)
  leases_rise = rise_by_number (entries books.leases) sorted under_number

  -- each lease of the books is found under its number
  got_by_number : (lease : Lease) → Among (values books.leases) lease → get books.leases lease.terms.number ≡ Some lease
  got_by_number lease a =
      let of = in_map (λ e. e.1) (entries books.leases) lease a in
      rw (of.2, under_number of.0 of.1) (got of.0 of.1)

-- of one lease's dues a month has one at most
module _ (lease : Lease) (month : ℕ) where
  later_due : (k n : ℕ) (charge : Charge) → (due lease k).month ≡ month → Among (filter (falls_in month) (map (due lease) (range_with_len (k + 1) n))) charge
      → ⊥
  later_due k n charge here a =
      let kept = in_filter (falls_in month) (map (due lease) (range_with_len (k + 1) n)) charge a in
      let of = in_map (due lease) (range_with_len (k + 1) n) charge kept.0 in
      let within = in_range (k + 1) n of.0 of.1 in
      let there = (numbers charge.month month).0 kept.1 in
      let same = ap (λ (c : Charge). c.month) of.2 in
      omega (arith, here, there, same, within.0)

  one_by_month : (b : Bool) (k n : ℕ) → falls_in month (due lease k) ≡ b
      → Rises (Lesser lease_of) (filter (falls_in month) (map (due lease) (range_with_len (k + 1) n)))
      → Rises (Lesser lease_of) (cond b (due lease k ∷ filter (falls_in month) (map (due lease) (range_with_len (k + 1) n)))
      (filter (falls_in month) (map (due lease) (range_with_len (k + 1) n))))
  one_by_month true k n e rest = (λ charge a. absurd (later_due k n charge ((numbers (due lease k).month month).0 e) a), rest)
  one_by_month false k n e rest = rest

  one_rises : (k n : ℕ) → Rises (Lesser lease_of) (filter (falls_in month) (map (due lease) (range_with_len k n)))
  one_rises k zero = tt
  one_rises k (suc n) = one_by_month (falls_in month (due lease k)) k n refl (one_rises (k + 1) n)

  of_lease : (endings : Endings) (charge : Charge) → Among (filter (falls_in month) (dues_of endings lease)) charge → charge.lease ≡ lease.terms.number
  of_lease endings charge a =
      let kept = in_filter (falls_in month) (dues_of endings lease) charge a in
      let of = in_map (due lease) (range_with_len 0 (length_of endings lease)) charge kept.0 in
      ap (λ (c : Charge). c.lease) of.2

-- the dues of leases that rise by number rise by lease
pub dues_rise : (endings : Endings) (leases : List Lease) (month : ℕ) → Rises (Lesser number_of) leases
    → Rises (Lesser lease_of) (dues_among endings leases month)
dues_rise endings [] month r = tt
dues_rise endings (lease ∷ leases) month r =
    rw (filter-append (falls_in month) (dues_of endings lease) (flat_map (dues_of endings) leases))
    (append_rises (Lesser lease_of) (filter (falls_in month) (dues_of endings lease)) (dues_among endings leases month)
    (one_rises lease month 0 (length_of endings lease))
    (dues_rise endings leases month r.1)
    (λ c d a b.
    let d_is = is_due endings leases month d b in
    let c_lease = of_lease lease month endings c a in
    let d_lease = ap (λ (e : Charge). e.lease) d_is.is in
    let less = r.0 d_is.lease d_is.of in
    omega (arith, c_lease, d_lease, less)))

pub same_branch : (a b : List ℕ) (property : Option Property) → is_property_of a property ≡ true → is_property_of b property ≡ true → a ≡ b
same_branch a b None p q = cc
same_branch a b (Some property) p q = sym ((texts property.branch a).0 p) ∙ (texts property.branch b).0 q

inside : (x y : Lease) → Some x ≡ Some y → x ≡ y
inside x y e = cc

module _ (books : Books) (month : ℕ) (are : AreNumbered books) where
  -- the dues of a branch rise by lease
  pub dues_of_branch_rise : (branch : List ℕ) → Rises (Lesser lease_of) (dues_of_branch books month branch)
  dues_of_branch_rise branch =
      dues_rise books.endings (leases_of_branch books branch) month
      (filter_rises (Lesser number_of) (λ lease. is_property_of branch (get books.properties lease.terms.property)) (values books.leases)
      (leases_rise books are))

  -- the lease of a branch's due
  pub record IsDueOf (branch : List ℕ) (charge : Charge) : Type 0 where
    pub lease : Lease
    pub number : charge.lease ≡ lease.terms.number
    pub is : get books.leases charge.lease ≡ Some lease
    pub of : is_property_of branch (get books.properties lease.terms.property) ≡ true

  pub due_of_branch : (branch : List ℕ) (charge : Charge) → Among (dues_of_branch books month branch) charge → IsDueOf branch charge
  due_of_branch branch charge a =
      let d = is_due books.endings (leases_of_branch books branch) month charge a in
      let kept = in_filter (λ lease. is_property_of branch (get books.properties lease.terms.property)) (values books.leases) d.lease d.of in
      let number = ap (λ (e : Charge). e.lease) d.is in
      record { lease = d.lease; number = number; is = ap (get books.leases) number ∙ got_by_number books are d.lease kept.0; of = kept.1 }

  -- no two branches have a due in common
  pub one_branch_of_due : (a b : List ℕ) (charge : Charge) → Among (dues_of_branch books month a) charge → Among (dues_of_branch books month b) charge → a ≡ b
  one_branch_of_due a b charge p q =
      let x = due_of_branch a charge p in
      let y = due_of_branch b charge q in
      let same = inside x.lease y.lease (sym x.is ∙ y.is) in
      same_branch a b (get books.properties x.lease.terms.property) x.of
      (ap (λ (lease : Lease). is_property_of b (get books.properties lease.terms.property)) same ∙ y.of)
