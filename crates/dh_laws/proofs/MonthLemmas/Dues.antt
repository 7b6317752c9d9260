-- Rows that leave what falls due in a month.
use Rattle.std.proofs.Common.{◌≡◌, ◌≢◌, ◌∙◌, refl, sym, ap, subst, inl, inr, ℕ, ◌<◌, Bool, true, false, cond, nat_eq, List, [], ◌∷◌, ◌++◌, Some, None, arith}
use Rattle.std.specs.List.{filter, flat_map, range_with_len}
use Rattle.std.specs.Cmp.Lexicographic.{pointwise}
use Rattle.std.specs.FinMap.{FinMap, get, insert, values}
use Rattle.std.proofs.lemmas.Bool.{false_from_ne_true}
use Rattle.std.proofs.lemmas.List.Elements.{filter-append}
use Rattle.dh_days.specs.Days.{month_of_day}
use Rattle.dh_types.specs.declared.property.Property.{Property}
use Rattle.dh_types.specs.declared.lease.Lease.{Lease}
use Rattle.dh_types.specs.declared.lease.Charge.{Charge}
use Rattle.dh_types.proofs.SameValues.{numbers, texts}
use Rattle.dh_model.specs.Books.{Books, text_cmp, Endings}
use Rattle.dh_model.specs.Leases.{due, dues, dues_among, dues_of, length_of}
use Rattle.dh_model.specs.Runs.{dues_of_branch, is_property_of, leases_of_branch}
use Rattle.dh_model.specs.Kinds.{Kind}
use Rattle.dh_model.specs.Rules.{IsThere, NamesWhatIsThere}
use Rattle.dh_model.proofs.Among.{Among, in_filter, in_map, is_among}
use Rattle.dh_model.proofs.DueLemmas.{falls_in, is_due}
use Rattle.dh_model.proofs.KeyOrders.{nat_total, nat_ties, text_total, text_ties}
use Rattle.dh_model.proofs.MapRows.{cases_key, get_new, get_other, of_row, there, values_new}

module _ {X : Type 0} where
  module _ (p : X → Bool) where
    -- where none passes, a filter keeps none
    pub none_kept : (xs : List X) → ((x : X) → Among xs x → p x ≡ false) → filter p xs ≡ []
    none_kept [] none = refl
    none_kept (x ∷ xs) none = ap (λ b. cond b (x ∷ filter p xs) (filter p xs)) (none x (inl refl)) ∙ none_kept xs (λ y a. none y (inr a))

  -- tests that answer alike keep the same
  pub kept_alike : (p q : X → Bool) (xs : List X) → ((x : X) → Among xs x → p x ≡ q x) → filter p xs ≡ filter q xs
  kept_alike p q [] same = refl
  kept_alike p q (x ∷ xs) same = λ i. cond (same x (inl refl) i) (x ∷ kept_alike p q xs (λ y a. same y (inr a)) i) (kept_alike p q xs (λ y a. same y (inr a)) i)

  some_of : (xs : List X) → xs ≢ [] → (x : X) × Among xs x
  some_of [] some = absurd (some refl)
  some_of (x ∷ xs) some = (x, inl refl)

-- ---- a new lease

module _ (endings : Endings) (month : ℕ) where
  pub dues_first : (lease : Lease) (leases : List Lease) → dues_among endings (lease ∷ leases) month ≡ filter (falls_in month) (dues_of endings lease)
      ++ dues_among endings leases month
  dues_first lease leases = filter-append (falls_in month) (dues_of endings lease) (flat_map (dues_of endings) leases)

  module _ (lease : Lease) (none : filter (falls_in month) (dues_of endings lease) ≡ []) where
    dues_besides : (before after : List Lease) → dues_among endings (before ++ lease ∷ after) month ≡ dues_among endings (before ++ after) month
    dues_besides [] after = dues_first lease after ∙ ap (λ xs. xs ++ dues_among endings after month) none
    dues_besides (x ∷ before) after =
        dues_first x (before ++ lease ∷ after) ∙ ap (λ ds. filter (falls_in month) (dues_of endings x) ++ ds) (dues_besides before after)
        ∙ sym (dues_first x (before ++ after))

    besides_if : (b : Bool) (p : Lease → Bool) (before after : List Lease)
        → dues_among endings (filter p before ++ cond b (lease ∷ filter p after) (filter p after)) month
        ≡ dues_among endings (filter p before ++ filter p after) month
    besides_if true p before after = dues_besides (filter p before) (filter p after)
    besides_if false p before after = refl

    kept_besides : (p : Lease → Bool) (before after : List Lease)
        → dues_among endings (filter p (before ++ lease ∷ after)) month ≡ dues_among endings (filter p (before ++ after)) month
    kept_besides p before after =
        ap (λ ls. dues_among endings ls month) (filter-append p before (lease ∷ after)) ∙ besides_if (p lease) p before after
        ∙ ap (λ ls. dues_among endings ls month) (sym (filter-append p before after))

  -- a lease that starts later has nothing due
  pub later_owes_none : (lease : Lease) → month < month_of_day lease.terms.start → filter (falls_in month) (dues_of endings lease) ≡ []
  later_owes_none lease later = none_kept (falls_in month) (dues_of endings lease) (λ charge a. false_from_ne_true (falls_in month charge) (λ yes.
      let of = in_map (due lease) (range_with_len 0 (length_of endings lease)) charge a in
      let is = ap (λ (c : Charge). c.month) of.2 in
      let there = (numbers charge.month month).0 yes in
      omega (arith, is, there, later)))

module _ (month : ℕ) where
  module _ (books : Books) (number : ℕ) (lease : Lease) (fresh : get books.leases number ≡ None) (later : month < month_of_day lease.terms.start) where
    pub dues_after_lease : dues (record books { leases = insert books.leases number lease }) month ≡ dues books month
    dues_after_lease =
        let p = values_new nat_total nat_ties books.leases number lease fresh in
        ap (λ ls. dues_among books.endings ls month) p.is ∙ dues_besides books.endings month lease
        (later_owes_none books.endings month lease later) p.before p.after ∙ ap (λ ls. dues_among books.endings ls month) (sym p.was)

    pub branch_after_lease : (branch : List ℕ)
        → dues_of_branch (record books { leases = insert books.leases number lease }) month branch ≡ dues_of_branch books month branch
    branch_after_lease branch =
        let p = values_new nat_total nat_ties books.leases number lease fresh in
        let of = λ (it : Lease). is_property_of branch (get books.properties it.terms.property) in
        ap (λ ls. dues_among books.endings (filter of ls) month) p.is
        ∙ kept_besides books.endings month lease (later_owes_none books.endings month lease later) of p.before p.after
        ∙ ap (λ ls. dues_among books.endings (filter of ls) month) (sym p.was)

-- ---- properties

module _ (books : Books) (properties : FinMap text_cmp Property) where
  -- the properties of the leases are of the branches that they were of
  pub StandAsBefore : Type 0
  StandAsBefore = (lease : Lease) → Among (values books.leases) lease → (branch : List ℕ)
      → is_property_of branch (get properties lease.terms.property) ≡ is_property_of branch (get books.properties lease.terms.property)

  pub stands : StandAsBefore → (lease : Lease) → Among (values books.leases) lease → (branch : List ℕ)
      → is_property_of branch (get properties lease.terms.property) ≡ is_property_of branch (get books.properties lease.terms.property)
  unfolding StandAsBefore
  stands same = same

  pub branch_after_property : StandAsBefore → (month : ℕ) (branch : List ℕ)
      → dues_of_branch (record books { properties = properties }) month branch ≡ dues_of_branch books month branch
  unfolding StandAsBefore
  branch_after_property same month branch = ap (λ ls. dues_among books.endings ls month)
      (kept_alike (λ lease. is_property_of branch (get properties lease.terms.property))
      (λ lease. is_property_of branch (get books.properties lease.terms.property)) (values books.leases) (λ lease a. same lease a branch))

module _ (books : Books) (number : List ℕ) (property : Property) where
  -- no lease is of a property that wasn't there
  pub new_property : NamesWhatIsThere books → get books.properties number ≡ None → StandAsBefore books (insert books.properties number property)
  unfolding StandAsBefore
  new_property names fresh lease a branch =
      let refers = names Kind.Leases lease (is_among (values books.leases) lease a) in
      ap (is_property_of branch) (get_other text_total text_ties books.properties number property lease.terms.property (λ same.
      let is = (there text_total text_ties books.properties lease.terms.property).0 refers.property in
      let none : get books.properties lease.terms.property ≡ None = rw same fresh in
      let some = is.1 in cc))

  -- a property that stays at its branch
  pub same_property : (old : Property) → get books.properties number ≡ Some old → property.branch ≡ old.branch
      → StandAsBefore books (insert books.properties number property)
  unfolding StandAsBefore
  same_property old was stays lease a branch = elim (cases_key text_total text_ties lease.terms.property number) [
    | inl same ↦ rw same (ap (is_property_of branch) (get_new text_total text_ties books.properties number property) ∙ ap (λ b. pointwise nat_eq b branch) stays
        ∙ sym (ap (is_property_of branch) was))
    | inr other ↦ ap (is_property_of branch) (get_other text_total text_ties books.properties number property lease.terms.property other)
  ]

-- ---- branches

-- a branch that has dues is there
pub owing_is_there : (books : Books) (month : ℕ) (branch : List ℕ) → NamesWhatIsThere books → dues_of_branch books month branch ≢ []
    → IsThere books.branches branch
owing_is_there books month branch names owing =
    let some = some_of (dues_of_branch books month branch) owing in
    let d = is_due books.endings (leases_of_branch books branch) month some.0 some.1 in
    let kept = in_filter (λ lease. is_property_of branch (get books.properties lease.terms.property)) (values books.leases) d.lease d.of in
    let refers = names Kind.Leases d.lease (is_among (values books.leases) d.lease kept.0) in
    let is = (there text_total text_ties books.properties d.lease.terms.property).0 refers.property in
    let of : is_property_of branch (Some is.0) ≡ true = ap (is_property_of branch) (sym is.1) ∙ kept.1 in
    let its = (texts is.0.branch branch).0 of in
    subst (λ b. IsThere books.branches b) its
    ((names Kind.Properties is.0
    (is_among (values books.properties) is.0 (of_row text_total text_ties books.properties d.lease.terms.property is.0 is.1))).branch)
