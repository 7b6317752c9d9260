-- How many properties a member of staff manages, after every change.
use Rattle.std.proofs.Common.{◌≡◌, ◌∙◌, refl, sym, ap, subst, inl, inr, ℕ, ◌+◌, ◌<◌, ◌≤◌, Bool, true, false, not, ◌&&◌, cond, is_lt, List, [], ◌∷◌, Option}
use Rattle.std.proofs.Common.{Some, None, IfSome, arith}
use Rattle.std.specs.List.{count_by}
use Rattle.std.specs.FinMap.{FinMap, get, insert, values}
use Rattle.std.proofs.lemmas.Bool.{cases_Bool, false_from_ne_true}
use Rattle.std.proofs.lemmas.Cmp.{tied_itself}
use Rattle.std.proofs.lemmas.List.Sums.{sum_by-cons}
use Rattle.dh_types.specs.declared.staff.Staff.{Staff}
use Rattle.dh_types.specs.declared.property.Property.{Property}
use Rattle.dh_types.specs.declared.command.Assignment.{Assignment}
use Rattle.dh_types.specs.declared.command.RentChange.{RentChange}
use Rattle.dh_types.specs.Records.{is_same_optional}
use Rattle.dh_types.proofs.SameValues.{optional, texts}
use Rattle.dh_model.specs.declared.open_run.OpenRun.{OpenRun}
use Rattle.dh_model.specs.declared.rows.Change.{Change}
use Rattle.dh_model.specs.declared.rows.Change.TheVariants as change
use Rattle.dh_model.specs.Books.{Books, text_cmp}
use Rattle.dh_model.specs.Kinds.{Kind}
use Rattle.dh_model.specs.Checks.{is_same_text, managed_besides}
use Rattle.dh_model.specs.Machine.{changed}
use Rattle.dh_model.specs.Rules.{IsThere, ManagesAtMostHundred, NamesWhatIsThere, managed_by}
use Rattle.dh_model.proofs.Among.{Among, is_among}
use Rattle.dh_model.proofs.KeyOrders.{text_total, text_ties}
use Rattle.dh_model.proofs.Rising.{IsBefore, Rises, rises_by}
use Rattle.dh_laws.specs.InOrder.{AreKeyed}
use Rattle.dh_laws.proofs.VerdictLemmas.Acceptance.{Accepted, Assigns, turned, turned_is}
use Rattle.dh_model.proofs.UnderKeys.{insert_keyed}
use Rattle.dh_laws.proofs.MapMerges.{rows_rise}
use Rattle.dh_model.proofs.MapRows.{each_put, sum_new, sum_old, there}
use Rattle.dh_laws.proofs.VerdictLemmas.Checks.{CanManage}

-- ---- counts

abbrev one : Bool → ℕ
one b = cond b 1 0

module _ {X : Type 0} where
  counted : (p : X → Bool) (x : X) (xs : List X) → count_by p (x ∷ xs) ≡ cond (p x) 1 0 + count_by p xs
  counted p x xs = sum_by-cons (λ y. cond (p y) 1 0) x xs

  no_count : (p : X → Bool) (xs : List X) → ((x : X) → Among xs x → p x ≡ false) → count_by p xs ≡ 0
  no_count p [] none = refl
  no_count p (x ∷ xs) none =
      let rest = no_count p xs (λ y a. none y (inr a)) in
      let own = counted p x xs ∙ ap (λ b. cond b 1 0 + count_by p xs) (none x (inl refl)) in
      omega (arith, rest, own)

  same_count : (p r : X → Bool) (xs : List X) → ((x : X) → Among xs x → p x ≡ r x) → count_by p xs ≡ count_by r xs
  same_count p r [] same = refl
  same_count p r (x ∷ xs) same =
      let rest = same_count p r xs (λ y a. same y (inr a)) in
      let own = counted p x xs ∙ ap (λ b. cond b 1 0 + count_by p xs) (same x (inl refl)) in
      let theirs = counted r x xs in
      omega (arith, rest, own, theirs)

  module _ (p q : X → Bool) where
    abbrev besides : X → Bool
    besides x = p x && not (q x)

    and_not : (a b : Bool) → b ≡ false → a ≡ (a && not b)
    and_not true b e = rw e refl
    and_not false b e = refl

    none_but : (a b : Bool) → b ≡ true → (a && not b) ≡ false
    none_but true b e = rw e refl
    none_but false b e = refl

    at_most_one : (b : Bool) → cond b 1 0 ≤ 1
    at_most_one true = omega arith
    at_most_one false = omega arith

    -- of those that pass, all but one fail q
    all_but_one : (xs : List X) → Rises (λ x y. q x ≡ true → q y ≡ true → ⊥) xs → count_by p xs ≤ count_by besides xs + 1
    all_but_one [] r = omega arith
    all_but_one (x ∷ xs) r =
        let rest = all_but_one xs r.1 in
        let own = counted p x xs in
        let theirs = counted besides x xs in
        elim (cases_Bool (q x)) [
          | inl passes ↦
              let later = same_count p besides xs (λ y a. and_not (p y) (q y) (false_from_ne_true (q y) (r.0 y a passes))) in
              let few = at_most_one (p x) in
              omega (arith, own, theirs, later, few)
          | inr fails ↦
              let same = ap one (and_not (p x) (q x) fails) in
              omega (arith, own, theirs, same, rest)
        ]

-- ---- one property put in

abbrev manages : List ℕ → Property → Bool
manages member property = is_same_optional is_same_text property.staff (Some member)

abbrev is_it : List ℕ → Property → Bool
is_it key property = is_same_text property.number key

numbers_rise : (key : List ℕ) (x y : Property) → IsBefore text_cmp x.number y.number → is_it key x ≡ true → is_it key y ≡ true → ⊥
numbers_rise key x y before a b =
    let left = (texts x.number key).0 a in
    let right = (texts y.number key).0 b in
    let same : is_lt (text_cmp key key) ≡ true = rw (left, right) at before in
    let not_less : is_lt (text_cmp key key) ≡ false = ap is_lt (tied_itself text_total key) in
    cc

module _ (books : Books) (keyed : AreKeyed books) (key : List ℕ) (it : Property) (own : it.number ≡ key) (member : List ℕ) where
  abbrev after : FinMap text_cmp Property
  after = insert books.properties key it

  not_besides : (row : Property) → row.number ≡ key → one (besides (manages member) (is_it key) row) ≡ 0
  not_besides row same = ap one (none_but (manages member) (is_it key) (manages member row) (is_it key row) ((texts row.number key).1 same))

  besides_after : (found : Option Property) → get books.properties key ≡ found
      → count_by (besides (manages member) (is_it key)) (values after) ≡ managed_besides books member key
  besides_after None e =
      let sum = sum_new text_total text_ties (λ row. cond (besides (manages member) (is_it key) row) 1 0) books.properties key it e in
      let new = not_besides it own in
      omega (arith, sum, new)
  besides_after (Some row) e =
      let sum = sum_old text_total text_ties (λ row. cond (besides (manages member) (is_it key) row) 1 0) books.properties key it row e in
      let new = not_besides it own in
      let old = not_besides row (keyed Kind.Properties key row e) in
      omega (arith, sum, new, old)

  -- with room for one more there are a hundred at most
  managed_with_room : managed_besides books member key < 100 → count_by (manages member) (values after) ≤ 100
  managed_with_room room =
      let stand = insert_keyed text_total text_ties (λ p. p.number) books.properties key it own (keyed Kind.Properties) in
      let rises = rows_rise text_total text_ties (λ p. p.number) after stand in
      let few = all_but_one (manages member) (is_it key) (values after)
      (rises_by (λ x y. IsBefore text_cmp x.number y.number) (λ x y. is_it key x ≡ true → is_it key y ≡ true → ⊥) (numbers_rise key) (values after) rises) in
      let same = besides_after (get books.properties key) refl in
      omega (arith, few, same, room)

  -- who does not manage the new row manages no more than before
  managed_no_more : (found : Option Property) → get books.properties key ≡ found → manages member it ≡ false
      → count_by (manages member) (values after) ≤ managed_by books member
  managed_no_more None e fails =
      let sum = sum_new text_total text_ties (λ row. cond (manages member row) 1 0) books.properties key it e in
      let new = ap one fails in
      omega (arith, sum, new)
  managed_no_more (Some row) e fails =
      let sum = sum_old text_total text_ties (λ row. cond (manages member row) 1 0) books.properties key it row e in
      let new = ap one fails in
      omega (arith, sum, new)

  managed_after : (branch : List ℕ) → IfSome it.staff (CanManage books branch key) → managed_by books member ≤ 100
      → count_by (manages member) (values after) ≤ 100
  managed_after branch staff few = elim (cases_Bool (manages member it)) [
    | inl is ↦
        let same = (optional is_same_text texts it.staff (Some member)).0 is in
        let can : CanManage books branch key member = rw same at staff in
        managed_with_room can.room
    | inr fails ↦ let less = managed_no_more (get books.properties key) refl fails in omega (arith, less, few)
  ]

  -- as many as before, if the staff is the same
  managed_the_same : (row : Property) → get books.properties key ≡ Some row → it.staff ≡ row.staff → managed_by books member ≤ 100
      → count_by (manages member) (values after) ≤ 100
  managed_the_same row e staff few =
      let sum = sum_old text_total text_ties (λ row. cond (manages member row) 1 0) books.properties key it row e in
      let same = ap (λ (s : Option (List ℕ)). one (is_same_optional is_same_text s (Some member))) staff in
      omega (arith, sum, same, few)

module _ (books : Books) (run : Option OpenRun) (keyed : AreKeyed books) (names : NamesWhatIsThere books) (rules : ManagesAtMostHundred books) where
  -- nobody manages for who is new
  not_yet : (it : Staff) → get books.staff it.number ≡ None → (property : Property) → Among (values books.properties) property
      → manages it.number property ≡ false
  not_yet it new property a = false_from_ne_true (manages it.number property) (λ is.
      let refers = names Kind.Properties property (is_among (values books.properties) property a) in
      let same = (optional is_same_text texts property.staff (Some it.number)).0 is in
      let known : IsThere books.staff it.number = rw same at refers.staff in
      let row = (there text_total text_ties books.staff it.number).0 known in
      let none : None ≡ Some row.0 = sym new ∙ row.1 in
      cc)

  managers_staff : (it : Staff) → get books.staff it.number ≡ None → ManagesAtMostHundred (record books { staff = insert books.staff it.number it })
  managers_staff it new =
      let none = no_count (manages it.number) (values books.properties) (not_yet it new) in
      each_put text_total text_ties books.staff it.number it (λ m. managed_by books m.number ≤ 100) rules (omega (arith, none))

  managers_property : (it : Property) → IfSome it.staff (CanManage books it.branch it.number)
      → ManagesAtMostHundred (record books { properties = insert books.properties it.number it })
  managers_property it can member a = managed_after books keyed it.number it refl member.number it.branch can (rules member a)

  managers_assigned : (it : Assignment) (h : Assigns books run it) → ManagesAtMostHundred (turned books run (change.Assign it) h)
  managers_assigned it h member a =
      let own = keyed Kind.Properties it.property h.row h.is in
      let staff = subst (λ k. IfSome it.staff (CanManage books h.row.branch k)) own h.staff in
      managed_after books keyed it.property (record h.row { staff = it.staff }) own member.number h.row.branch staff (rules member a)

  managers_at_rent : (it : RentChange) (h : Accepted books run (change.Rent it)) → ManagesAtMostHundred (turned books run (change.Rent it) h)
  managers_at_rent it h member a =
      managed_the_same books keyed it.property (record h.row { rent = it.rent }) (keyed Kind.Properties it.property h.row h.is) member.number h.row h.is refl
      (rules member a)

  few_managed : (rows : Change) (a : Accepted books run rows) → ManagesAtMostHundred (turned books run rows a)
  few_managed (change.Staff it) h = managers_staff it h.known
  few_managed (change.Property it) h = managers_property it h.fits
  few_managed (change.Assign it) h = managers_assigned it h
  few_managed (change.Rent it) h = managers_at_rent it h
  few_managed rows h = rules

  pub keeps_managers : (rows : Change) → Accepted books run rows → ManagesAtMostHundred (changed rows books)
  keeps_managers rows h = subst ManagesAtMostHundred (turned_is books run rows h) (few_managed rows h)
