-- Lines and the forms of their words.
use Rattle.std.proofs.Common.{◌≡◌, ◌∙◌, ℕ, zero, suc, ◌+◌, Bool, true, false, if◌then◌else◌, Option, None, Some, slice_get, Result, Ok, Err, List, [], ◌∷◌}
use Rattle.std.proofs.Common.{drop, refl, sym, ap}
use Rattle.std.proofs.Common.{subst, add-one, unwrap_or, bytes_eq}
use Rattle.std.specs.Prelude.{⊤}
use Rattle.std.specs.List.{list_all}
use Rattle.std.specs.Result.{IsErrAnd}
use Rattle.std.specs.Str.{IsUtf8}
use Rattle.std.proofs.lemmas.Option.{get_or_from_slice_get, unwrap_or-slice_get}
use Rattle.std.proofs.lemmas.Slice.Eq.{bytes_eq-Decides}
use Rattle.dh_values.proofs.Ascii.{and_left, and_right}
use Rattle.dh_types.specs.declared.reply.Refusal.TheVariants.{BadLine}
use Rattle.dh_fields.proofs.SpelledTexts.{is_small, plain}
use Rattle.dh_fields.specs.declared.unread.Unread.{Unread}
use Rattle.dh_fields.specs.declared.unread.Unread.TheVariants.{Memory, Field}
use Rattle.dh_fields.specs.Lines.{Fields, Form, field, first_bad, form_of, judged, tests_of, value_among}
use Rattle.dh_fields.specs.Readings.{Gives, IsAsWanted, IsNoText, ReadsForm, bad_from, has_field, is_field, wants_among, wants_from}

-- ---- the first bad field, by number

next : (test : List ℕ → Bool) (tests : List (List ℕ → Bool)) (fields : Fields) (n k : ℕ)
    → first_bad k (test ∷ tests) (drop n fields) ≡ if is_field test fields (suc n) then first_bad (k + 1) tests (drop (suc n) fields) else Some k
unfolding first_bad
next test tests [] zero k = refl
next test tests [] (suc n) k = refl
next test tests (x ∷ fields) zero k = refl
next test tests (x ∷ fields) (suc n) k = next test tests fields n k

last : (fields : Fields) (n k : ℕ) → first_bad k [] (drop n fields) ≡ if has_field fields (suc n) then Some k else None
unfolding first_bad
last [] zero k = refl
last [] (suc n) k = refl
last (x ∷ fields) zero k = refl
last (x ∷ fields) (suc n) k = last fields n k

same_bad : (tests : List (List ℕ → Bool)) (fields : Fields) (n : ℕ) → first_bad (suc n) tests (drop n fields) ≡ bad_from (suc n) tests fields
same_bad [] fields n = last fields n (suc n)
same_bad (test ∷ tests) fields n =
    let rest : first_bad (suc n + 1) tests (drop (suc n) fields) ≡ bad_from (suc n + 1) tests fields =
    subst (λ k. first_bad k tests (drop (suc n) fields) ≡ bad_from k tests fields) (sym (add-one (suc n))) (same_bad tests fields (suc n)) in
    next test tests fields n (suc n) ∙ ap (λ rest. if is_field test fields (suc n) then rest else Some (suc n)) rest

-- ---- what was read is what is wanted

told : {T : Type 0} (r : Result T Unread) (bad : Option ℕ) (is_wanted : Bool) (value : T) → Gives r bad is_wanted value
    → IsAsWanted r (judged bad value) is_wanted
told (Ok x) bad is_wanted value h = rw (h.0, h.1) refl
told (Err (Field k)) bad is_wanted value h = rw h refl
told (Err Memory) bad is_wanted value h = h

pub field_is : (fields : Fields) (n : ℕ) (text : List ℕ) → slice_get ([] ∷ fields) n ≡ Some text → field fields n ≡ text
unfolding field
field_is fields n text is = get_or_from_slice_get ([] ∷ fields) n text [] is

module _ {T : Type 0} (forms : List (Form T)) (n : ℕ) (fields : Fields) where
  -- the line of a word
  pub told_as : (form : Form T) (word : List ℕ) (r : Result T Unread) → slice_get ([] ∷ fields) n ≡ Some word → word ≡ form.word
      → form_of forms form.word ≡ Some form → ReadsForm form n fields r → IsAsWanted r (value_among forms n fields) (wants_from (n + 1) form.columns fields)
  unfolding value_among
  told_as form word r is same found h =
      let bad : first_bad (n + 1) (tests_of form) (drop n fields) ≡ bad_from (n + 1) (tests_of form) fields =
      rw add-one (same_bad (tests_of form) fields n) in
      rw (field_is fields n word is ∙ same, found, bad) (told r _ _ _ h)

  wanted : (form : Form T) (word : List ℕ) → slice_get ([] ∷ fields) n ≡ Some word → word ≡ form.word → form_of forms form.word ≡ Some form
      → wants_among forms n fields ≡ wants_from (n + 1) form.columns fields
  unfolding wants_among
  wanted form word is same found = rw (field_is fields n word is ∙ same, found) refl

  -- the line of a word, and whether memory is wanted for it
  pub named : (form : Form T) (word : List ℕ) (r : Result T Unread) → slice_get ([] ∷ fields) n ≡ Some word → word ≡ form.word
      → form_of forms form.word ≡ Some form → ReadsForm form n fields r → IsAsWanted r (value_among forms n fields) (wants_among forms n fields)
  named form word r is same found h = rw (wanted form word is same found) (told_as form word r is same found h)

  -- no form has the word
  unnamed : form_of forms (field fields n) ≡ None → Err (BadLine n) ≡ value_among forms n fields
  unfolding value_among
  unnamed h = rw h refl

pub not_true : (b : Bool) → (b ≡ true → ⊥) → b ≡ false
not_true true h = absurd (h refl)
not_true false h = refl

pub field_is_not : (fields : Fields) (n : ℕ) → slice_get ([] ∷ fields) n ≡ None → field fields n ≡ []
unfolding field
field_is_not fields n is = sym (unwrap_or-slice_get ([] ∷ fields) n []) ∙ ap (λ o. unwrap_or o []) is

-- the word is that of no form
abbrev pub IsOther : {T : Type 0} → List (Form T) → List ℕ → Type 0
IsOther [] word = ⊤
IsOther (form ∷ forms) word = (word ≡ form.word → ⊥) × IsOther forms word

other_form : {T : Type 0} (forms : List (Form T)) (word : List ℕ) → IsOther forms word → form_of forms word ≡ None
other_form [] word h = refl
other_form (form ∷ forms) word h =
    let not_it : bytes_eq word form.word ≡ false = not_true _ (λ p. h.0 ((bytes_eq-Decides word form.word).0 p)) in
    rw not_it (other_form forms word h.1)

no_form : {T : Type 0} (forms : List (Form T)) (bytes : List ℕ) → list_all (λ form. list_all is_small form.word) forms ≡ true → (IsUtf8 bytes → ⊥)
    → form_of forms bytes ≡ None
no_form [] bytes h wrong = refl
no_form (form ∷ forms) bytes h wrong =
    let word : IsUtf8 form.word = plain form.word (and_left _ _ h) in
    let other : bytes_eq bytes form.word ≡ false = not_true _ (λ p. wrong (subst IsUtf8 (sym ((bytes_eq-Decides bytes form.word).0 p)) word)) in
    rw other (no_form forms bytes (and_right (list_all is_small form.word) _ h) wrong)

module _ {T : Type 0} (forms : List (Form T)) (n : ℕ) (fields : Fields) (texts : list_all (λ form. list_all is_small form.word) forms ≡ true)
    (not_empty : form_of forms [] ≡ None) where
  no_word : (found : Option (List ℕ)) → slice_get ([] ∷ fields) n ≡ found → IsNoText found → form_of forms (field fields n) ≡ None
  no_word None is h = rw (field_is_not fields n is) not_empty
  no_word (Some bytes) is h = rw (field_is fields n bytes is) (no_form forms bytes texts h)

  -- there is no word
  pub wordless : IsNoText (slice_get ([] ∷ fields) n) → Err (BadLine n) ≡ value_among forms n fields
  wordless h = unnamed forms n fields (no_word _ refl h)

  -- a `?` that hands this on
  pub no_text : (is_wanted : Bool) (r : Result T Unread) (e : Unread) → IsErrAnd r (λ y. y ≡ e) → (e ≡ Field n) × IsNoText (slice_get ([] ∷ fields) n)
      → IsAsWanted r (value_among forms n fields) is_wanted
  no_text is_wanted (Ok x) e is h = absurd is
  no_text is_wanted (Err y) e is h =
      let place : y ≡ Field n = is ∙ h.0 in
      let P : Unread → Type 0 = λ z. IsAsWanted {T = T} (Err z) (value_among forms n fields) is_wanted in
      subst P (sym place) (wordless h.1)

pub unknown : {T : Type 0} (forms : List (Form T)) (n : ℕ) (fields : Fields) (word : List ℕ) → slice_get ([] ∷ fields) n ≡ Some word → IsOther forms word
    → Err (BadLine n) ≡ value_among forms n fields
unknown forms n fields word is h = unnamed forms n fields (ap (form_of forms) (field_is fields n word is) ∙ other_form forms word h)
