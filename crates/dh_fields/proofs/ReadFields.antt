-- Reading one field.
use Rattle.std.proofs.Common.{◌≡◌, ◌∙◌, ◌↔◌, ℕ, zero, suc, ◌-◌, ◌≤◌, ◌==◌, Bool, true, false, ◌||◌, if◌then◌else◌, Option, None, Some, is_some, unwrap_or}
use Rattle.std.proofs.Common.{slice_get}
use Rattle.std.proofs.Common.{Result, Ok, Err, IfOk, List, [], ◌∷◌, length, map, Bor, refl, sym, ap, subst, arith, ◌⊎◌, inl, inr}
use Rattle.std.specs.Prelude.{IsTrue}
use Rattle.std.specs.Option.{option_map, option_copied}
use Rattle.std.specs.Slice.{IsItemAt}
use Rattle.std.specs.Result.{IsErrAnd, IsOk, MatchResult, result_or}
use Rattle.std.specs.Str.{IsUtf8}
use Rattle.std.proofs.lemmas.Bool.{eqb-true}
use Rattle.std.proofs.lemmas.Option.{get_or_from_slice_get, slice_get-map, slice_get_past, slice_get_read}
use Rattle.std.proofs.lemmas.Str.{IsUtf8-from_is_utf8, IsUtf8-nil}
use Rattle.csv.specs.Records.{field_at}
use Rattle.dh_values.proofs.Ascii.{and_left}
use Rattle.dh_values.specs.Texts.{is_text}
use Rattle.dh_fields.specs.declared.unread.Unread.{Unread}
use Rattle.dh_fields.specs.declared.unread.Unread.TheVariants.{Field, Memory}
use Rattle.dh_fields.specs.FieldKinds.{FieldKind, optional, plain, spelled}
use Rattle.dh_fields.specs.Lines.{Fields, field}
use Rattle.dh_fields.specs.Readings.{IsNoText, Reads, ReadsWanting, StopsAt, is_field, passes}

-- the first field has number 1
pub numbered : (fields : Fields) (n : ℕ) → 1 ≤ n → slice_get ([] ∷ fields) n ≡ slice_get fields (n - 1)
numbered fields n low =
    let same : suc (n - 1) ≡ n = omega arith in
    subst (λ k. slice_get ([] ∷ fields) k ≡ slice_get fields (n - 1)) same refl

-- the field as a slice has it
pub in_slice : (fields : List (Bor (List ℕ))) (i : ℕ) (r : Option (Bor (Bor (List ℕ)))) → IsItemAt fields i r
    → option_map (λ f. f.now) (option_copied r) ≡ slice_get (map (λ f. f.now) fields) i
in_slice fields i None h = rw (slice_get-map (λ (f : Bor (List ℕ)). f.now) fields i, slice_get_past fields i h.3) refl
in_slice fields i (Some f) h =
    rw (slice_get-map (λ (f : Bor (List ℕ)). f.now) fields i, slice_get_read fields _ i f.now refl h.3.0 h.1) refl

-- the field as a record has it
pub in_record : (fields : Fields) (i : ℕ) → field_at fields i ≡ slice_get fields i
unfolding field_at
in_record [] i = refl
in_record (x ∷ fields) zero = refl
in_record (x ∷ fields) (suc i) = in_record fields i

not_true : (b : Bool) → (b ≡ true → ⊥) → b ≡ false
not_true true h = absurd (h refl)
not_true false h = refl

no_text : (test : List ℕ → Bool) (found : Option (List ℕ)) → ((text : List ℕ) → test text ≡ true → IsUtf8 text) → IsNoText found → passes test found ≡ false
no_text test None texts h = refl
no_text test (Some bytes) texts h = not_true (test bytes) (λ p. h (texts bytes p))

module _ {T : Type 0} (kind : FieldKind T) (fields : Fields) (n : ℕ) (is_wanted : Bool) where
  bad : is_field kind.accepts fields n ≡ false → StopsAt (Field n) (if is_field kind.accepts fields n then None else Some n) is_wanted
  bad h = rw h refl

  -- a `?` that hands on what is no text
  pub stops : ((text : List ℕ) → kind.accepts text ≡ true → IsUtf8 text) → (r : Result T Unread) (e : Unread) → IsErrAnd r (λ y. y ≡ e)
      → (e ≡ Field n) × IsNoText (slice_get ([] ∷ fields) n) → ReadsWanting is_wanted kind fields n r
  stops texts (Ok x) e is h = absurd is
  stops texts (Err y) e is h =
      let place : y ≡ Field n = is ∙ h.0 in
      subst (λ z. ReadsWanting is_wanted kind fields n (Err z)) (sym place) (bad (no_text kind.accepts _ texts h.1))

  -- a `?` that hands on want of memory
  pub wants : (r : Result T Unread) → IsErrAnd r (λ y. y ≡ Memory) → is_wanted ≡ true → ReadsWanting is_wanted kind fields n r
  wants (Ok x) is h = absurd is
  wants (Err y) is h = subst (λ z. ReadsWanting is_wanted kind fields n (Err z)) (sym is) h

  module _ (text : List ℕ) (is : slice_get ([] ∷ fields) n ≡ Some text) where
    pub found : field fields n ≡ text
    unfolding field
    found = get_or_from_slice_get ([] ∷ fields) n text [] is

    taken : (value : T) → kind.accepts text ≡ true → value ≡ kind.value text → ReadsWanting is_wanted kind fields n (Ok value)
    taken value h same = (ap (passes kind.accepts) is ∙ h, same ∙ ap kind.value (sym found))

    refused : (kind.accepts text ≡ true → ⊥) → ReadsWanting is_wanted kind fields n (Err (Field n))
    refused h = bad (ap (passes kind.accepts) is ∙ not_true (kind.accepts text) h)

apart : false ≡ true → ⊥
apart h = cc

-- a value that is a text itself
pub reads_plain : {E : Type 0} (test : List ℕ → Bool) (fields : Fields) (n : ℕ) (is_wanted : Bool) (text : List ℕ) → slice_get ([] ∷ fields) n ≡ Some text
    → (got : Result (List ℕ) E) → IfOk got (λ value. value ≡ text) → IsOk got ↔ IsTrue (test text)
    → (r : Result (List ℕ) Unread) → r ≡ result_or got (Err (Field n)) → ReadsWanting is_wanted (plain test) fields n r
reads_plain test fields n is_wanted text is (Ok value) same exact r e = rw e (taken (plain test) fields n is_wanted text is value (exact.0 refl) same)
reads_plain test fields n is_wanted text is (Err b) same exact r e = rw e (refused (plain test) fields n is_wanted text is (λ p. apart (exact.1 p)))

module _ {T : Type 0} (read : List ℕ → Option T) (other : T) where
  some : (o : Option T) → is_some o ≡ true → (x : T) × (o ≡ Some x)
  some None h = absurd (cc)
  some (Some x) h = (x, refl)

  -- texts that are read are text
  pub texts : ((x : T) (text : List ℕ) → read text ≡ Some x → IsUtf8 text) → (text : List ℕ) → (spelled read other).accepts text ≡ true → IsUtf8 text
  texts all text h = let x = some (read text) h in all x.0 text x.1

  -- a value that a text spells
  pub reads_spelled : {E : Type 0} (fields : Fields) (n : ℕ) (text : List ℕ) → slice_get ([] ∷ fields) n ≡ Some text
      → (got : Result T E) → MatchResult got (λ value. read text ≡ Some value) (λ _. read text ≡ None)
      → (r : Result T Unread) → r ≡ result_or got (Err (Field n)) → Reads (spelled read other) fields n r
  reads_spelled fields n text is (Ok value) h r e =
      rw e (taken (spelled read other) fields n false text is value (ap is_some h) (sym (ap (λ o. unwrap_or o other) h)))
  reads_spelled fields n text is (Err b) h r e =
      rw e (refused (spelled read other) fields n false text is (λ p. let none : is_some (read text) ≡ false = ap is_some h in cc))

either : (a b : Bool) → (a || b) ≡ true → (a ≡ true) ⊎ (b ≡ true)
either true b h = inl refl
either false b h = inr h

none_left : (n : ℕ) → suc n ≡ 0 → ⊥
none_left n h = omega arith

nothing : (text : List ℕ) → (length text == 0) ≡ true → IsUtf8 text
nothing [] h = IsUtf8-nil
nothing (b ∷ bs) h = absurd (none_left (length bs) (eqb-true (suc (length bs)) 0 h))

pub texts_or_nothing : {T : Type 0} (kind : FieldKind T) → ((text : List ℕ) → kind.accepts text ≡ true → IsUtf8 text)
    → (text : List ℕ) → (optional kind).accepts text ≡ true → IsUtf8 text
texts_or_nothing kind all text h = elim (either (length text == 0) (kind.accepts text) h) as (λ _. IsUtf8 text) [ inl p ↦ nothing text p | inr p ↦ all text p ]

module _ {T : Type 0} (kind : FieldKind T) (fields : Fields) (n : ℕ) (is_wanted : Bool) (text : List ℕ) (is : slice_get ([] ∷ fields) n ≡ Some text) where
  pub reads_nothing : (length text == 0) ≡ true → ReadsWanting is_wanted (optional kind) fields n (Ok None)
  reads_nothing h = taken (optional kind) fields n is_wanted text is None (rw h refl) (rw h refl)

  same_test : (length text == 0) ≡ false → is_field (optional kind).accepts fields n ≡ is_field kind.accepts fields n
  same_test h =
      let either_way : passes (optional kind).accepts (Some text) ≡ passes kind.accepts (Some text) = rw h refl in
      ap (passes (optional kind).accepts) is ∙ either_way ∙ sym (ap (passes kind.accepts) is)

  pub reads_something : (length text == 0) ≡ false → (before : Bool) (value : T) → ReadsWanting before kind fields n (Ok value)
      → ReadsWanting is_wanted (optional kind) fields n (Ok (Some value))
  reads_something h before value it =
      let there : (length (field fields n) == 0) ≡ false = ap (λ t. length t == 0) (found kind fields n is_wanted text is) ∙ h in
      (same_test h ∙ it.0, rw there (ap (λ x. Some x) it.1))

  -- a `?` that hands on what was wrong with the text
  pub stops_something : (before : Bool) → (before ≡ true → is_wanted ≡ true) → (length text == 0) ≡ false → (r : Result (Option T) Unread) (e : Unread)
      → IsErrAnd r (λ y. y ≡ e) → ReadsWanting before kind fields n (Err e) → ReadsWanting is_wanted (optional kind) fields n r
  stops_something before wants h (Ok x) e failed it = absurd failed
  stops_something before wants h (Err y) (Field k) failed it =
      subst (λ z. ReadsWanting is_wanted (optional kind) fields n (Err z)) (sym failed) (rw (same_test h) it)
  stops_something before wants h (Err y) Memory failed it =
      subst (λ z. ReadsWanting is_wanted (optional kind) fields n (Err z)) (sym failed) (wants it)

pub is_text-IsUtf8 : (most : ℕ) (text : List ℕ) → is_text most text ≡ true → IsUtf8 text
is_text-IsUtf8 most text h = IsUtf8-from_is_utf8 text (and_left _ _ (and_left _ _ (and_left _ _ h)))
