-- What reading a field, or a whole line, gives.
use Rattle.std.specs.Prelude.{◌≡◌, ℕ, ◌+◌, Bool, true, false, not, ◌&&◌, if◌then◌else◌, List, [], ◌∷◌, slice_get, codes, bytes_eq, IsUtf8, ⊤}
use Rattle.std.specs.Prelude.{Option, None, Some, is_some, Result, Ok, Err}
use Rattle.dh_types.specs.declared.reply.Refusal.{Refusal}
use Rattle.dh_types.specs.declared.reply.Refusal.TheVariants.{BadLine}
use Rattle.dh_fields.specs.declared.unread.Unread.{Unread}
use Rattle.dh_fields.specs.declared.unread.Unread.TheVariants.{Memory, Field}
use Rattle.dh_fields.specs.FieldKinds.{FieldKind}
use Rattle.dh_fields.specs.Lines.{Column, Fields, Form, command_forms, field, form_of, tests_of}
use Rattle.dh_fields.specs.Lines.Column.{Value, Copied}

-- there is a text, and it passes the test
abbrev pub passes : (List ℕ → Bool) → Option (List ℕ) → Bool
passes test None = false
passes test (Some text) = test text

-- the field of this number, from 1 on, is there
abbrev pub has_field : Fields → ℕ → Bool
has_field fields n = is_some (slice_get ([] ∷ fields) n)

-- the field of this number, from 1 on, is there and passes its test
abbrev pub is_field : (List ℕ → Bool) → Fields → ℕ → Bool
is_field test fields n = passes test (slice_get ([] ∷ fields) n)

-- there is no such field, or it is no text
abbrev pub IsNoText : Option (List ℕ) → Type 0
IsNoText None = ⊤
IsNoText (Some bytes) = ¬ (IsUtf8 bytes)

-- the stop is at this bad field, or memory ran out where it was wanted
abbrev pub StopsAt : Unread → Option ℕ → Bool → Type 0
StopsAt (Field n) bad is_wanted = bad ≡ Some n
StopsAt Memory bad is_wanted = is_wanted ≡ true

-- the field of this number was read as this kind, or is bad, or memory for it ran out
abbrev pub ReadsWanting : {T : Type 0} → Bool → FieldKind T → Fields → ℕ → Result T Unread → Type 0
ReadsWanting is_wanted kind fields n (Ok value) = (is_field kind.accepts fields n ≡ true) × (value ≡ kind.value (field fields n))
ReadsWanting is_wanted kind fields n (Err stop) = StopsAt stop (if is_field kind.accepts fields n then None else Some n) is_wanted

-- the same of a value, for which no memory is wanted
abbrev pub Reads : {T : Type 0} → FieldKind T → Fields → ℕ → Result T Unread → Type 0
Reads kind fields n result = ReadsWanting false kind fields n result

-- the same of a text, which is copied if it is one of these
abbrev pub Copies : {T : Type 0} → (List ℕ → Bool) → FieldKind T → Fields → ℕ → Result T Unread → Type 0
Copies copies kind fields n result = ReadsWanting (is_field copies fields n) kind fields n result

-- the first bad field, numbered from n
abbrev pub bad_from : ℕ → List (List ℕ → Bool) → Fields → Option ℕ
bad_from n [] fields = if has_field fields n then Some n else None
bad_from n (test ∷ tests) fields = if is_field test fields n then bad_from (n + 1) tests fields else Some n

-- Memory is wanted for the fields of these columns, numbered from n: the first text is a good one, and so is each field before it.
abbrev pub wants_from : ℕ → List Column → Fields → Bool
wants_from n [] fields = false
wants_from n (Value accepts ∷ columns) fields = wants_from (n + 1) columns fields && is_field accepts fields n
wants_from n (Copied accepts copies ∷ columns) fields = is_field copies fields n

abbrev pub Gives : {T : Type 0} → Result T Unread → Option ℕ → Bool → T → Type 0
Gives (Ok value) bad is_wanted wanted = (bad ≡ None) × (value ≡ wanted)
Gives (Err stop) bad is_wanted wanted = StopsAt stop bad is_wanted

-- the fields behind field n were read so
abbrev pub ReadsForm : {T : Type 0} → Form T → ℕ → Fields → Result T Unread → Type 0
ReadsForm form n fields result =
    Gives result (bad_from (n + 1) (tests_of form) fields) (wants_from (n + 1) form.columns fields) (form.value fields)

-- what is wanted is this bad field, or memory ran out where it was wanted
abbrev pub GivesUp : {T : Type 0} → Unread → Result T Refusal → Bool → Type 0
GivesUp (Field bad) wanted is_wanted = Err (BadLine bad) ≡ wanted
GivesUp Memory wanted is_wanted = is_wanted ≡ true

-- what was read is what is wanted
abbrev pub IsAsWanted : {T : Type 0} → Result T Unread → Result T Refusal → Bool → Type 0
IsAsWanted (Ok value) wanted is_wanted = Ok value ≡ wanted
IsAsWanted (Err stop) wanted is_wanted = GivesUp stop wanted is_wanted

-- ---- the lines for which memory is wanted

abbrev pub wants_by : {T : Type 0} → Option (Form T) → ℕ → Fields → Bool
wants_by None n fields = false
wants_by (Some form) n fields = wants_from (n + 1) form.columns fields

-- memory is wanted for the fields whose word is field n, by the form of that word
unfoldable pub wants_among : {T : Type 0} → List (Form T) → ℕ → Fields → Bool
wants_among forms n fields = wants_by (form_of forms (field fields n)) n fields

-- The line has a text to copy: its word is that of a command with texts, and each field up to the first of them is good. Where that one may
-- be empty, it is not.
unfoldable pub wants_text : Fields → Bool
wants_text fields = not (bytes_eq (field fields 1) (codes "show")) && wants_among command_forms 1 fields

abbrev pub WantsText : Fields → Type 0
WantsText fields = wants_text fields ≡ true
