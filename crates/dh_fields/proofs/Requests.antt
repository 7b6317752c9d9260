-- Commands and questions among the lines.
use Rattle.std.proofs.Common.{◌≡◌, ◌∙◌, ℕ, Bool, true, false, Option, None, Some, slice_get, bytes_eq, codes, Result, Ok, Err, List, [], ◌∷◌, refl, sym, ap}
use Rattle.std.proofs.Common.{subst}
use Rattle.std.specs.Result.{IsErrAnd}
use Rattle.std.specs.Str.{IsUtf8}
use Rattle.std.proofs.lemmas.Slice.Eq.{bytes_eq-Decides}
use Rattle.dh_types.specs.declared.command.Command.{Command}
use Rattle.dh_types.specs.declared.question.Question.{Question}
use Rattle.dh_types.specs.declared.reply.Refusal.{Refusal}
use Rattle.dh_types.specs.declared.reply.Refusal.TheVariants.{BadLine}
use Rattle.dh_fields.proofs.Forms.{field_is, field_is_not, not_true, wordless}
use Rattle.dh_fields.proofs.SpelledTexts.{plain}
use Rattle.dh_types.specs.declared.request.Request.{Request}
use Rattle.dh_types.specs.declared.request.Request.TheVariants as request
use Rattle.dh_fields.specs.declared.unread.Unread.{Unread}
use Rattle.dh_fields.specs.declared.unread.Unread.TheVariants.{Memory, Field}
use Rattle.dh_fields.specs.Lines.{Fields, IsShown, a_command, a_question, command_forms, field, question_forms, request_of, value_among}
use Rattle.dh_fields.specs.Readings.{GivesUp, IsAsWanted, IsNoText, wants_among, wants_text}

-- whether field 1 is `show`
abbrev pub is_show : Fields → Bool
is_show fields = bytes_eq (field fields 1) (codes "show")

pub shows : (fields : Fields) (word : List ℕ) (b c : Bool) → slice_get ([] ∷ fields) 1 ≡ Some word → b ≡ bytes_eq word (codes "show") → b ≡ c
    → is_show fields ≡ c
shows fields word b c is tested h = ap (λ w. bytes_eq w (codes "show")) (field_is fields 1 word is) ∙ sym tested ∙ h

module _ {T : Type 0} (whole : Result Request Refusal) (part : Result T Refusal) (after before : Bool)
    (fails : (refusal : Refusal) → Err refusal ≡ part → Err refusal ≡ whole) (wants : before ≡ true → after ≡ true) where
  gives : (e : Unread) → GivesUp e part before → GivesUp e whole after
  gives (Field k) h = fails (BadLine k) h
  gives Memory h = wants h

  -- a `?` that hands on what was wrong
  handed : (r : Result Request Unread) (e : Unread) → IsErrAnd r (λ y. y ≡ e) → GivesUp e part before → IsAsWanted r whole after
  handed (Ok x) e is h = absurd is
  handed (Err y) e is h = subst (λ z. GivesUp z whole after) (sym is) (gives e h)

module _ (fields : Fields) where
  pub asked : is_show fields ≡ true → (it : Question) → Ok it ≡ value_among question_forms 2 fields → Ok (request.Question it) ≡ request_of fields
  unfolding request_of
  asked show it h = rw show (ap a_question h)

  pub asked_badly : is_show fields ≡ true → (r : Result Request Unread) (e : Unread) → IsErrAnd r (λ y. y ≡ e)
      → GivesUp e (value_among question_forms 2 fields) false → IsAsWanted r (request_of fields) (wants_text fields)
  unfolding request_of
  asked_badly show =
      handed (request_of fields) (value_among question_forms 2 fields) (wants_text fields) false (λ refusal h. rw show (ap a_question h)) (λ h. absurd (cc))

  pub commanded : is_show fields ≡ false → (it : Command) → Ok it ≡ value_among command_forms 1 fields → Ok (request.Command it) ≡ request_of fields
  unfolding request_of
  commanded show it h = rw show (ap a_command h)

  pub commanded_badly : is_show fields ≡ false → (r : Result Request Unread) (e : Unread) → IsErrAnd r (λ y. y ≡ e)
      → GivesUp e (value_among command_forms 1 fields) (wants_among command_forms 1 fields) → IsAsWanted r (request_of fields) (wants_text fields)
  unfolding request_of wants_text
  commanded_badly show =
      handed (request_of fields) (value_among command_forms 1 fields) (wants_text fields) (wants_among command_forms 1 fields)
      (λ refusal h. rw show (ap a_command h)) (λ h. rw show h)

  shows_nothing : (found : Option (List ℕ)) → slice_get ([] ∷ fields) 1 ≡ found → IsNoText found → is_show fields ≡ false
  shows_nothing None is h = ap (λ w. bytes_eq w (codes "show")) (field_is_not fields 1 is)
  shows_nothing (Some bytes) is h =
      let other : bytes_eq bytes (codes "show") ≡ false =
      not_true _ (λ p. h (subst IsUtf8 (sym ((bytes_eq-Decides bytes (codes "show")).0 p)) (plain (codes "show") refl))) in
      ap (λ w. bytes_eq w (codes "show")) (field_is fields 1 bytes is) ∙ other

  -- there is no word
  pub says_nothing : (r : Result Request Unread) (e : Unread) → IsErrAnd r (λ y. y ≡ e) → (e ≡ Field 1) × IsNoText (slice_get ([] ∷ fields) 1)
      → IsAsWanted r (request_of fields) (wants_text fields)
  says_nothing r e is h =
      let P : Unread → Type 0 = λ z. GivesUp z (value_among command_forms 1 fields) (wants_among command_forms 1 fields) in
      commanded_badly (shows_nothing _ refl h.1) r e is (subst P (sym h.0) (wordless command_forms 1 fields refl refl h.1))

-- the line of a question is what that is
pub question_is : (fields : Fields) → IsShown fields → (r : Result Question Refusal) → r ≡ value_among question_forms 2 fields
    → a_question r ≡ request_of fields
unfolding request_of field
question_is fields shown r is = let show : is_show fields ≡ true = ap is_show shown.1 in rw show (ap a_question is)
