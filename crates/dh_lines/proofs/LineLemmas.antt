-- A line: its number, and what it says.
use Rattle.std.proofs.Common.{◌≡◌, ◌∙◌, ℕ, Option, List, [], ◌∷◌, ◌++◌, Result, refl, sym, ap, subst, append_assoc}
use Rattle.std.specs.Prelude.{IsErr}
use Rattle.std.specs.Fmt.{decimal}
use Rattle.std.specs.Io.KnownBytes.{Appends}
use Rattle.dh_types.specs.Output.{BreaksOff, Puts}
use Rattle.dh_types.specs.Reports.{Report, report_of}
use Rattle.dh_types.specs.declared.answer.Answer.{Answer}
use Rattle.dh_types.specs.declared.answer.Answer.TheVariants.{Refused}
use Rattle.dh_types.specs.declared.reply.Refusal.{Refusal}
use Rattle.dh_reports.specs.ReportTexts.{line_count, report_text}
use Rattle.dh_reports.proofs.PartLemmas.{broke, goes_on}
use Rattle.dh_lines.specs.declared.replies.LineBody.TheVariants.{Shown}
use Rattle.dh_lines.specs.Session.{numbered, reported_text, shown_text}
use Rattle.dh_lines.specs.LineBodies.{body_line}

module _ {T E : Type 0} (r : Result T E) where
  number_is : (number : ℕ) (text : List ℕ) → (decimal number ++ 32 ∷ []) ++ text ≡ numbered number text
  number_is number text = append_assoc (decimal number) (32 ∷ []) text

  -- a line's number, and then its text
  pub number-broke : (a b : Option (List ℕ)) (number : ℕ) (text : List ℕ) → IsErr r → BreaksOff a b (decimal number ++ 32 ∷ [])
      → Puts a b r (numbered number text)
  number-broke a b number text is h = subst (Puts a b r) (number_is number text) (broke r a b (decimal number ++ 32 ∷ []) text is h)

  pub number-goes_on : (a b c : Option (List ℕ)) (number : ℕ) (text : List ℕ) → Appends a b (decimal number ++ 32 ∷ []) → Puts b c r text
      → Puts a c r (numbered number text)
  number-goes_on a b c number text h k = subst (Puts a c r) (number_is number text) (goes_on r a b c (decimal number ++ 32 ∷ []) text h k)

-- an answer that is no refusal is shown
shown_is : (answer : Answer) → ((refusal : Refusal) → answer ≡ Refused refusal → ⊥) → reported_text (report_of answer) ≡ shown_text (report_of answer)
shown_is (Refused refusal) h = absurd (h refusal refl)
shown_is _ h = refl

shown_line : (number : ℕ) (it : Report) → body_line number (Shown (line_count it)) ++ report_text it ≡ numbered number (shown_text it)
shown_line number it = simp append_assoc

-- by its line, and then its report
pub answer_is : (number : ℕ) (answer : Answer) → ((refusal : Refusal) → answer ≡ Refused refusal → ⊥)
    → body_line number (Shown (line_count (report_of answer))) ++ report_text (report_of answer) ≡ numbered number (reported_text (report_of answer))
answer_is number answer h = shown_line number (report_of answer) ∙ ap (numbered number) (sym (shown_is answer h))
