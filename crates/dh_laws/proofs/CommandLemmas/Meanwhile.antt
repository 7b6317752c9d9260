-- Commands that are told while a run is open, other than batches of it.
use Rattle.std.proofs.Common.{◌≡◌, ◌∙◌, refl, sym, ap, subst, ℕ, ◌≤◌, inl, inr, true, false, not, ◌&&◌, Option, Some, None}
use Rattle.std.proofs.lemmas.Bool.{cases_Bool}
use Rattle.std.specs.Option.{IsSome}
use Rattle.dh_types.specs.declared.command.Command.{Command}
use Rattle.dh_types.specs.declared.command.Command.TheVariants as command
use Rattle.dh_types.specs.declared.reply.Reply.{Reply}
use Rattle.dh_model.specs.declared.open_run.OpenRun.{OpenRun}
use Rattle.dh_model.specs.declared.rows.Change.{Change}
use Rattle.dh_model.specs.declared.rows.Verdict.TheVariants as verdict
use Rattle.dh_model.specs.Books.{Books, State}
use Rattle.dh_model.specs.Machine.{accepted, carried_out, changed, settled}
use Rattle.dh_model.specs.MachineLaws.{is_frozen, is_post}
use Rattle.dh_model.specs.Verdicts.{verdict_on}
use Rattle.dh_model.specs.Whole.{whole}
use Rattle.dh_model.proofs.MachineLemmas.{frozen_verdict}
use Rattle.dh_laws.specs.InOrder.{IsEntered, IsInOrder}
use Rattle.dh_laws.specs.Passing.{is_free}
use Rattle.dh_laws.proofs.InvariantLemmas.Order.{changes_keep_order}
use Rattle.dh_laws.proofs.CommutationLemmas.Changes.{free_changes_pass_the_run}
use Rattle.dh_laws.proofs.CommutationLemmas.Verdicts.{free_are_judged_alike}
use Rattle.dh_laws.proofs.VerdictLemmas.Cases.{is_of_run, plain_rows, run_stays}
use Rattle.dh_laws.specs.Batches.{is_plain}
use Rattle.dh_model.specs.declared.rows.Change.TheVariants as change
use Rattle.dh_laws.specs.Events.{state_of}
use Rattle.dh_laws.specs.StateTables.{as_tables}
use Rattle.dh_laws.specs.Telling.{IsTold}

module _ (size : ℕ) where
  pub plain_carried : (s : State) (told : Command) (rows : Change) → is_plain rows ≡ true
      → carried_out size s told rows ≡ (record s { books = changed rows s.books }, accepted rows)
  plain_carried s (command.Run order) (change.Open row) plain = cc
  plain_carried s (command.Open order) (change.Open row) plain = cc
  plain_carried s (command.Post count) change.Post plain = cc
  plain_carried s _ rows plain = refl

module _ (size : ℕ) (books : Books) (run : OpenRun) (pos : 1 ≤ size) (in_order : IsInOrder size books (Some run)) where
  abbrev at : State
  at = record { books = books; open_run = Some run }

  alike : (told : Command) → is_free told ≡ true → verdict_on books (Some run) told ≡ verdict_on (whole size books) None told
  alike told free = free_are_judged_alike size books run told pos in_order free

  -- each command is judged as over the whole books
  pub judged_whole : (told : Command) → verdict_on (whole size books) (Some run) told ≡ verdict_on books (Some run) told
  judged_whole (command.Post count) = refl
  judged_whole told = elim (cases_Bool (is_frozen told)) [
    | inl frozen ↦ frozen_verdict (whole size books) run told frozen ∙ sym (frozen_verdict books run told frozen)
    | inr free ↦ let same = alike told (ap (λ b. not b && true) free) in cc
  ]

  module _ (rows : Change) where
    -- what is frozen is not accepted
    accepted_free : (told : Command) → is_post told ≡ false → verdict_on books (Some run) told ≡ verdict.Change rows → is_free told ≡ true
    accepted_free (command.Post count) other h = cc
    accepted_free _ other h = cc

    -- and is of no run
    not_of_run : (told : Command) → is_free told ≡ true → is_of_run told ≡ false
    not_of_run (command.Post count) free = cc
    not_of_run _ free = cc

    -- rows that are put while the run is open
    pub change_told : (told : Command) → is_post told ≡ false → IsEntered told → verdict_on books (Some run) told ≡ verdict.Change rows
        → IsTold size told (accepted rows) at (record { books = changed rows books; open_run = Some run })
    change_told told other entered h =
        let free = accepted_free told other h in
        let plain = plain_rows books (Some run) told rows (not_of_run told free) h in
        let s = state_of size (as_tables at) in (
          ap (settled size s told) (judged_whole told ∙ h) ∙ plain_carried size s told rows plain
              ∙ ap (λ (b : Books). (record { books = b; open_run = Some run }, accepted rows))
              (sym (free_changes_pass_the_run size books run told rows pos in_order free h)),
          subst (λ after. IsInOrder size (changed rows books) after) (run_stays (Some run) rows plain)
              (changes_keep_order size books (Some run) told rows pos in_order entered h),
        )

no_run : IsSome {T = OpenRun} None → ⊥
no_run some = cc

module _ (size : ℕ) (books : Books) (told : Command) (rows : Change) (pos : 1 ≤ size) (other : is_post told ≡ false) (entered : IsEntered told) where
  open_told : (run : Option OpenRun) → IsSome run → IsInOrder size books run → verdict_on books run told ≡ verdict.Change rows
      → IsTold size told (accepted rows) (record { books = books; open_run = run }) (record { books = changed rows books; open_run = run })
  open_told None some in_order h = absurd (no_run some)
  open_told (Some run) some in_order h = change_told size books run pos in_order rows told other entered h

pub rows_told : (size : ℕ) (before after : State) (told : Command) (rows : Change) (reply : Reply) → 1 ≤ size → IsSome before.open_run → is_post told ≡ false
    → IsInOrder size before.books before.open_run → IsEntered told → verdict_on before.books before.open_run told ≡ verdict.Change rows
    → after ≡ record before { books = changed rows before.books } → reply ≡ accepted rows → IsTold size told reply before after
rows_told size before after told rows reply pos some other in_order entered h is answered =
    subst (λ (s : State). IsTold size told reply before s) (sym is)
    (subst (λ r. IsTold size told r before (record before { books = changed rows before.books })) (sym answered)
    (open_told size before.books told rows pos other entered before.open_run some in_order h))
