-- Nothing that can happen to the tables makes them tables of another version.
use Rattle.std.proofs.Common.{◌≡◌, ◌∙◌, refl, sym, ap, ℕ, Option, Some, None, inl, inr}
use Rattle.dh_types.specs.declared.command.Command.{Command}
use Rattle.dh_types.specs.declared.reply.Reply.{Reply}
use Rattle.dh_types.specs.declared.run.Run.{Run}
use Rattle.dh_model.specs.declared.open_run.OpenRun.{OpenRun}
use Rattle.dh_model.specs.declared.rows.Change.{Change}
use Rattle.dh_model.specs.declared.rows.Change.TheVariants as change
use Rattle.dh_model.specs.Books.{Books, State}
use Rattle.dh_model.specs.Machine.{step}
use Rattle.dh_model.specs.Whole.{completed, open_row, whole}
use Rattle.dh_laws.specs.Events.{Interrupted, Recovered, Answered, Tables, Attached, RecoveryInterrupted, state_of}
use Rattle.dh_laws.specs.Keeping.{TheVersionStays}
use Rattle.dh_laws.proofs.VerdictLemmas.Acceptance.{Accepted, turned}
use Rattle.dh_laws.proofs.CommandLemmas.Steps.{step_holds}

turned_keeps : (books : Books) (run : Option OpenRun) (rows : Change) (a : Accepted books run rows) → (turned books run rows a).version ≡ books.version
turned_keeps books run (change.Branch it) a = refl
turned_keeps books run rows a = refl

module _ (size : ℕ) where
  step_keeps : (s : State) (told : Command) → (step size s told).0.books.version ≡ s.books.version
  step_keeps s told =
      step_holds size s (λ v books. books.version ≡ s.books.version) (λ kept. refl) (λ why. refl) refl (λ order next. refl)
      (λ rows a plain. turned_keeps s.books s.open_run rows a) told

  completed_keeps : (books : Books) (run : Option Run) → (completed size books run).version ≡ books.version
  completed_keeps books None = refl
  completed_keeps books (Some run) = refl

  pub whole_keeps : (books : Books) → (whole size books).version ≡ books.version
  whole_keeps books = completed_keeps books (open_row books)

  -- whole books of one version, of that version before
  by_whole : (before after : Books) → whole size after ≡ whole size before → after.version ≡ before.version
  by_whole before after same = sym (whole_keeps after) ∙ ap (λ (books : Books). books.version) same ∙ whole_keeps before

  by_step : (before : Tables) (after : Books) (told : Command) → whole size after ≡ (step size (state_of size before) told).0.books
      → after.version ≡ before.books.version
  by_step before after told is =
      sym (whole_keeps after) ∙ ap (λ (books : Books). books.version) is ∙ step_keeps (state_of size before) told ∙ whole_keeps before.books

  pub the_version_stays : TheVersionStays size
  the_version_stays (Answered told reply) before after is = by_step before after.books told (sym (ap (λ (made : State × Reply). made.0.books) is))
  the_version_stays (Interrupted told) before after (inl undone) = by_whole before.books after.books undone.books
  the_version_stays (Interrupted told) before after (inr done) = by_step before after.books told done.books
  the_version_stays Attached before after is = ap (λ (t : Tables). t.books.version) is
  the_version_stays RecoveryInterrupted before after interrupted = by_whole before.books after.books interrupted.books
  the_version_stays Recovered before after is = ap (λ (t : Tables). t.books.version) is ∙ whole_keeps before.books
