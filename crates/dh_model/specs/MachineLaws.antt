-- What the definition of the machine says of whole commands.
use Rattle.std.specs.Prelude.{◌≡◌, ◌≤◌, ℕ, ◌+◌, Bool, true, false, Some, None}
use Rattle.dh_types.specs.declared.command.Command.{Command}
use Rattle.dh_types.specs.declared.command.Command.TheVariants as command
use Rattle.dh_types.specs.declared.command.RunOrder.{RunOrder}
use Rattle.dh_types.specs.declared.question.Question.{Question}
use Rattle.dh_types.specs.declared.reply.Reply.TheVariants as reply
use Rattle.dh_types.specs.declared.reply.Refusal.{Refusal}
use Rattle.dh_types.specs.declared.reply.Refusal.TheVariants as refusal
use Rattle.dh_types.specs.Reports.{NoReport}
use Rattle.dh_model.specs.declared.open_run.OpenRun.{OpenRun}
use Rattle.dh_model.specs.declared.rows.Change.TheVariants as change
use Rattle.dh_model.specs.declared.rows.Verdict.TheVariants as verdict
use Rattle.dh_model.specs.Books.{Books, State}
use Rattle.dh_model.specs.Runs.{batches}
use Rattle.dh_model.specs.Verdicts.{OnRun, Frozen, on_run, opened_run, verdict_on}
use Rattle.dh_model.specs.Machine.{step}
use Rattle.dh_model.specs.Answers.{is_put_off, report}

-- what an open run puts off
abbrev pub is_frozen_on : OnRun → Bool
is_frozen_on Frozen = true
is_frozen_on _ = false

abbrev pub is_frozen : Command → Bool
is_frozen told = is_frozen_on (on_run told)

abbrev pub is_post : Command → Bool
is_post (command.Post count) = true
is_post _ = false

module _ (size : ℕ) where
  -- while a run is open, what is frozen is refused and changes nothing
  abbrev pub FrozenAreRefused : Type 0
  FrozenAreRefused = (books : Books) (run : OpenRun) (told : Command) → is_frozen told ≡ true
      → step size (record { books = books; open_run = Some run }) told ≡ (
        record { books = books; open_run = Some run },
        reply.Refused (refusal.RunOpen run.month),
      )

  -- a refusal changes nothing
  abbrev pub RefusalsChangeNothing : Type 0
  RefusalsChangeNothing = (s : State) (told : Command) (why : Refusal) → (step size s told).1 ≡ reply.Refused why → (step size s told).0 ≡ s

  -- what isn't frozen leaves the open run where it is, unless it posts batches
  abbrev pub FreeKeepTheRun : Type 0
  FreeKeepTheRun = (s : State) (told : Command) → is_frozen told ≡ false → is_post told ≡ false → (step size s told).0.open_run ≡ s.open_run

  -- a run in one step is its opening and then all its batches
  abbrev pub RunIsOpeningAndBatches : Type 0
  RunIsOpeningAndBatches = (books : Books) (order : RunOrder) (count : ℕ)
      → verdict_on books None (command.Run order) ≡ verdict.Change (change.Open (opened_run books order))
      → let opened = (step size (record { books = books; open_run = None }) (command.Open order)).0 in
      batches size opened.books order.month ≤ count
      → step size (record { books = books; open_run = None }) (command.Run order) ≡ step size opened (command.Post count)

  -- batches that are posted in two parts are posted in one
  abbrev pub PostsAddUp : Type 0
  PostsAddUp = (books : Books) (run : OpenRun) (i j : ℕ) → run.done + i + 1 ≤ batches size books run.month
      → step size (step size (record { books = books; open_run = Some run }) (command.Post i)).0 (command.Post j)
      ≡ step size (record { books = books; open_run = Some run }) (command.Post (i + j))

-- while a run is open, the questions that would show it half made are refused
abbrev pub HalfRunsAreNotShown : Type 0
HalfRunsAreNotShown = (books : Books) (run : OpenRun) (question : Question) → is_put_off question ≡ true
    → report (record { books = books; open_run = Some run }) question ≡ NoReport (refusal.RunOpen run.month)
