-- Which of the commands that were called count in the end.
use Rattle.std.specs.Prelude.{◌≡◌, ℕ, List, [], ◌∷◌, None}
use Rattle.dh_types.specs.declared.command.Command.{Command}
use Rattle.dh_types.specs.declared.reply.Reply.{Reply}
use Rattle.dh_model.specs.Books.{State}
use Rattle.dh_model.specs.Machine.{step}
use Rattle.dh_model.specs.Verdicts.{verdict_on}
use Rattle.dh_laws.specs.Events.{Event, Answered, Interrupted, Attached, RecoveryInterrupted, Recovered, IsMovedOn, RunIfDone, RunIfUndone, Tables}

module _ (size : ℕ) where
  -- These commands are kept of the events, and lead the machine from the one state to the other. They are the commands of the events in
  -- their order: each that was answered, some of those that were interrupted, and no other. Where a command or a recovery was interrupted, the open run
  -- is then the one that the event left, and is one that such a cut can leave.
  pub data Kept : State → List (Event × Tables) → List Command → State → Type 0 where
    -- no event is left, and no command
    NoneLeft : {s : State} → Kept s [] [] s
    -- the command was answered: it counts, and the machine gives it this reply
    AnswerCounts : {s next last : State} {it : Command} {reply : Reply} {after : Tables} {events : List (Event × Tables)} {told : List Command}
        → step size s it ≡ (next, reply) → Kept next events told last → Kept s ((Answered it reply, after) ∷ events) (it ∷ told) last
    -- the command was interrupted and not carried out: it doesn't count
    UndoneIsLeftOut : {s last : State} {it : Command} {after : Tables} {events : List (Event × Tables)} {told : List Command}
        → RunIfUndone size s.books it s.open_run after.run → Kept (record s { open_run = after.run }) events told last
        → Kept s ((Interrupted it, after) ∷ events) told last
    -- the command was interrupted and carried out: it counts
    DoneCounts : {s last : State} {it : Command} {after : Tables} {events : List (Event × Tables)} {told : List Command}
        → RunIfDone size s it (verdict_on s.books s.open_run it) after.run
        → Kept (record (step size s it).0 { open_run = after.run }) events told last → Kept s ((Interrupted it, after) ∷ events) (it ∷ told) last
    -- files were taken: the machine stands where it did
    AttachingIsPassed : {s last : State} {after : Tables} {events : List (Event × Tables)} {told : List Command}
        → Kept s events told last → Kept s ((Attached, after) ∷ events) told last
    -- a recovery was interrupted: the open run is where it was, or further
    RecoveryMovesOn : {s last : State} {after : Tables} {events : List (Event × Tables)} {told : List Command}
        → IsMovedOn size s.books s.open_run after.run → Kept (record s { open_run = after.run }) events told last
        → Kept s ((RecoveryInterrupted, after) ∷ events) told last
    -- a recovery was finished: no run is open
    RecoveryEnds : {s last : State} {after : Tables} {events : List (Event × Tables)} {told : List Command}
        → Kept (record s { open_run = None }) events told last → Kept s ((Recovered, after) ∷ events) told last
