-- What a list of happenings makes of tables.
use Rattle.std.specs.Prelude.{◌≡◌, ℕ, List, [], ◌∷◌, Option, Some, None}
use Rattle.dh_types.specs.declared.command.Command.{Command}
use Rattle.dh_types.specs.declared.reply.Reply.{Reply}
use Rattle.dh_model.specs.Books.{State}
use Rattle.dh_model.specs.Runs.{batch_size}
use Rattle.dh_model.specs.Whole.{whole}
use Rattle.dh_laws.specs.Events.{Event, Answered, Interrupted, Attached, RecoveryInterrupted, Recovered, Follow}
use Rattle.dh_laws.specs.Events.{Happens, IsDone, IsMidRecovery, IsUndone, Tables, state_of}
use Rattle.dh_laws.specs.Kept.{Kept}
use Rattle.dh_laws.specs.StateTables.{as_tables}
use Rattle.dh_laws.specs.Telling.{Stands}
use Rattle.dh_rules.specs.declared.events.Happening.{Happening}
use Rattle.dh_rules.specs.declared.events.Happening.TheVariants as happening
use Rattle.dh_rules.specs.declared.recoveries.Reach.{Reach}
use Rattle.dh_rules.specs.Reaches.{moved_run, undone_run}

-- the command was interrupted and changed no books, and the open run is moved on as far as named
pub record IsUndoneTo (told : Command) (reach : Reach) (before after : State) : Type 0 where
  pub undone : IsUndone batch_size told (as_tables before) (as_tables after)
  pub run : after.open_run ≡ undone_run (whole batch_size before.books) told reach before.open_run

-- the command was interrupted and carried out, and an accepted run stands where it is named
pub record IsDoneTo (told : Command) (standing : Option ℕ) (before after : State) : Type 0 where
  pub done : IsDone batch_size told (as_tables before) (as_tables after)
  pub stands : Stands before standing told after

-- the recovery was interrupted when it had come as far as named
pub record IsInterruptedAt (reach : Reach) (before after : State) : Type 0 where
  pub interrupted : IsMidRecovery batch_size (as_tables before) (as_tables after)
  pub run : after.open_run ≡ moved_run (whole batch_size before.books) reach before.open_run

-- what one happening makes of the tables, with the reply where it was answered
abbrev pub IsStep : Happening → Option Reply → State → State → Type 0
IsStep (happening.Answered told) (Some reply) before after = Happens batch_size (Answered told reply) (as_tables before) (as_tables after)
IsStep (happening.Answered told) None before after = ⊥
IsStep (happening.Undone told reach) None before after = IsUndoneTo told reach before after
IsStep (happening.Done told standing) None before after = IsDoneTo told standing before after
IsStep happening.Attached None before after = Happens batch_size Attached (as_tables before) (as_tables after)
IsStep (happening.RecoveryInterrupted reach) None before after = IsInterruptedAt reach before after
IsStep happening.Recovered None before after = Happens batch_size Recovered (as_tables before) (as_tables after)
IsStep _ (Some reply) before after = ⊥

-- tables as books in memory
abbrev pub shown : Tables → State
shown t = record { books = t.books; open_run = t.run }

-- the event that the happening is, and what it makes of the tables
abbrev pub IsEventOf : Happening → Event → Tables → Tables → Type 0
IsEventOf (happening.Answered told) (Answered it reply) before after = (it ≡ told) × IsStep (happening.Answered told) (Some reply) (shown before) (shown after)
IsEventOf (happening.Undone told reach) (Interrupted it) before after = (it ≡ told) × IsStep (happening.Undone told reach) None (shown before) (shown after)
IsEventOf (happening.Done told standing) (Interrupted it) before after = (it ≡ told) × IsStep (happening.Done told standing) None (shown before) (shown after)
IsEventOf happening.Attached Attached before after = IsStep happening.Attached None (shown before) (shown after)
IsEventOf (happening.RecoveryInterrupted reach) RecoveryInterrupted before after = IsStep (happening.RecoveryInterrupted reach)
    None (shown before) (shown after)
IsEventOf happening.Recovered Recovered before after = IsStep happening.Recovered None (shown before) (shown after)
IsEventOf _ _ before after = ⊥

-- one after the other, each from the tables that the one before left
abbrev pub AreEventsOf : List Happening → Tables → List (Event × Tables) → Type 0
AreEventsOf [] before [] = Unit {0}
AreEventsOf (one ∷ happenings) before (event ∷ events) = IsEventOf one event.0 before event.1 × AreEventsOf happenings event.1 events
AreEventsOf _ before _ = ⊥

-- the commands that count: those that were answered, and the interrupted ones that were carried out
abbrev pub counted : List Happening → List Command
counted [] = []
counted (happening.Answered told ∷ happenings) = told ∷ counted happenings
counted (happening.Done told standing ∷ happenings) = told ∷ counted happenings
counted (_ ∷ happenings) = counted happenings

abbrev pub replies_of : List (Event × Tables) → List Reply
replies_of [] = []
replies_of ((Answered it reply, after) ∷ events) = reply ∷ replies_of events
replies_of (_ ∷ events) = replies_of events

-- the tables that the last event left
abbrev pub last_of : Tables → List (Event × Tables) → Tables
last_of before [] = before
last_of before (event ∷ events) = last_of event.1 events

-- Events that are these happenings lead from the one to the other, the open run being moved as they name it; the commands that
-- count are those that stand behind the tables.
pub record IsPlayed (happenings : List Happening) (replies : List Reply) (before after : State) : Type 0 where
  pub events : List (Event × Tables)
  pub follow : Follow batch_size (as_tables before) events
  pub are : AreEventsOf happenings (as_tables before) events
  pub answers : replies_of events ≡ replies
  pub ends : last_of (as_tables before) events ≡ as_tables after
  pub kept : Kept batch_size (state_of batch_size (as_tables before)) events (counted happenings) (state_of batch_size (as_tables after))
