-- Any number of calls on an agency's tables, one after the other, with stops between and within them.
use Rattle.std.specs.Prelude.{◌≡◌, ◌⊎◌, Bool, true, false, IsTrue, List, [], ◌∷◌, Option, Some, None}
use Rattle.sqlite.specs.Store.{Ghosts}
use Rattle.sqlite.specs.Effect.{IsDatabase}
use Rattle.sqlite.specs.State.{HasCleanDisk}
use Rattle.sqlite.specs.Held.{Held, state}
use Rattle.dh_types.specs.declared.command.Command.TheVariants as command
use Rattle.dh_laws.specs.Events as event
use Rattle.dh_laws.specs.Events.{Event, Tables}
use Rattle.dh_laws.specs.InOrder.{IsEntered}
use Rattle.dh_laws.specs.Repeating.{is_of_nothing_new}
use Rattle.dh_tables.specs.Calls.{HasOurTables}
use Rattle.dh_schema.specs.Store.{tables}
use Rattle.dh_schema.specs.Tables.{IsSound, tables_in}
use Rattle.dh_runs.specs.Outcomes.{reply_of}
use Rattle.dh_lives.specs.Calls.{Call, Stepped, StepInterrupted, Resumed, ResumeInterrupted, Shown}
use Rattle.dh_lives.specs.Calls.{ShowInterrupted, Attached, AttachInterrupted, Recovered, RecoveryInterrupted, Tells}

-- A call, the connection as it ended, and the one that the next call finds. Where a stop came within it, it ended in the run whose disk
-- fails from the stop on.
pub record Moment (S : Type 0) : Type 0 where
  pub call : Call
  pub ended : Held S
  pub found : Held S

-- a command that was called is what a line can hold, as each one is by its type
abbrev pub IsOfALine : Call → Type 0
IsOfALine (Stepped told reply) = IsEntered told
IsOfALine (StepInterrupted told) = IsEntered told
IsOfALine _ = Unit {0}

-- the event that the call is, where it may have changed the tables or taken them
abbrev pub event_of : Call → Option Event
event_of (Stepped told reply) = Some (event.Answered told reply)
event_of (StepInterrupted told) = Some (event.Interrupted told)
event_of (Resumed most it) = Some (event.Answered (command.Post most) (reply_of it))
event_of (ResumeInterrupted most) = Some (event.Interrupted (command.Post most))
event_of Shown = None
event_of ShowInterrupted = None
event_of Attached = Some event.Attached
event_of AttachInterrupted = None
event_of Recovered = Some event.Recovered
event_of RecoveryInterrupted = Some event.RecoveryInterrupted

-- Nothing new came of the call: the command was refused, or carried out before; a question was asked, or files were taken as they are,
-- answered or interrupted.
abbrev pub brings_nothing_new : Call → Bool
brings_nothing_new (Stepped told reply) = is_of_nothing_new reply
brings_nothing_new (StepInterrupted told) = false
brings_nothing_new (Resumed most it) = is_of_nothing_new (reply_of it)
brings_nothing_new (ResumeInterrupted most) = false
brings_nothing_new Shown = true
brings_nothing_new ShowInterrupted = true
brings_nothing_new Attached = true
brings_nothing_new AttachInterrupted = true
brings_nothing_new Recovered = false
brings_nothing_new RecoveryInterrupted = false

abbrev pub with_event : Option Event → Tables → List (Event × Tables) → List (Event × Tables)
with_event None found events = events
with_event (Some event) found events = (event, found) ∷ events

module _ {S : Type 0} (g : Ghosts S) where
  -- The same connection goes on, while its store is open.
  abbrev pub GoesOn : Held S → Held S → Type 0
  GoesOn ended found = (found ≡ ended) × IsTrue (state g ended).is_open

  -- The files were opened anew: the connection reads one of the outcomes that a crash might have left.
  abbrev pub IsOpenedAnew : Held S → Held S → Type 0
  IsOpenedAnew ended found = HasCleanDisk (state g found) → (state g ended).may_leave (state g found).now.trees

  -- One call, from the connection that it is made on.
  pub record Happened (before : Held S) (it : Moment S) : Type 0 where
    pub tells : Tells it.call (state g before) (state g it.ended)
    pub line : IsOfALine it.call
    pub finds : GoesOn it.ended it.found ⊎ IsOpenedAnew it.ended it.found
    -- the trees list the schema that the connection has, as each connection keeps true of itself
    pub lists : IsDatabase (state g it.found).now
    -- the premise Clean store
    pub clean : HasCleanDisk (state g it.ended) × HasCleanDisk (state g it.found)

  -- the call is one of a history, after which this connection is found
  pub record IsFoundAfter (before : Held S) (call : Call) (found : Held S) : Type 0 where
    pub ended : Held S
    pub happened : Happened before (record { call = call; ended = ended; found = found })

  -- Each call is made on what was found after the one before.
  abbrev pub IsHistory : Held S → List (Moment S) → Type 0
  IsHistory before [] = Unit {0}
  IsHistory before (it ∷ later) = Happened before it × IsHistory it.found later

  -- the tables that the connection reads, with the open run that they show, and that they are sound
  abbrev pub tables_of : Held S → Tables
  tables_of it = tables_in (state g it).now.trees

  abbrev pub IsSoundIn : Held S → Type 0
  IsSoundIn it = IsSound (state g it).now.trees

  -- so is each that was found, and its tables and indexes are ours and no others
  abbrev pub AreFoundSound : List (Moment S) → Type 0
  AreFoundSound [] = Unit {0}
  AreFoundSound (it ∷ later) = IsSoundIn it.found × HasOurTables (state g it.found) × AreFoundSound later

  -- the events that the calls are, each with the tables that were found after it
  abbrev pub events_of : List (Moment S) → List (Event × Tables)
  events_of [] = []
  events_of (it ∷ later) = with_event (event_of it.call) (tables_of it.found) (events_of later)

  -- where nothing new comes of a call, the tables that are found after it are those before it, row for row
  abbrev pub StayWhereNothingIsNew : Held S → List (Moment S) → Type 0
  StayWhereNothingIsNew before [] = Unit {0}
  StayWhereNothingIsNew before (it ∷ later) =
      (brings_nothing_new it.call ≡ true → tables (state g it.found) ≡ tables (state g before)) × StayWhereNothingIsNew it.found later
