-- The way from a file of the first version to one of the second, with stops between and within the attempts.
use Rattle.std.specs.Prelude.{◌≡◌, ◌≢◌, ◌⊎◌, IsTrue, List, [], ◌∷◌, ◌++◌, map, None, ⊤}
use Rattle.sqlite.specs.Store.{Ghosts}
use Rattle.sqlite.specs.State.{HasCleanDisk, State}
use Rattle.sqlite.specs.Held.{Held, state}
use Rattle.dh_types.specs.declared.command.Command.{Command}
use Rattle.dh_types.specs.declared.version.Version.TheVariants.{First, Second}
use Rattle.dh_model.specs.Books as machine
use Rattle.dh_model.specs.Runs.{batch_size}
use Rattle.dh_laws.specs.Events.{state_of}
use Rattle.dh_schema.specs.Store.{AreTables, tables}
use Rattle.dh_schema.specs.Tables.{IsSound}
use Rattle.dh_runs.specs.declared.problem.Problem.{Problem}
use Rattle.dh_runs.specs.declared.problem.Problem.TheVariants as problem
use Rattle.dh_runs.specs.Taking.{HasVersion, LeavesAsTheyWere}
use Rattle.dh_runs.specs.Migrated.{migrated_state}
use Rattle.dh_runs.specs.Moved.{CanBeMigrated, MovesOn}
use Rattle.dh_lives.specs.Calls.{Answers, Recovered}
use Rattle.dh_lives.specs.Histories.{GoesOn, Happened, IsOpenedAnew, IsSoundIn, Moment, tables_of}
use Rattle.dh_lives.specs.HistoryLaws.{EndsRecovered, IsTheMachines, StandBehind}

-- What a migration leaves, answered or interrupted: what a crash now leaves, and what is read while the store is open.
pub record Migrates (old new : State) : Type 0 where
  pub moves : MovesOn old new
  pub reads : HasCleanDisk new → IsTrue new.is_open → IsSound old.now.trees → IsSound new.now.trees
      × ((tables new ≡ tables old) ⊎ (CanBeMigrated old.now.trees × (tables new ≡ migrated_state (tables old))))

-- An attempt was answered and the tables are migrated, or it was refused, or a stop or a fault came within it.
pub data Outcome : Type 0 where
  Migrated : Outcome
  Refused : Outcome
  Broken : Outcome

-- sound tables of the first version without an open run became the migrated ones
pub record IsMigration (before after : machine.State) : Type 0 where
  pub first : before.books.version ≡ First
  pub closed : before.open_run ≡ None
  pub moved : after ≡ migrated_state before

-- the problem is a refusal, and no fault
abbrev pub IsRefusal : Problem → Type 0
IsRefusal (problem.Refused why) = ⊤
IsRefusal (problem.Fault fault) = ⊥

-- Tables were refused: what is read, while the store is open, and what a crash leaves are they.
pub record Declines (old new : State) : Type 0 where
  pub reads : HasCleanDisk new → IsTrue new.is_open → (IsSound old.now.trees → IsSound new.now.trees) × (tables new ≡ tables old)
  pub crash : HasCleanDisk new → LeavesAsTheyWere old new

-- what each outcome says more
abbrev pub EndsWith : Outcome → State → State → Type 0
EndsWith Migrated old new = Answers old new IsMigration
EndsWith Refused old new = Declines old new
EndsWith Broken old new = Unit {0}

-- An attempt to migrate: how it came out, the connection as it ended, and the one that is found then. Where a stop came within it, it
-- ended in the run whose disk fails from the stop on.
pub record Attempt (S : Type 0) : Type 0 where
  pub outcome : Outcome
  pub ended : Held S
  pub found : Held S

-- A call of a history, or an attempt to migrate.
pub data Step (S : Type 0) : Type 0 where
  Called : Moment S → Step S
  Tried : Attempt S → Step S

-- the connection that is found after it
abbrev pub found_by : {S : Type 0} → Step S → Held S
found_by (Called it) = it.found
found_by (Tried it) = it.found

-- and after all of these
abbrev pub found_behind : {S : Type 0} → Held S → List (Step S) → Held S
found_behind before [] = before
found_behind before (step ∷ later) = found_behind (found_by step) later

-- the calls among them
abbrev pub calls_of : {S : Type 0} → List (Step S) → List (Moment S)
calls_of [] = []
calls_of (Called it ∷ later) = it ∷ calls_of later
calls_of (Tried it ∷ later) = calls_of later

-- no attempt was answered
abbrev pub NoneMigrates : {S : Type 0} → List (Step S) → Type 0
NoneMigrates [] = Unit {0}
NoneMigrates (Called it ∷ later) = NoneMigrates later
NoneMigrates (Tried it ∷ later) = (it.outcome ≢ Migrated) × NoneMigrates later

module _ {S : Type 0} (g : Ghosts S) where
  -- One attempt, from the connection that it is made on.
  pub record Attempted (before : Held S) (it : Attempt S) : Type 0 where
    pub migrates : Migrates (state g before) (state g it.ended)
    pub ends : EndsWith it.outcome (state g before) (state g it.ended)
    pub finds : GoesOn g it.ended it.found ⊎ IsOpenedAnew g it.ended it.found
    -- the premise Clean store
    pub clean : HasCleanDisk (state g it.ended) × HasCleanDisk (state g it.found)

  -- Attempts one after the other, and the connection that is found after the last.
  abbrev pub AreAttempts : Held S → List (Attempt S) → Held S → Type 0
  AreAttempts before [] after = after ≡ before
  AreAttempts before (it ∷ later) after = Attempted before it × AreAttempts it.found later after

  -- However often a migration was begun and cut, the tables are sound, and are those before or the migrated ones: nothing is lost, and
  -- nothing is done twice.
  abbrev pub MigrationsMoveOnce : Type 0
  MigrationsMoveOnce = (before after : Held S) (attempts : List (Attempt S)) → CanBeMigrated (state g before).now.trees
      → AreAttempts before attempts after
      → AreTables (λ t. (t ≡ tables (state g before)) ⊎ (t ≡ migrated_state (tables (state g before)))) (state g after).now.trees

  -- Calls on a file of the first version that end with a recovery, then attempts to migrate until the file is of the second, then calls
  -- that end with a recovery: the tables are the machine's, that was told the commands of the first calls, was migrated, and was told
  -- those of the later ones.
  abbrev pub LivesGoOnOverMigrations : Type 0
  LivesGoOnOverMigrations = (first moved : Held S) (earlier later : List (Moment S)) (last final : Moment S) (attempts : List (Attempt S))
      → HasVersion First (state g first) → EndsRecovered g first earlier last
      → AreAttempts last.found attempts moved → HasVersion Second (state g moved) → EndsRecovered g moved later final
      → (told again : List Command) × (middle end : machine.State)
      × StandBehind g (state_of batch_size (tables_of g first)) told middle (earlier ++ last ∷ [])
      × StandBehind g (migrated_state middle) again end (later ++ final ∷ [])
      × IsTheMachines g final.found end

  -- Calls and attempts in any order, each on what was found after the one before.
  abbrev pub AreSteps : Held S → List (Step S) → Type 0
  AreSteps before [] = Unit {0}
  AreSteps before (Called it ∷ later) = Happened g before it × AreSteps it.found later
  AreSteps before (Tried it ∷ later) = Attempted before it × AreSteps it.found later

  -- No attempt has moved the tables. The commands are those of the calls, as they are of a history.
  pub record StandsUnmoved (from : machine.State) (steps : List (Step S)) (told : List Command) (end : machine.State) : Type 0 where
    pub none : NoneMigrates steps
    pub kept : StandBehind g from told end (calls_of steps)

  -- One attempt has, and no other: the machine was told commands of the calls before it, stood there at books of the first version without an
  -- open run, was migrated, and was told commands of the calls behind it. The attempt was not refused.
  pub record StandsMoved (from : machine.State) (steps : List (Step S)) (told : List Command) (end : machine.State) : Type 0 where
    pub earlier : List (Step S)
    pub it : Attempt S
    pub later : List (Step S)
    pub is : steps ≡ earlier ++ Tried it ∷ later
    pub accepted : it.outcome ≢ Refused
    pub none_earlier : NoneMigrates earlier
    pub none_later : NoneMigrates later
    pub middle : machine.State
    pub first_told : List Command
    pub then_told : List Command
    pub all_told : told ≡ first_told ++ then_told
    pub kept : StandBehind g from first_told middle (calls_of earlier)
    pub migrates : IsMigration middle (migrated_state middle)
    pub kept_later : StandBehind g (migrated_state middle) then_told end (calls_of later)

  abbrev pub StandsThrough : machine.State → List (Step S) → List Command → machine.State → Type 0
  StandsThrough from steps told end = StandsUnmoved from steps told end ⊎ StandsMoved from steps told end

  -- where the machine stands with the tables that are found
  abbrev pub stand_at : Held S → machine.State
  stand_at it = state_of batch_size (tables_of g it)

  -- From sound tables, whichever calls were made and migrations tried, answered or interrupted: the tables that are found are sound, and
  -- the machine stands at them, that was told such commands and was migrated once at most.
  abbrev pub StepsStandOverMigrations : Type 0
  StepsStandOverMigrations = (first : Held S) (steps : List (Step S)) → IsSoundIn g first → AreSteps first steps
      → (told : List Command) × StandsThrough (stand_at first) steps told (stand_at (found_behind first steps))
      × IsSoundIn g (found_behind first steps)

  -- so, where the last call is a recovery that was answered, the tables are the machine's, row for row
  abbrev pub MachinesOverMigrations : Type 0
  MachinesOverMigrations = (first : Held S) (steps : List (Step S)) (last : Moment S) → IsSoundIn g first → AreSteps first (steps ++ Called last ∷ [])
      → last.call ≡ Recovered
      → (told : List Command) × (end : machine.State) × StandsThrough (stand_at first) (steps ++ Called last ∷ []) told end × IsTheMachines g last.found end

  -- An attempt that was answered: the machine stood at books of the first version without an open run, which are the tables migrated.
  abbrev pub MigratesFrom : Held S → List (Moment S) → Attempt S → Type 0
  MigratesFrom first calls it = (told : List Command) × (middle : machine.State) × StandBehind g (stand_at first) told middle calls
      × IsMigration middle (tables (state g it.found))

  -- whatever was called and tried before it
  abbrev pub AnsweredAttemptsMigrate : Type 0
  AnsweredAttemptsMigrate = (first : Held S) (steps : List (Step S)) (it : Attempt S) → IsSoundIn g first → AreSteps first (steps ++ Tried it ∷ [])
      → it.outcome ≡ Migrated → MigratesFrom first (calls_of steps) it

  -- a day's calls, and a migration at once
  abbrev pub DaysAreMigrated : Type 0
  DaysAreMigrated = (first : Held S) (day : List (Moment S)) (it : Attempt S) → IsSoundIn g first → AreSteps first (map Called day ++ Tried it ∷ [])
      → it.outcome ≡ Migrated → MigratesFrom first day it

  -- one that is refused, a recovery, and another
  abbrev pub RecoveredFilesAreMigrated : Type 0
  RecoveredFilesAreMigrated = (first : Held S) (day : List (Moment S)) (refused it : Attempt S) (recovery : Moment S) → IsSoundIn g first
      → AreSteps first ((map Called day ++ Tried refused ∷ Called recovery ∷ []) ++ Tried it ∷ []) → refused.outcome ≡ Refused
      → recovery.call ≡ Recovered → it.outcome ≡ Migrated → MigratesFrom first (day ++ recovery ∷ []) it

  -- one that is interrupted, another day's calls on the file, and another
  abbrev pub FilesAreMigratedLater : Type 0
  FilesAreMigratedLater = (first : Held S) (day next : List (Moment S)) (cut it : Attempt S) → IsSoundIn g first
      → AreSteps first ((map Called day ++ Tried cut ∷ map Called next) ++ Tried it ∷ []) → cut.outcome ≡ Broken → it.outcome ≡ Migrated
      → MigratesFrom first (day ++ next) it
