-- Which tables are migrated, why others are not, and what is left of a store whose tables were to be.
use Rattle.std.specs.Prelude.{◌≡◌, ◌≤◌, ◌⊎◌, ⊤, ℕ, Option, Some, None}
use Rattle.sqlite.specs.State.{HasCleanDisk, State}
use Rattle.sqlite_trees.specs.Tree.{Trees}
use Rattle.sqlite_trees.specs.View.{doubt}
use Rattle.dh_types.specs.declared.reply.Refusal.{Refusal}
use Rattle.dh_types.specs.declared.reply.Refusal.TheVariants as refusal
use Rattle.dh_types.specs.declared.version.Version.TheVariants.{First}
use Rattle.dh_model.specs.declared.open_run.OpenRun.{OpenRun}
use Rattle.dh_schema.specs.Faults.{IsFirstFault}
use Rattle.dh_schema.specs.Store.{Leaves, tables}
use Rattle.dh_schema.specs.Tables.{IsSound, state_in}
use Rattle.dh_runs.specs.declared.problem.Problem.{Problem}
use Rattle.dh_runs.specs.declared.problem.Problem.TheVariants as problem
use Rattle.dh_runs.specs.Taking.{IsFirstProblem, IsRefusedFor, IsResting, LeavesAsTheyWere}
use Rattle.dh_runs.specs.Migrated.{migrated_state}

-- Sound tables of the first version, without an open run.
pub record CanBeMigrated (trees : Trees) : Type 0 where
  pub sound : IsSound trees
  pub first : (state_in trees).books.version ≡ First
  pub closed : (state_in trees).open_run ≡ None

-- the run is of this month
abbrev pub IsOf : ℕ → Option OpenRun → Type 0
IsOf month None = ⊥
IsOf month (Some run) = run.month ≡ month

-- Sound tables of the first version that show a run of this month as open.
pub record ShowsOpen (month : ℕ) (trees : Trees) : Type 0 where
  pub sound : IsSound trees
  pub first : (state_in trees).books.version ≡ First
  pub run : IsOf month (state_in trees).open_run

-- so tables are refused: as where those of the first version are wanted, and then for the month of an open run
abbrev pub IsNotMigratedFor : Trees → Refusal → Type 0
IsNotMigratedFor trees (refusal.RunOpen month) = ShowsOpen month trees
IsNotMigratedFor trees why = IsRefusedFor First trees why

-- a refusal that holds of the tables, or a fault of which they say nothing
abbrev pub IsNotMigrated : Trees → Problem → Type 0
IsNotMigrated trees (problem.Refused why) = IsNotMigratedFor trees why
IsNotMigrated trees (problem.Fault fault) = IsFirstFault fault

-- it is refusal 16, 17 or 10, or fault 21 or 22
abbrev pub IsMigrationProblem : Problem → Type 0
IsMigrationProblem (problem.Refused (refusal.RunOpen month)) = ⊤
IsMigrationProblem it = IsFirstProblem it

-- A crash as the call returns leaves the tables before or the migrated ones; tables that can't be migrated are as they were.
pub record MovesOn (old new : State) : Type 0 where
  pub was_clean : doubt old.is_clean ≤ doubt new.is_clean
  pub crash : HasCleanDisk new → CanBeMigrated old.now.trees → Leaves new (λ t. (t ≡ tables old) ⊎ (t ≡ migrated_state (tables old)))
  pub untouched : HasCleanDisk new → ¬ CanBeMigrated old.now.trees → LeavesAsTheyWere old new

-- No transaction is open, and the tables are as they were, sound where they were sound.
pub record StaysAsItWas (old new : State) : Type 0 where
  pub resting : IsResting new
  pub same : tables new ≡ tables old
  pub sound : IsSound old.now.trees → IsSound new.now.trees
