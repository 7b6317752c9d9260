-- Tables that are migrated, as those that an office works on.
use Rattle.std.proofs.Common.{subst, Option, None, Result, Ok, Err, ◌≡◌}
use Rattle.std.specs.FinMap.{values}
use Rattle.sqlite.specs.Held.{Held}
use Rattle.sqlite.specs.State.{State}
use Rattle.sqlite.specs.Store.{Ghosts}
use Rattle.dh_types.specs.declared.version.Version.TheVariants.{First}
use Rattle.dh_model.specs.declared.open_run.OpenRun.{OpenRun}
use Rattle.dh_model.specs.Runs.{batch_size}
use Rattle.dh_model.specs.Whole.{IsOpenAt}
use Rattle.dh_model.proofs.Among.{among}
use Rattle.dh_laws.specs.StateTables.{IsStateInOrder}
use Rattle.dh_laws.proofs.MonthLemmas.Shown.{all_closed}
use Rattle.dh_schema.specs.Store.{IsReady, tables}
use Rattle.dh_runs.specs.declared.problem.Problem.{Problem}
use Rattle.dh_runs.specs.declared.problem.Problem.TheVariants as problem
use Rattle.dh_runs.specs.Problems.{IsNotRead}
use Rattle.dh_runs.specs.Taking.{Sorts, Takes}
use Rattle.dh_runs.proofs.Along.{in_order}
use Rattle.dh_runs.specs.Migrated.{migrated_state}
use Rattle.dh_runs.specs.Moved.{CanBeMigrated, IsMigrationProblem, IsNotMigrated}
use Rattle.dh_runs.proofs.Sound.{migrated_books_are_in_order}

-- ready tables without an open run are in order when they are migrated
pub order_after : (s : State) → IsReady s → (tables s).open_run ≡ None → IsStateInOrder (migrated_state (tables s))
order_after s ready none =
    let books = (tables s).books in
    let was = in_order s ready in
    let shown = subst (λ (run : Option OpenRun). IsOpenAt batch_size books run) none was.shown in
    migrated_books_are_in_order batch_size books (tables s).open_run (λ run a. all_closed books shown run (among (values books.runs) run a)) was

-- a fault says nothing of tables that were taken
pub fault_sorts : {S X Y : Type 0} (g : Ghosts S) (old mid new : Held S) (y : Y) (result : Result X Problem) → Takes g First old mid (Ok y)
    → IsNotRead result → Sorts g First CanBeMigrated IsNotMigrated IsMigrationProblem old new result
fault_sorts g old mid new y (Err (problem.Fault fault)) takes told = record {
  taken = λ clean. tt;
  refused = λ clean. told;
  cause = told;
  of_version = λ clean is. absurd is;
  others = λ wrong. absurd (takes.others wrong).0;
  another = λ clean has. told;
}
fault_sorts g old mid new y (Err (problem.Refused why)) takes told = absurd told
fault_sorts g old mid new y (Ok x) takes told = absurd told
