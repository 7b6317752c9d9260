-- An agency between calls.
use Rattle.std.specs.Prelude.{◌≡◌, ◌≤◌, true, false, IsTrue, Result, Err, OnOk, OnErr, IfErr}
use Rattle.sqlite.specs.Store.{Ghosts}
use Rattle.sqlite.specs.State as conn
use Rattle.sqlite.specs.State.{HasCleanDisk}
use Rattle.sqlite.specs.Held.{state}
use Rattle.sqlite_trees.specs.View.{doubt}
use Rattle.dh_types.specs.declared.reply.Fault.{Fault}
use Rattle.dh_types.specs.declared.reply.Fault.TheVariants as fault
use Rattle.dh_types.specs.declared.version.Version.TheVariants.{Second}
use Rattle.dh_model.specs.Books.{State}
use Rattle.dh_model.specs.Runs.{batch_size}
use Rattle.dh_laws.specs.Events.{state_of}
use Rattle.dh_laws.specs.StateTables as laws
use Rattle.dh_schema.specs.Faults.{IsFirstFault}
use Rattle.dh_schema.specs.Store as store
use Rattle.dh_schema.specs.Store.{tables}
use Rattle.dh_runs.specs.Taking.{HasVersion}
use Rattle.dh_agency.specs.AgencyView.{AgencyView}

-- Ready, with tables of the second version.
abbrev pub IsServed : conn.State → Type 0
IsServed s = store.IsReady s × HasVersion Second s

abbrev pub shown_by : {S : Type 0} → Ghosts S → AgencyView S → conn.State
shown_by g a = state g a.conn

-- Nobody else wrote the store, and it gave back what was written.
abbrev pub IsClean : {S : Type 0} → Ghosts S → AgencyView S → Type 0
IsClean g a = HasCleanDisk (shown_by g a)

-- The store can still be read.
abbrev pub IsOpen : {S : Type 0} → Ghosts S → AgencyView S → Type 0
IsOpen g a = IsTrue (shown_by g a).is_open

-- The machine's state that the tables are.
abbrev pub machine : {S : Type 0} → Ghosts S → AgencyView S → State
machine g a = tables (shown_by g a)

-- Where the machine stands with these tables: the whole books, and the open run.
abbrev pub stand_of : State → State
stand_of s = state_of batch_size (laws.as_tables s)

-- Where it stands with the agency's tables.
abbrev pub stand : {S : Type 0} → Ghosts S → AgencyView S → State
stand g a = stand_of (machine g a)

-- A store that is clean was so before.
abbrev pub WasClean : {S : Type 0} → Ghosts S → AgencyView S → AgencyView S → Type 0
WasClean g old new = doubt (shown_by g old).is_clean ≤ doubt (shown_by g new).is_clean

-- A crash now leaves the tables alone that the agency reads.
abbrev pub LeavesItsTables : {S : Type 0} → Ghosts S → AgencyView S → Type 0
LeavesItsTables g a = store.LeavesItsTables (shown_by g a)

-- Whatever a crash now leaves are sound tables of which this holds.
abbrev pub Leaves : {S : Type 0} → Ghosts S → AgencyView S → (State → Type 0) → Type 0
Leaves g a P = store.Leaves (shown_by g a) P

-- The tables that it reads are sound, no transaction is open, and this holds of them.
abbrev pub ReadsAs : {S : Type 0} → Ghosts S → AgencyView S → (State → Type 0) → Type 0
ReadsAs g a P = store.IsReadyWith (shown_by g a) P

-- How a call of an agency ends: at a fault it stops, and each later call answers that alone.
pub record Ends {S X : Type 0} (g : Ghosts S) (old new : AgencyView S) (result : Result X Fault) : Type 0 where
  pub goes_on : OnOk result ((old.is_stopped ≡ false) × (new.is_stopped ≡ false))
  pub stops : OnErr result (new.is_stopped ≡ true)
  pub cause : old.is_stopped ≡ false → IfErr result IsFirstFault
  pub stopped : old.is_stopped ≡ true → (result ≡ Err fault.Stopped) × (new ≡ old)
  pub was_clean : WasClean g old new
