-- What a connection shows of the agency's tables, and what a crash may leave of them.
use Rattle.std.specs.Prelude.{◌≡◌, false, IsTrue, []}
use Rattle.sqlite_trees.specs.Tree.{Trees}
use Rattle.sqlite.specs.State.{State, Survives}
use Rattle.dh_model.specs.declared.rows.Change.{Change}
use Rattle.dh_model.specs.Books as machine
use Rattle.dh_model.specs.Machine.{changed}
use Rattle.dh_laws.specs.InOrder.{run_after}
use Rattle.dh_ddl.specs.Versions.{schema_of}
use Rattle.dh_tables.specs.Calls.{HasOurTables}
use Rattle.dh_schema.specs.Tables.{AreInOrder, IsSound, state_in, version_of_tables}

-- the tables that the connection reads
abbrev pub tables : State → machine.State
tables s = state_in s.now.trees

-- the schema is that of the version that meta gives
abbrev pub HasItsSchema : State → Type 0
HasItsSchema s = s.now.schema ≡ schema_of (version_of_tables s.now.trees)

-- Open, between transactions, with sound tables that are the last commit.
pub record IsReady (s : State) : Type 0 where
  pub is_open : IsTrue s.is_open
  pub autocommit : s.in_transaction ≡ false
  pub schema : HasOurTables s
  pub version : HasItsSchema s
  pub settled : s.now ≡ s.committed
  pub sound : IsSound s.now.trees

-- Ready, with tables of which this holds.
abbrev pub IsReadyWith : State → (machine.State → Type 0) → Type 0
IsReadyWith s P = IsReady s × P (tables s)

-- Ready, and the tables are as they were.
abbrev pub StaysReady : State → State → Type 0
StaysReady old new = IsReadyWith new (λ t. t ≡ tables old)

-- Open, within a transaction, with tables in order.
pub record IsWriting (s : State) : Type 0 where
  pub is_open : IsTrue s.is_open
  pub inside : IsTrue s.in_transaction
  pub schema : HasOurTables s
  pub version : HasItsSchema s
  pub in_order : AreInOrder s.now.trees

-- A crash now leaves the tables that the connection reads, and nothing else; they are sound.
pub record LeavesItsTables (s : State) : Type 0 where
  pub only : (left : Trees) → s.may_leave left → left ≡ s.now.trees
  pub some : s.may_leave s.now.trees
  pub sound : IsSound s.now.trees

-- Sound tables of which this holds.
abbrev pub AreTables : (machine.State → Type 0) → Trees → Type 0
AreTables P trees = IsSound trees × P (state_in trees)

-- Whatever a crash now leaves are sound tables of which this holds.
abbrev pub Leaves : State → (machine.State → Type 0) → Type 0
Leaves s P = (left : Trees) → s.may_leave left → AreTables P left

-- From the first state to the second a crash leaves what it might have left before, or sound tables of which this holds.
abbrev pub Commits : State → State → (machine.State → Type 0) → Type 0
Commits old new P = Survives old new (AreTables P)

-- the tables with the rows of the change, and with the open run that an opening begins
abbrev pub with_change : Change → machine.State → machine.State
with_change rows s = record { books = changed rows s.books; open_run = run_after s.open_run rows }

-- No object is in the file.
pub record IsBlank (s : State) : Type 0 where
  pub tables : s.now.schema.tables ≡ []
  pub indexes : s.now.schema.indexes ≡ []
  pub views : s.now.schema.views ≡ []

-- While the store is open, tables that were the last commit are what they were, and still the last commit; and no transaction is
-- open where none was.
abbrev pub Keeps : State → State → Type 0
Keeps old new = IsTrue new.is_open → old.now ≡ old.committed
    → (new.now ≡ old.now) × (new.committed ≡ old.committed) × (old.in_transaction ≡ false → new.in_transaction ≡ false)
