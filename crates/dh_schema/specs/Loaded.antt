-- Tables that are read into books, one after the other.
use Rattle.std.specs.Prelude.{◌≡◌, ◌++◌, List, [], ◌∷◌, Result, Err, IfErr, OnErr, OnOk}
use Rattle.std.specs.List.{AllByRecursion}
use Rattle.std.specs.FinMap.{empty}
use Rattle.sqlite_schema.specs.declared.schema.Schema.{Schema}
use Rattle.sqlite_trees.specs.Tree.{Trees}
use Rattle.sqlite.specs.State.{HasCleanDisk, IsUnchanged, State}
use Rattle.dh_types.specs.declared.version.Version.{Version}
use Rattle.dh_types.specs.declared.version.Version.TheVariants.{First, Second}
use Rattle.dh_model.specs.Books as machine
use Rattle.dh_ddl.specs.Versions.{HasSince}
use Rattle.dh_sql.specs.Shape.{rows_in}
use Rattle.dh_tables.specs.Calls.{CommitsNothing, IsUndone}
use Rattle.dh_schema.specs.declared.load_fault.LoadFault.{LoadFault}
use Rattle.dh_schema.specs.declared.load_fault.LoadFault.TheVariants.{Damaged}
use Rattle.dh_schema.specs.LoadFaults.{IsLoadFault}
use Rattle.dh_model.specs.Kinds.{Kind, came_with}
use Rattle.dh_schema.specs.Kinds.{accessor_of, shape_of}
use Rattle.dh_model.specs.Kinds.{Branches, Staff, Owners, Properties, Clients, Registrations, Viewings, Inspections, Leases, Charges, Receipts, Runs}
use Rattle.dh_model.specs.Kinds.{Parts, BranchFees, PartFees, Endings}
use Rattle.dh_schema.specs.Tables.{AreRecords, IsTableInOrder}

-- ---- the kinds in the order in which they are read

-- those of the first version
abbrev pub first_kinds : List Kind
first_kinds = Branches ∷ Staff ∷ Owners ∷ Clients ∷ Properties ∷ Registrations ∷ Viewings ∷ Inspections ∷ Leases ∷ Charges ∷ Receipts ∷ Runs ∷ Parts ∷ []

-- and those that came with the second
abbrev pub later_kinds : List Kind
later_kinds = BranchFees ∷ PartFees ∷ Endings ∷ []

abbrev pub kinds_of : Version → List Kind
kinds_of First = first_kinds
kinds_of Second = first_kinds ++ later_kinds

-- ---- what was read

-- the books have no record of these kinds
abbrev pub HasNone : List Kind → machine.State → Type 0
HasNone kinds books = AllByRecursion (λ kind. (accessor_of kind).held books ≡ empty) kinds

-- the schema has the tables of these kinds
abbrev pub HasTablesOf : List Kind → Schema → Type 0
HasTablesOf kinds schema = AllByRecursion (λ kind. HasSince (came_with kind) schema) kinds

-- the books have no record of each of these kinds when its turn comes to be read
abbrev pub LacksEach : List Kind → Trees → machine.State → Type 0
LacksEach [] trees books = Unit {0}
LacksEach (kind ∷ kinds) trees books = ((accessor_of kind).held books ≡ empty)
    × LacksEach kinds trees ((accessor_of kind).with books (rows_in (shape_of kind) trees))

-- the books with the records that the tables of these kinds have
abbrev pub with_records : List Kind → Trees → machine.State → machine.State
with_records [] trees books = books
with_records (kind ∷ kinds) trees books = with_records kinds trees ((accessor_of kind).with books (rows_in (shape_of kind) trees))

-- each row of these kinds is a record
abbrev pub AllAreRecords : List Kind → Trees → Type 0
AllAreRecords kinds trees = AllByRecursion (λ kind. AreRecords kind trees) kinds

-- the tables of these kinds are in order, and were put into the books
pub record AreLoaded (kinds : List Kind) (trees : Trees) (before after : machine.State) : Type 0 where
  pub in_order : AllByRecursion (λ kind. IsTableInOrder kind trees) kinds
  pub books : after ≡ with_records kinds trees before

-- A call that only reads: what holds where it went well, and what where it tells damage. It changes no table.
pub record Reads (Done Damage : Type 0) (result : Result (Unit {0}) LoadFault) (old new : State) : Type 0 where
  pub done : HasCleanDisk new → OnOk result Done
  pub damaged : HasCleanDisk new → result ≡ Err Damaged → Damage
  pub cause : IfErr result IsLoadFault
  pub same : HasCleanDisk new → OnOk result (IsUnchanged old new)
  pub undone : HasCleanDisk new → OnErr result (IsUndone old new)
  pub crash : CommitsNothing old new

-- one that reads the tables of these kinds into the books
pub record Loads (kinds : List Kind) (result : Result (Unit {0}) LoadFault) (old new : State) (before after : machine.State) : Type 0 where
  pub reads : Reads (AreLoaded kinds old.now.trees before after) (¬ AllAreRecords kinds old.now.trees) result old new
