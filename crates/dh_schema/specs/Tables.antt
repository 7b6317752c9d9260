-- What the tables mean: the books that their rows are, the open run that they show, and when they are in order.
use Rattle.std.specs.Prelude.{List, [], ◌∷◌, None}
use Rattle.std.specs.List.{AllByRecursion}
use Rattle.std.specs.declared.cmp.Ordering.{Ordering}
use Rattle.std.specs.FinMap.{FinMap, empty}
use Rattle.sqlite_value.specs.Order.{Row}
use Rattle.sqlite_trees.specs.Tree.{Trees}
use Rattle.sqlite_catalog.specs.Listing as catalog
use Rattle.dh_types.specs.declared.version.Version.{Version}
use Rattle.dh_types.specs.declared.version.Version.TheVariants.{First, Second}
use Rattle.dh_model.specs.Books.{Books, empty_books}
use Rattle.dh_model.specs.Books as machine
use Rattle.dh_model.specs.Rules.{MeetsRules}
use Rattle.dh_model.specs.Runs.{batch_size}
use Rattle.dh_model.specs.Whole.{run_shown}
use Rattle.dh_laws.specs.Events.{Tables}
use Rattle.dh_rows.specs.Months.{Months}
use Rattle.dh_rows.specs.MetaRows.{months_in}
use Rattle.dh_ddl.specs.Versions.{schema_of}
use Rattle.dh_sql.specs.Shape.{AreApart, IsKept, IsStored, rows_in}
use Rattle.dh_tables.specs.MetaTable.{HasMonths, meta_rows}
use Rattle.dh_model.specs.Kinds.{HasKind, Kind, came_with, order_of, record_of}
use Rattle.dh_schema.specs.Kinds.{shape_of}
use Rattle.dh_model.specs.Kinds.{Branches, Staff, Owners, Properties, Clients, Registrations, Viewings, Inspections, Leases, Charges, Receipts, Runs}
use Rattle.dh_model.specs.Kinds.{Parts, BranchFees, PartFees, Endings}

-- the version and the months of meta's only row
abbrev pub months_of : List Row → Months
months_of [] = record { version = First; first = 0; next = 0 }
months_of (row ∷ rows) = months_in row

-- the version that meta gives
abbrev pub version_of_tables : Trees → Version
version_of_tables trees = (months_of (meta_rows trees)).version

-- the rows of a table that came with a version: tables of an earlier one have none
abbrev pub rows_since : {K X : Type 0} {R : K → K → Ordering} → Version → Version → FinMap R X → FinMap R X
rows_since First version rows = rows
rows_since Second First rows = empty
rows_since Second Second rows = rows

-- the records of a kind
abbrev pub records_in : (kind : Kind) → Trees → FinMap (order_of kind) (record_of kind)
records_in kind trees = rows_since (came_with kind) (version_of_tables trees) (rows_in (shape_of kind) trees)

-- the books as the rows give them
abbrev pub books_in : Trees → Books
books_in trees = record {
  branches = records_in Branches trees;
  staff = records_in Staff trees;
  owners = records_in Owners trees;
  properties = records_in Properties trees;
  clients = records_in Clients trees;
  registrations = records_in Registrations trees;
  viewings = records_in Viewings trees;
  inspections = records_in Inspections trees;
  leases = records_in Leases trees;
  charges = records_in Charges trees;
  receipts = records_in Receipts trees;
  runs = records_in Runs trees;
  parts = records_in Parts trees;
  branch_fees = records_in BranchFees trees;
  part_fees = records_in PartFees trees;
  endings = records_in Endings trees;
  first = (months_of (meta_rows trees)).first;
  next = (months_of (meta_rows trees)).next;
  version = version_of_tables trees;
}

-- they, and the open run that they show
abbrev pub tables_in : Trees → Tables
tables_in trees = record { books = books_in trees; run = run_shown batch_size (books_in trees) }

-- the same as a state of the machine
abbrev pub state_in : Trees → machine.State
state_in trees = record { books = (tables_in trees).books; open_run = (tables_in trees).run }

-- the books alone, as they are loaded: which run they show, they do not say
abbrev pub loaded_from : Trees → machine.State
loaded_from trees = record { books = books_in trees; open_run = None }

-- empty books of this version and these months
abbrev pub empty_over : Months → machine.State
empty_over months = record { books = record (empty_books months.first) { next = months.next; version = months.version }; open_run = None }

-- each row of the kind is a record
abbrev pub AreRecords : Kind → Trees → Type 0
AreRecords kind trees = AllByRecursion (IsStored (shape_of kind)) (trees (shape_of kind).tree)

-- Meta gives a version, and each column of its tables holds a value of its kind: rule 0 of the audit.
pub record HasValues (trees : Trees) : Type 0 where
  pub months : Months
  pub meta : HasMonths months trees
  pub rows : (kind : Kind) → HasKind (version_of_tables trees) kind → AreRecords kind trees

-- So it is in one table, each rowid tells one row, and each key is there once.
pub record IsTableInOrder (kind : Kind) (trees : Trees) : Type 0 where
  pub kept : IsKept (shape_of kind) (order_of kind) trees
  pub apart : AreApart (trees (shape_of kind).tree)

-- So it is in all tables of the version that meta gives, and the catalog lists the tables and indexes of this version and nothing else.
pub record AreInOrder (trees : Trees) : Type 0 where
  pub listed : catalog.IsSound (schema_of (version_of_tables trees)) trees
  pub months : Months
  pub meta : HasMonths months trees
  pub tables : (kind : Kind) → HasKind (version_of_tables trees) kind → IsTableInOrder kind trees

-- Tables in order whose books meet the rules of the audit.
pub record IsSound (trees : Trees) : Type 0 where
  pub in_order : AreInOrder trees
  pub rules : MeetsRules (books_in trees) batch_size
