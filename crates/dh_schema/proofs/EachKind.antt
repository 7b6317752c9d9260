-- Each kind at its place among the tables and in the books, apart from the others.
use Rattle.std.proofs.Common.{◌≡◌, ◌∙◌, ap, refl, ℕ, nat_eq, true, false, None, Some, slice_get}
use Rattle.std.specs.declared.cmp.Ordering.{Ordering}
use Rattle.std.specs.FinMap.{FinMap, empty}
use Rattle.sqlite_trees.specs.Tree.{Trees}
use Rattle.dh_model.specs.Books.{State}
use Rattle.dh_rows.specs.Months.{Months}
use Rattle.dh_types.specs.declared.version.Version.{Version}
use Rattle.dh_types.specs.declared.version.Version.TheVariants.{First, Second}
use Rattle.dh_ddl.specs.Versions.{schema_of}
use Rattle.dh_ddl.specs.MetaTable.{meta}
use Rattle.dh_model.specs.Kinds.{HasKind, IsSince, Kind, order_of, record_of}
use Rattle.dh_schema.specs.Kinds.{accessor_of, place_of, shape_of, table_of}
use Rattle.dh_model.specs.Kinds.{Branches, Staff, Owners, Properties, Clients, Registrations, Viewings, Inspections, Leases, Charges, Receipts, Runs}
use Rattle.dh_model.specs.Kinds.{Parts, BranchFees, PartFees, Endings}
use Rattle.dh_schema.specs.Tables.{books_in, empty_over, loaded_from, records_in, rows_since, version_of_tables}

-- ---- the table

pub meta_listed : (version : Version) → slice_get (schema_of version).tables 0 ≡ Some meta
meta_listed First = refl
meta_listed Second = refl

-- each table that the version has stands at its place
pub listed : (version : Version) (kind : Kind) → HasKind version kind → slice_get (schema_of version).tables (place_of kind) ≡ Some (table_of kind)
listed First BranchFees has = let none : First ≡ Second = has in cc
listed First PartFees has = let none : First ≡ Second = has in cc
listed First Endings has = let none : First ≡ Second = has in cc
listed First kind has = refl
listed Second Branches has = refl
listed Second kind has = refl

pub tree_is : (kind : Kind) → (table_of kind).tree ≡ (shape_of kind).tree
tree_is Branches = refl
tree_is kind = refl

-- no kind has meta's tree
pub beside_meta : (kind : Kind) → (nat_eq 0 (shape_of kind).tree ≡ false) × (nat_eq (shape_of kind).tree 0 ≡ false)
beside_meta Branches = (refl, refl)
beside_meta kind = (refl, refl)

-- and no two have one
pub one_kind : (j k : Kind) → nat_eq (shape_of j).tree (shape_of k).tree ≡ true → j ≡ k
one_kind Branches Branches h = refl
one_kind kind Branches h = cc
one_kind j k h = cc

-- ---- the books

-- books are the same where they have the same of each kind, the same months and the same version
pub same_books : (a b : State) → ((kind : Kind) → (accessor_of kind).held a ≡ (accessor_of kind).held b) → a.books.first ≡ b.books.first
    → a.books.next ≡ b.books.next → a.books.version ≡ b.books.version → a.open_run ≡ b.open_run → a ≡ b
same_books a b held first next version run = λ i. record {
  books = record {
    branches = held Branches i;
    staff = held Staff i;
    owners = held Owners i;
    properties = held Properties i;
    clients = held Clients i;
    registrations = held Registrations i;
    viewings = held Viewings i;
    inspections = held Inspections i;
    leases = held Leases i;
    charges = held Charges i;
    receipts = held Receipts i;
    runs = held Runs i;
    parts = held Parts i;
    branch_fees = held BranchFees i;
    part_fees = held PartFees i;
    endings = held Endings i;
    first = first i;
    next = next i;
    version = version i;
  };
  open_run = run i;
}

pub held_in : (kind : Kind) (trees : Trees) → (accessor_of kind).held (loaded_from trees) ≡ records_in kind trees
held_in Branches trees = refl
held_in kind trees = refl

-- books of tables that have the same records of each kind are the same but for the months and the version
module _ (old : Trees) (first next : ℕ) (version : Version) where
  abbrev but : State
  but = record { books = record (books_in old) { first = first; next = next; version = version }; open_run = None }

  held_but : (kind : Kind) → records_in kind old ≡ (accessor_of kind).held but
  held_but Branches = refl
  held_but kind = refl

  pub same_but : (new : Trees) → ((kind : Kind) → records_in kind new ≡ records_in kind old) → (books_in new).first ≡ first → (books_in new).next ≡ next
      → version_of_tables new ≡ version → books_in new ≡ record (books_in old) { first = first; next = next; version = version }
  same_but new records is_first is_next is_version =
      ap (λ (s : State). s.books)
      (same_books (loaded_from new) but (λ kind. held_in kind new ∙ records kind ∙ held_but kind) is_first is_next is_version refl)

-- the rows of what the version has are all that the table has
pub all_since : {K X : Type 0} {R : K → K → Ordering} (came version : Version) (rows : FinMap R X) → IsSince came version → rows_since came version rows ≡ rows
all_since First version rows has = refl
all_since Second First rows has = let none : First ≡ Second = has in cc
all_since Second Second rows has = refl

-- they are the same where the rows are, of tables that the version has
pub same_since : {K X : Type 0} {R : K → K → Ordering} (came version : Version) (rows others : FinMap R X) → (IsSince came version → rows ≡ others)
    → rows_since came version rows ≡ rows_since came version others
same_since First version rows others same = same tt
same_since Second First rows others same = refl
same_since Second Second rows others same = same refl

pub none_held : (kind : Kind) (months : Months) → (accessor_of kind).held (empty_over months) ≡ empty
none_held Branches months = refl
none_held kind months = refl

-- records put in beside those of another kind leave these
pub held_beside : (j k : Kind) (s : State) (m : FinMap (order_of k) (record_of k)) → nat_eq (shape_of j).tree (shape_of k).tree ≡ false
    → (accessor_of j).held ((accessor_of k).with s m) ≡ (accessor_of j).held s
held_beside Branches Branches s m h = cc
held_beside kind Branches s m h = refl
held_beside j k s m h = cc

-- and the months, the version and the open run
pub record AreBeside (old new : State) : Type 0 where
  pub first : new.books.first ≡ old.books.first
  pub next : new.books.next ≡ old.books.next
  pub version : new.books.version ≡ old.books.version
  pub open_run : new.open_run ≡ old.open_run

pub months_beside : (k : Kind) (s : State) (m : FinMap (order_of k) (record_of k)) → AreBeside s ((accessor_of k).with s m)
months_beside Branches s m = record { first = refl; next = refl; version = refl; open_run = refl }
months_beside kind s m = record { first = refl; next = refl; version = refl; open_run = refl }
