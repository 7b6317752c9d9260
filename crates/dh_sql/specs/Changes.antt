-- What a statement that changed one table has done.
use Rattle.std.specs.Prelude.{◌≡◌, ℕ, nat_eq, false, List, [], ◌∷◌, Some, None, slice_get}
use Rattle.std.specs.declared.cmp.Ordering.{Ordering}
use Rattle.std.specs.FinMap.{FinMap, get, insert}
use Rattle.sqlite_schema.specs.declared.schema.Schema.{Schema}
use Rattle.sqlite_schema.specs.declared.schema.Table.{Table}
use Rattle.sqlite_value.specs.Order.{Row}
use Rattle.sqlite_rules.specs.Cast.{cast_row}
use Rattle.sqlite_trees.specs.Tree.{Trees, rowid}
use Rattle.sqlite_catalog.specs.Listing as catalog
use Rattle.sqlite.specs.State.{State}
use Rattle.dh_sql.specs.Shape.{AreApart, IsKept, IsStored, Shape, rows_in, stored_in}

-- each table of the schema but that of one tree is as it was
abbrev pub OthersStay : Schema → ℕ → Trees → Trees → Type 0
OthersStay schema tree old new = (at : ℕ) (t : Table) → slice_get schema.tables at ≡ Some t → nat_eq t.tree tree ≡ false → new t.tree ≡ old t.tree

-- a stored row is written as this one, which has its rowid and is this record
pub record IsTurnedInto {K X : Type 0} (it : Shape K X) (table : Table) (before after : Row) (y : X) : Type 0 where
  pub stays : cast_row table after ≡ after
  pub rowid_is : rowid after ≡ rowid before
  pub grammar : IsStored it after
  pub record_is : stored_in it after ≡ y

-- each of the records is new to those that are there and to those before it
abbrev pub AreNew : {K X : Type 0} {R : K → K → Ordering} → (X → K) → List X → FinMap R X → Type 0
AreNew key [] held = Unit {0}
AreNew key (x ∷ xs) held = (get held (key x) ≡ None) × AreNew key xs (insert held (key x) x)

module _ {K X : Type 0} (it : Shape K X) (R : K → K → Ordering) where
  -- the table has the records that it had, and is in order where it was
  pub record IsSame (old new : Trees) : Type 0 where
    pub rows : rows_in it {R = R} new ≡ rows_in it old
    pub kept : IsKept it R old → IsKept it R new
    pub apart : AreApart (old it.tree) → AreApart (new it.tree)

  -- The table is in order and has these records now. All else is as it was, and the catalog lists the schema.
  pub record Becomes (schema : Schema) (records : FinMap R X) (old new : State) : Type 0 where
    pub schema_is : new.now.schema ≡ schema
    pub listed : catalog.IsSound schema new.now.trees
    pub rows : rows_in it {R = R} new.now.trees ≡ records
    pub kept : IsKept it R new.now.trees
    pub apart : AreApart (old.now.trees it.tree) → AreApart (new.now.trees it.tree)
    pub others : OthersStay schema it.tree old.now.trees new.now.trees
