-- The columns of a table, and the indexes on them.
use Rattle.std.specs.Prelude.{ℕ, List, [], ◌∷◌, None, true, false}
use Rattle.sqlite_value.specs.declared.keys.Collation.TheVariants.{Binary}
use Rattle.sqlite_value.specs.declared.value.Value.TheVariants.{Null}
use Rattle.sqlite_value.specs.Keys.{plain}
use Rattle.sqlite_schema.specs.declared.schema.Kind.{Kind}
use Rattle.sqlite_schema.specs.declared.schema.Action.TheVariants.{NoAction}
use Rattle.sqlite_schema.specs.declared.schema.Column.{Column}
use Rattle.sqlite_schema.specs.declared.schema.Reference.{Reference}
use Rattle.sqlite_schema.specs.declared.schema.Table.{Table}
use Rattle.sqlite_schema.specs.declared.schema.Index.{Index}

-- a column that must have a value, and one that may lack it, or stands for the rowid
abbrev pub must : Kind → List ℕ → Column
must kind name = record { name = name; kind = kind; is_strict = true; not_null = true; default = Null; collation = Binary }

abbrev pub may : Kind → List ℕ → Column
may kind name = record { name = name; kind = kind; is_strict = true; not_null = false; default = Null; collation = Binary }

-- The column at this place refers to the key of that table, without an action. Place 0 is the rowid, and 1 the first column.
abbrev pub to : ℕ → List ℕ → Reference
to place parent = record { columns = place ∷ []; parent = parent; parent_columns = []; on_delete = NoAction; on_update = NoAction; is_deferred = false }

-- the index of a key of the table with this tree, and one of a look-up
abbrev pub key_index : List ℕ → ℕ → ℕ → List ℕ → Index
key_index name tree table columns = record { name = name; tree = tree; table = table; columns = columns; order = plain; is_unique = true }

abbrev pub look_index : List ℕ → ℕ → ℕ → List ℕ → Index
look_index name tree table columns = record { name = name; tree = tree; table = table; columns = columns; order = plain; is_unique = false }

-- a table that has nothing yet but its name and its tree
abbrev pub plain_table : List ℕ → ℕ → Table
plain_table name tree = record {
  name = name;
  tree = tree;
  columns = [];
  key = None;
  primary = [];
  uniques = [];
  orders = [];
  checks = [];
  references = [];
  computed = [];
  stamps = record { places = []; terms = []; formats = [] };
  is_counted = false;
}
