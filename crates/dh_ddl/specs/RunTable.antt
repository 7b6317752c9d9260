-- run: a row a month whose run was opened; no two have the same request key.
use Rattle.std.specs.Prelude.{[], ◌∷◌, codes, Some}
use Rattle.sqlite_value.specs.Keys.{plain}
use Rattle.sqlite_schema.specs.declared.schema.Kind.TheVariants.{Integer, Text}
use Rattle.sqlite_schema.specs.declared.schema.Table.{Table}
use Rattle.sqlite_schema.specs.declared.schema.Index.{Index}
use Rattle.dh_ddl.specs.Columns.{plain_table, must, may, key_index}

abbrev pub run : Table
run = record (plain_table (codes "run") 22) {
  columns =
      may Integer (codes "month")
      ∷ must Text (codes "req_key")
      ∷ must Integer (codes "due_count")
      ∷ must Integer (codes "due_total")
      ∷ must Integer (codes "closed")
      ∷ [];
  key = Some 0;
  primary = 0 ∷ [];
  uniques = (2 ∷ []) ∷ [];
  orders = plain ∷ [];
}

abbrev pub run_key : Index
run_key = key_index (codes "sqlite_autoindex_run_1") 23 22 (2 ∷ [])
