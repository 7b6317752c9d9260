-- owner: a row an owner, by the number.
use Rattle.std.specs.Prelude.{[], ◌∷◌, codes}
use Rattle.sqlite_value.specs.Keys.{plain}
use Rattle.sqlite_schema.specs.declared.schema.Kind.TheVariants.{Text}
use Rattle.sqlite_schema.specs.declared.schema.Table.{Table}
use Rattle.sqlite_schema.specs.declared.schema.Index.{Index}
use Rattle.dh_ddl.specs.Columns.{plain_table, must, key_index}

abbrev pub owner : Table
owner = record (plain_table (codes "owner") 5) {
  columns =
      must Text (codes "owner_no")
      ∷ must Text (codes "name")
      ∷ must Text (codes "address")
      ∷ must Text (codes "telephone")
      ∷ [];
  primary = 1 ∷ [];
  uniques = (1 ∷ []) ∷ [];
  orders = plain ∷ [];
}

abbrev pub owner_key : Index
owner_key = key_index (codes "sqlite_autoindex_owner_1") 6 5 (1 ∷ [])
