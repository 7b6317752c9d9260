-- client: a row a client, by the number.
use Rattle.std.specs.Prelude.{[], ◌∷◌, codes}
use Rattle.sqlite_value.specs.Keys.{plain}
use Rattle.sqlite_schema.specs.declared.schema.Kind.TheVariants.{Integer, Text}
use Rattle.sqlite_schema.specs.declared.schema.Table.{Table}
use Rattle.sqlite_schema.specs.declared.schema.Index.{Index}
use Rattle.dh_ddl.specs.Columns.{plain_table, must, key_index}

abbrev pub client : Table
client = record (plain_table (codes "client") 9) {
  columns =
      must Text (codes "client_no")
      ∷ must Text (codes "name")
      ∷ must Text (codes "telephone")
      ∷ must Text (codes "pref_type")
      ∷ must Integer (codes "max_rent")
      ∷ [];
  primary = 1 ∷ [];
  uniques = (1 ∷ []) ∷ [];
  orders = plain ∷ [];
}

abbrev pub client_key : Index
client_key = key_index (codes "sqlite_autoindex_client_1") 10 9 (1 ∷ [])
