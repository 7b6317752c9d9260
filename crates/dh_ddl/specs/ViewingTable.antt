-- viewing: a row a client and a property; comment is NULL where there is none.
use Rattle.std.specs.Prelude.{[], ◌∷◌, codes}
use Rattle.sqlite_value.specs.Keys.{plain}
use Rattle.sqlite_schema.specs.declared.schema.Kind.TheVariants.{Text}
use Rattle.sqlite_schema.specs.declared.schema.Table.{Table}
use Rattle.sqlite_schema.specs.declared.schema.Index.{Index}
use Rattle.dh_ddl.specs.Columns.{plain_table, must, may, to, key_index}

abbrev pub viewing : Table
viewing = record (plain_table (codes "viewing") 13) {
  columns =
      must Text (codes "client_no")
      ∷ must Text (codes "property_no")
      ∷ must Text (codes "day")
      ∷ may Text (codes "comment")
      ∷ [];
  primary = 1 ∷ 2 ∷ [];
  uniques = (1 ∷ 2 ∷ []) ∷ [];
  orders = plain ∷ [];
  references = to 1 (codes "client") ∷ to 2 (codes "property") ∷ [];
}

abbrev pub viewing_key : Index
viewing_key = key_index (codes "sqlite_autoindex_viewing_1") 14 13 (1 ∷ 2 ∷ [])
