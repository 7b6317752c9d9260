-- inspection: a row a property and a day.
use Rattle.std.specs.Prelude.{[], ◌∷◌, codes}
use Rattle.sqlite_value.specs.Keys.{plain}
use Rattle.sqlite_schema.specs.declared.schema.Kind.TheVariants.{Text}
use Rattle.sqlite_schema.specs.declared.schema.Table.{Table}
use Rattle.sqlite_schema.specs.declared.schema.Index.{Index}
use Rattle.dh_ddl.specs.Columns.{plain_table, must, to, key_index}

abbrev pub inspection : Table
inspection = record (plain_table (codes "inspection") 15) {
  columns =
      must Text (codes "property_no")
      ∷ must Text (codes "day")
      ∷ must Text (codes "staff_no")
      ∷ must Text (codes "comment")
      ∷ [];
  primary = 1 ∷ 2 ∷ [];
  uniques = (1 ∷ 2 ∷ []) ∷ [];
  orders = plain ∷ [];
  references = to 1 (codes "property") ∷ to 3 (codes "staff") ∷ [];
}

abbrev pub inspection_key : Index
inspection_key = key_index (codes "sqlite_autoindex_inspection_1") 16 15 (1 ∷ 2 ∷ [])
