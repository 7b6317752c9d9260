-- property: a row a property, by its number; staff_no is NULL where nobody manages it.
use Rattle.std.specs.Prelude.{[], ◌∷◌, codes}
use Rattle.sqlite_value.specs.Keys.{plain}
use Rattle.sqlite_schema.specs.declared.schema.Kind.TheVariants.{Integer, Text}
use Rattle.sqlite_schema.specs.declared.schema.Table.{Table}
use Rattle.sqlite_schema.specs.declared.schema.Index.{Index}
use Rattle.dh_ddl.specs.Columns.{plain_table, must, may, to, key_index}

abbrev pub property : Table
property = record (plain_table (codes "property") 7) {
  columns =
      must Text (codes "property_no")
      ∷ must Text (codes "street")
      ∷ must Text (codes "city")
      ∷ must Text (codes "postcode")
      ∷ must Text (codes "type")
      ∷ must Integer (codes "rooms")
      ∷ must Integer (codes "rent")
      ∷ must Text (codes "owner_no")
      ∷ may Text (codes "staff_no")
      ∷ must Text (codes "branch_no")
      ∷ [];
  primary = 1 ∷ [];
  uniques = (1 ∷ []) ∷ [];
  orders = plain ∷ [];
  references = to 8 (codes "owner") ∷ to 9 (codes "staff") ∷ to 10 (codes "branch") ∷ [];
}

abbrev pub property_key : Index
property_key = key_index (codes "sqlite_autoindex_property_1") 8 7 (1 ∷ [])
