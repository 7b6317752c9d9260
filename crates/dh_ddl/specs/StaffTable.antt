-- staff: a row a member of staff, by the number.
use Rattle.std.specs.Prelude.{[], ◌∷◌, codes}
use Rattle.sqlite_value.specs.Keys.{plain}
use Rattle.sqlite_schema.specs.declared.schema.Kind.TheVariants.{Text}
use Rattle.sqlite_schema.specs.declared.schema.Table.{Table}
use Rattle.sqlite_schema.specs.declared.schema.Index.{Index}
use Rattle.dh_ddl.specs.Columns.{plain_table, must, to, key_index}

abbrev pub staff : Table
staff = record (plain_table (codes "staff") 3) {
  columns =
      must Text (codes "staff_no")
      ∷ must Text (codes "name")
      ∷ must Text (codes "position")
      ∷ must Text (codes "branch_no")
      ∷ [];
  primary = 1 ∷ [];
  uniques = (1 ∷ []) ∷ [];
  orders = plain ∷ [];
  references = to 4 (codes "branch") ∷ [];
}

abbrev pub staff_key : Index
staff_key = key_index (codes "sqlite_autoindex_staff_1") 4 3 (1 ∷ [])
