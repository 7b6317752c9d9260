-- registration: a row a client and a branch.
use Rattle.std.specs.Prelude.{[], ◌∷◌, codes}
use Rattle.sqlite_value.specs.Keys.{plain}
use Rattle.sqlite_schema.specs.declared.schema.Kind.TheVariants.{Text}
use Rattle.sqlite_schema.specs.declared.schema.Table.{Table}
use Rattle.sqlite_schema.specs.declared.schema.Index.{Index}
use Rattle.dh_ddl.specs.Columns.{plain_table, must, to, key_index}

abbrev pub registration : Table
registration = record (plain_table (codes "registration") 11) {
  columns =
      must Text (codes "client_no")
      ∷ must Text (codes "branch_no")
      ∷ must Text (codes "staff_no")
      ∷ must Text (codes "day")
      ∷ [];
  primary = 1 ∷ 2 ∷ [];
  uniques = (1 ∷ 2 ∷ []) ∷ [];
  orders = plain ∷ [];
  references = to 1 (codes "client") ∷ to 2 (codes "branch") ∷ to 3 (codes "staff") ∷ [];
}

abbrev pub registration_key : Index
registration_key = key_index (codes "sqlite_autoindex_registration_1") 12 11 (1 ∷ 2 ∷ [])
