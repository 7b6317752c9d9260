-- branch: a row a branch, by its number.
use Rattle.std.specs.Prelude.{[], ◌∷◌, codes}
use Rattle.sqlite_value.specs.Keys.{plain}
use Rattle.sqlite_schema.specs.declared.schema.Kind.TheVariants.{Text}
use Rattle.sqlite_schema.specs.declared.schema.Table.{Table}
use Rattle.sqlite_schema.specs.declared.schema.Index.{Index}
use Rattle.dh_ddl.specs.Columns.{plain_table, must, key_index}

abbrev pub branch : Table
branch = record (plain_table (codes "branch") 1) {
  columns =
      must Text (codes "branch_no")
      ∷ must Text (codes "street")
      ∷ must Text (codes "city")
      ∷ must Text (codes "postcode")
      ∷ [];
  primary = 1 ∷ [];
  uniques = (1 ∷ []) ∷ [];
  orders = plain ∷ [];
}

abbrev pub branch_key : Index
branch_key = key_index (codes "sqlite_autoindex_branch_1") 2 1 (1 ∷ [])
