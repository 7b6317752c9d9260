-- branch_fee: a row a branch whose fee was set, by its number.
use Rattle.std.specs.Prelude.{[], ◌∷◌, codes}
use Rattle.sqlite_value.specs.Keys.{plain}
use Rattle.sqlite_schema.specs.declared.schema.Kind.TheVariants.{Integer, Text}
use Rattle.sqlite_schema.specs.declared.schema.Table.{Table}
use Rattle.sqlite_schema.specs.declared.schema.Index.{Index}
use Rattle.dh_ddl.specs.Columns.{plain_table, must, to, key_index}

abbrev pub branch_fee : Table
branch_fee = record (plain_table (codes "branch_fee") 26) {
  columns =
      must Text (codes "branch_no")
      ∷ must Integer (codes "fee")
      ∷ [];
  primary = 1 ∷ [];
  uniques = (1 ∷ []) ∷ [];
  orders = plain ∷ [];
  references = to 1 (codes "branch") ∷ [];
}

abbrev pub branch_fee_key : Index
branch_fee_key = key_index (codes "sqlite_autoindex_branch_fee_1") 27 26 (1 ∷ [])
