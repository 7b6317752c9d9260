-- part: a row a branch and a month: what the run has done there.
use Rattle.std.specs.Prelude.{[], ◌∷◌, codes}
use Rattle.sqlite_value.specs.Keys.{plain}
use Rattle.sqlite_schema.specs.declared.schema.Kind.TheVariants.{Integer, Text}
use Rattle.sqlite_schema.specs.declared.schema.Table.{Table}
use Rattle.sqlite_schema.specs.declared.schema.Index.{Index}
use Rattle.dh_ddl.specs.Columns.{plain_table, must, to, key_index}

abbrev pub part : Table
part = record (plain_table (codes "part") 24) {
  columns =
      must Integer (codes "month")
      ∷ must Text (codes "branch_no")
      ∷ must Integer (codes "through_lease")
      ∷ must Integer (codes "due_count")
      ∷ must Integer (codes "due_total")
      ∷ [];
  primary = 1 ∷ 2 ∷ [];
  uniques = (1 ∷ 2 ∷ []) ∷ [];
  orders = plain ∷ [];
  references = to 1 (codes "run") ∷ to 2 (codes "branch") ∷ [];
}

abbrev pub part_key : Index
part_key = key_index (codes "sqlite_autoindex_part_1") 25 24 (1 ∷ 2 ∷ [])
