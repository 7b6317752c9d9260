-- meta: one row with the version and the months.
use Rattle.std.specs.Prelude.{[], ◌∷◌, codes, Some}
use Rattle.sqlite_schema.specs.declared.schema.Kind.TheVariants.{Integer}
use Rattle.sqlite_schema.specs.declared.schema.Table.{Table}
use Rattle.dh_ddl.specs.Columns.{plain_table, must, may}

abbrev pub meta : Table
meta = record (plain_table (codes "meta") 0) {
  columns =
      may Integer (codes "id")
      ∷ must Integer (codes "version")
      ∷ must Integer (codes "first_month")
      ∷ must Integer (codes "next_month")
      ∷ [];
  key = Some 0;
  primary = 0 ∷ [];
}
