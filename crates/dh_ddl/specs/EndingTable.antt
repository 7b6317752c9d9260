-- ending: a row a lease that ends early, by its number.
use Rattle.std.specs.Prelude.{[], ◌∷◌, codes, Some}
use Rattle.sqlite_schema.specs.declared.schema.Kind.TheVariants.{Integer}
use Rattle.sqlite_schema.specs.declared.schema.Table.{Table}
use Rattle.dh_ddl.specs.Columns.{plain_table, must, may, to}

abbrev pub ending : Table
ending = record (plain_table (codes "ending") 30) {
  columns =
      may Integer (codes "lease_no")
      ∷ must Integer (codes "months")
      ∷ [];
  key = Some 0;
  primary = 0 ∷ [];
  references = to 0 (codes "lease") ∷ [];
}
