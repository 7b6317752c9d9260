-- lease: a row a lease, by its number.
use Rattle.std.specs.Prelude.{[], ◌∷◌, codes, Some}
use Rattle.sqlite_schema.specs.declared.schema.Kind.TheVariants.{Integer, Text}
use Rattle.sqlite_schema.specs.declared.schema.Table.{Table}
use Rattle.dh_ddl.specs.Columns.{plain_table, must, may, to}

abbrev pub lease : Table
lease = record (plain_table (codes "lease") 17) {
  columns =
      may Integer (codes "lease_no")
      ∷ must Text (codes "client_no")
      ∷ must Text (codes "property_no")
      ∷ must Text (codes "start_day")
      ∷ must Integer (codes "months")
      ∷ must Text (codes "method")
      ∷ must Integer (codes "rent")
      ∷ [];
  key = Some 0;
  primary = 0 ∷ [];
  references = to 2 (codes "client") ∷ to 3 (codes "property") ∷ [];
}
