-- charge: a row a charge of a lease, by its place k among them.
use Rattle.std.specs.Prelude.{[], ◌∷◌, codes}
use Rattle.sqlite_value.specs.Keys.{plain}
use Rattle.sqlite_schema.specs.declared.schema.Kind.TheVariants.{Integer, Text}
use Rattle.sqlite_schema.specs.declared.schema.Table.{Table}
use Rattle.sqlite_schema.specs.declared.schema.Index.{Index}
use Rattle.dh_ddl.specs.Columns.{plain_table, must, to, key_index}

abbrev pub charge : Table
charge = record (plain_table (codes "charge") 18) {
  columns =
      must Integer (codes "lease_no")
      ∷ must Integer (codes "k")
      ∷ must Integer (codes "month")
      ∷ must Text (codes "day")
      ∷ must Integer (codes "amount")
      ∷ [];
  primary = 1 ∷ 2 ∷ [];
  uniques = (1 ∷ 2 ∷ []) ∷ [];
  orders = plain ∷ [];
  references = to 1 (codes "lease") ∷ [];
}

abbrev pub charge_key : Index
charge_key = key_index (codes "sqlite_autoindex_charge_1") 19 18 (1 ∷ 2 ∷ [])
