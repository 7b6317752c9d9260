-- receipt: a row a receipt, by its number; no two have the same request key.
use Rattle.std.specs.Prelude.{[], ◌∷◌, codes, Some}
use Rattle.sqlite_value.specs.Keys.{plain}
use Rattle.sqlite_schema.specs.declared.schema.Kind.TheVariants.{Integer, Text}
use Rattle.sqlite_schema.specs.declared.schema.Table.{Table}
use Rattle.sqlite_schema.specs.declared.schema.Index.{Index}
use Rattle.dh_ddl.specs.Columns.{plain_table, must, may, to, key_index}

abbrev pub receipt : Table
receipt = record (plain_table (codes "receipt") 20) {
  columns =
      may Integer (codes "receipt_no")
      ∷ must Text (codes "req_key")
      ∷ must Integer (codes "lease_no")
      ∷ must Text (codes "kind")
      ∷ must Integer (codes "amount")
      ∷ must Text (codes "day")
      ∷ [];
  key = Some 0;
  primary = 0 ∷ [];
  uniques = (2 ∷ []) ∷ [];
  orders = plain ∷ [];
  references = to 3 (codes "lease") ∷ [];
}

abbrev pub receipt_key : Index
receipt_key = key_index (codes "sqlite_autoindex_receipt_1") 21 20 (2 ∷ [])
