-- part_fee: a row a part of a run: the fee that its branch had, and what it comes to.
use Rattle.std.specs.Prelude.{[], ◌∷◌, codes, false}
use Rattle.sqlite_value.specs.Keys.{plain}
use Rattle.sqlite_schema.specs.declared.schema.Kind.TheVariants.{Integer, Text}
use Rattle.sqlite_schema.specs.declared.schema.Action.TheVariants.{NoAction}
use Rattle.sqlite_schema.specs.declared.schema.Table.{Table}
use Rattle.sqlite_schema.specs.declared.schema.Index.{Index}
use Rattle.dh_ddl.specs.Columns.{plain_table, must, key_index}

abbrev pub part_fee : Table
part_fee = record (plain_table (codes "part_fee") 28) {
  columns =
      must Integer (codes "month")
      ∷ must Text (codes "branch_no")
      ∷ must Integer (codes "fee")
      ∷ must Integer (codes "fee_total")
      ∷ [];
  primary = 1 ∷ 2 ∷ [];
  uniques = (1 ∷ 2 ∷ []) ∷ [];
  orders = plain ∷ [];
  references =
      record {
        columns = 1 ∷ 2 ∷ [];
        parent = codes "part";
        parent_columns = [];
        on_delete = NoAction;
        on_update = NoAction;
        is_deferred = false;
      } ∷ [];
}

abbrev pub part_fee_key : Index
part_fee_key = key_index (codes "sqlite_autoindex_part_fee_1") 29 28 (1 ∷ 2 ∷ [])
