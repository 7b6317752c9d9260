-- Where the books have the records of each kind.
use Rattle.std.specs.Prelude.{◌≡◌, refl}
use Rattle.std.specs.FinMap.{FinMap}
use Rattle.dh_model.specs.Books.{Books}
use Rattle.dh_model.specs.Kinds.{Branches, Kind, key_of, order_of, record_of, records_of, with_records}
use Rattle.dh_tables.specs.Tables.{Accessor}

pub records_with : (kind : Kind) (books : Books) (rows : FinMap (order_of kind) (record_of kind)) → records_of kind (with_records kind rows books) ≡ rows
records_with Branches books rows = refl
records_with kind books rows = refl

pub with_again : (kind : Kind) (books : Books) (rows others : FinMap (order_of kind) (record_of kind))
    → with_records kind others (with_records kind rows books) ≡ with_records kind others books
with_again Branches books rows others = refl
with_again kind books rows others = refl

pub with_own : (kind : Kind) (books : Books) → with_records kind (records_of kind books) books ≡ books
with_own Branches books = refl
with_own kind books = refl

abbrev pub accessor_of : (kind : Kind) → Accessor (key_of kind) (record_of kind) (order_of kind)
accessor_of kind = record {
  held = λ s. records_of kind s.books;
  with = λ s rows. record s { books = with_records kind rows s.books };
  held_with = λ s rows. records_with kind s.books rows;
  with_with = λ s rows others i. record s { books = with_again kind s.books rows others i };
  with_held = λ s i. record s { books = with_own kind s.books i };
}
