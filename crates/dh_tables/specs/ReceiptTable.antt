-- The table receipt, whose key is its rowid.
use Rattle.std.proofs.Common.{◌∙◌, inl, inr, subst, sym, true≢false}
use Rattle.std.proofs.lemmas.Bool.{cases_Bool}
use Rattle.std.proofs.lemmas.Slice.Eq.{bytes_eq-Decides}
use Rattle.std.specs.Prelude.{◌++◌, ◌&&◌, bytes_eq, is_some, unwrap_or, ◌≡◌, refl, ℕ, List, [], ◌∷◌, codes, drop, true, pos, nat_eq}
use Rattle.sqlite_value.specs.declared.value.Value.{Value}
use Rattle.sqlite_value.specs.declared.value.Value.TheVariants.{Blob, Int, Null, Real, Text}
use Rattle.sqlite_value.specs.declared.keys.Collation.TheVariants.{Binary}
use Rattle.sqlite_value.specs.Order.{Row, column}
use Rattle.sqlite_sql.specs.declared.ops.BinaryOp.TheVariants.{Compare}
use Rattle.sqlite_sql.specs.declared.ops.CompareOp.TheVariants.{Eq}
use Rattle.sqlite_sql.specs.Term.{lit, col, op2}
use Rattle.sqlite_schema.specs.Rules.{equal}
use Rattle.sqlite_tied.specs.Compute.{everything}
use Rattle.sqlite.specs.Listing.{understood}
use Rattle.dh_values.specs.Texts.{is_key}
use Rattle.dh_values.specs.declared.receipt_kind.ReceiptKind.TheVariants.{Deposit, Rent}
use Rattle.dh_values.specs.Kinds.{receipt_kind_of}
use Rattle.dh_values.specs.declared.limits.TheConstants.{MOST_AMOUNT, MOST_NUMBER}
use Rattle.dh_days.specs.Days.{day_of}
use Rattle.dh_types.specs.declared.lease.Receipt.{Receipt}
use Rattle.dh_types.specs.Records.{is_same_receipt_kind}
use Rattle.dh_model.specs.Checks.{is_same_text}
use Rattle.dh_rows.specs.ReceiptRows.{receipt_in, receipt_row, is_receipt_row}
use Rattle.dh_rows.specs.Cells.{is_read_cell, read_in}
use Rattle.dh_types.specs.declared.version.Version.TheVariants.{First}
use Rattle.dh_ddl.specs.Versions.{of_both}
use Rattle.dh_ddl.specs.ReceiptTable.{receipt}
use Rattle.dh_sql.specs.CellTests.{Cell}
use Rattle.dh_sql.specs.Shape.{Shape}
use Rattle.dh_sql.proofs.Casting.{cast_int, pass_each, row_stays}
use Rattle.dh_sql.proofs.Comparing.{texts_same}
use Rattle.dh_tables.specs.declared.receipt.DepositsOfLease.{DepositsOfLease}
use Rattle.dh_tables.specs.declared.receipt.ReceiptKeyed.{ReceiptKeyed}
use Rattle.dh_tables.specs.declared.receipt.ReceiptNumbered.{ReceiptNumbered}
use Rattle.dh_tables.specs.declared.receipt.ReceiptsOfLease.{ReceiptsOfLease}
use Rattle.dh_tables.specs.Cells.{is_number, is_text as text_is, number_from, pass_both, pass_one, read_as, rowid_column, same_number, same_text, text_that}
use Rattle.dh_tables.specs.Commands.{Named, rowid_first}
use Rattle.dh_tables.specs.Listing.{IsListing, ListsRowids, ListsRows}
use Rattle.dh_tables.specs.Questions.{IsQuestion, IsSelected, Question, asking_by}
use Rattle.dh_tables.specs.Tables.{Adding, IsAdding, IsInsertOf, adding_to, own_rowid}

-- the key is the rowid, and its own column holds NULL
abbrev pub receipt_columns : Row → Row
receipt_columns row = column row 0 ∷ column row 2 ∷ column row 3 ∷ column row 4 ∷ column row 5 ∷ column row 6 ∷ []

abbrev pub receipt_cells : List Cell
receipt_cells =
    number_from 1 MOST_NUMBER ∷ text_that is_key ∷ number_from 1 MOST_NUMBER ∷ read_as receipt_kind_of ∷ number_from 1 MOST_AMOUNT ∷ read_as day_of
    ∷ []

abbrev pub receipt_shape : Shape ℕ Receipt
receipt_shape = record { tree = 20; columns = receipt_columns; is_row = is_receipt_row; row_in = receipt_in; key = λ r. r.number }

-- its columns by their names
abbrev pub receipt_named : Named
receipt_named = rowid_first receipt

-- ---- adding a row

abbrev pub receipt_adding : Adding Receipt
receipt_adding = adding_to receipt_named 11 receipt (own_rowid receipt_row)

pub receipt_is_adding : IsAdding First receipt_shape receipt_row is_receipt_row receipt_adding
unfolding understood everything
receipt_is_adding = record {
  tree_is = refl;
  listed = refl;
  inserts = of_both (IsInsertOf receipt_row receipt_adding)
      (λ x. record { command = refl; plain = (refl, refl); listed = refl; is_uncounted = refl; value = refl })
      (λ x. record { command = refl; plain = (refl, refl); listed = refl; is_uncounted = refl; value = refl });
  stays = λ x good.
      let cells = (pass_each receipt_cells true (receipt_row x) good).1 in
      row_stays (rowid_column ∷ drop 1 receipt_cells) receipt (Int (pos x.number)) (drop 1 (receipt_adding.source x))
      refl (cast_int (pos x.number)) (refl, cells.1);
  columns = λ x rows. refl;
  keyed = λ x rows. refl;
}

-- ---- the whole table

pub receipt_is_listing : IsListing First 20 receipt_columns receipt_named
unfolding understood everything
receipt_is_listing = record {
  selects = of_both (ListsRows 20 receipt_named)
      (record { command = refl; unlisted = refl; plain = (refl, refl); stored = λ db. refl })
      (record { command = refl; unlisted = refl; plain = (refl, refl); stored = λ db. refl });
  shows_columns = λ r. refl;
  selects_rowid = of_both (ListsRowids 20 receipt_named)
      (record { command = refl; unlisted = refl; plain = (refl, refl); stored = λ db. refl })
      (record { command = refl; unlisted = refl; plain = (refl, refl); stored = λ db. refl });
}

-- ---- the receipt with a number

abbrev pub receipt_numbered : Question ReceiptNumbered Receipt
receipt_numbered = record {
  asking = asking_by receipt_named (codes "receipt_no" ∷ []) (0 ∷ []);
  given = λ q. Int (pos q.number) ∷ [];
  asks = λ q r. nat_eq r.number q.number;
}

pub receipt_numbered_is : IsQuestion First receipt_shape receipt_numbered
unfolding understood everything
receipt_numbered_is = record {
  selects = of_both (IsSelected 20 receipt_numbered.asking)
      (record { command = refl; unlisted = refl; plain = (refl, refl); stored = λ db. refl })
      (record { command = refl; unlisted = refl; plain = (refl, refl); stored = λ db. refl });
  shows_columns = λ q r. refl;
  passes = λ q r known good.
      let cells = (pass_each receipt_cells true (receipt_columns r) good).1 in
      pass_one (same_number (column r 0) q.number (is_number 1 MOST_NUMBER (column r 0) cells.0));
}

-- ---- the receipt with a request key

abbrev pub receipt_keyed : Question ReceiptKeyed Receipt
receipt_keyed = record {
  asking = asking_by receipt_named (codes "req_key" ∷ []) (2 ∷ []);
  given = λ q. Text q.key ∷ [];
  asks = λ q r. is_same_text r.key q.key;
}

pub receipt_keyed_is : IsQuestion First receipt_shape receipt_keyed
unfolding understood everything
receipt_keyed_is = record {
  selects = of_both (IsSelected 20 receipt_keyed.asking)
      (record { command = refl; unlisted = refl; plain = (refl, refl); stored = λ db. refl })
      (record { command = refl; unlisted = refl; plain = (refl, refl); stored = λ db. refl });
  shows_columns = λ q r. refl;
  passes = λ q r known good.
      let cells = (pass_each receipt_cells true (receipt_columns r) good).1 in
      pass_one (same_text (column r 2) q.key (text_is is_key (column r 2) cells.1.0));
}

-- ---- the receipts of a lease

abbrev pub receipts_of_lease : Question ReceiptsOfLease Receipt
receipts_of_lease = record {
  asking = asking_by receipt_named (codes "lease_no" ∷ []) (3 ∷ []);
  given = λ q. Int (pos q.lease) ∷ [];
  asks = λ q r. nat_eq r.payment.lease q.lease;
}

pub receipts_of_lease_is : IsQuestion First receipt_shape receipts_of_lease
unfolding understood everything
receipts_of_lease_is = record {
  selects = of_both (IsSelected 20 receipts_of_lease.asking)
      (record { command = refl; unlisted = refl; plain = (refl, refl); stored = λ db. refl })
      (record { command = refl; unlisted = refl; plain = (refl, refl); stored = λ db. refl });
  shows_columns = λ q r. refl;
  passes = λ q r known good.
      let cells = (pass_each receipt_cells true (receipt_columns r) good).1 in
      pass_one (same_number (column r 3) q.lease (is_number 1 MOST_NUMBER (column r 3) cells.1.1.0));
}

-- ---- the deposits of a lease

abbrev pub deposits_of_lease : Question DepositsOfLease Receipt
deposits_of_lease = record {
  asking = record {
    text = receipts_of_lease.asking.text ++ codes " AND kind = 'deposit'";
    tests = receipts_of_lease.asking.tests ++ op2 (Compare Eq Binary) (col 1 4) (lit (Text (codes "deposit"))) ∷ [];
    project = receipt_named.shown;
    names = receipt_named.names;
  };
  given = λ q. Int (pos q.lease) ∷ [];
  asks = λ q r. nat_eq r.payment.lease q.lease && is_same_receipt_kind r.payment.kind Deposit;
}

-- the name of a kind is that of the deposit where the kind is
named_deposit : (t : List ℕ) → is_some (receipt_kind_of t) ≡ true
    → is_same_text t (codes "deposit") ≡ is_same_receipt_kind (unwrap_or (receipt_kind_of t) Rent) Deposit
named_deposit t good = elim (cases_Bool (bytes_eq t (codes "rent"))) [
  | inl rent ↦ by_name (codes "rent") ((bytes_eq-Decides t (codes "rent")).0 rent) refl
  | inr other ↦ elim (cases_Bool (bytes_eq t (codes "deposit"))) [
    | inl deposit ↦ by_name (codes "deposit") ((bytes_eq-Decides t (codes "deposit")).0 deposit) refl
    | inr none ↦ absurd (true≢false (sym good ∙ rw (other, none) refl))
  ]
]
  where
    by_name : (name : List ℕ) → t ≡ name
        → is_same_text name (codes "deposit") ≡ is_same_receipt_kind (unwrap_or (receipt_kind_of name) Rent) Deposit
        → is_same_text t (codes "deposit") ≡ is_same_receipt_kind (unwrap_or (receipt_kind_of t) Rent) Deposit
    by_name name is h =
        subst (λ s. is_same_text s (codes "deposit") ≡ is_same_receipt_kind (unwrap_or (receipt_kind_of s) Rent) Deposit) (sym is) h

same_deposit : (v : Value) → is_read_cell receipt_kind_of v ≡ true
    → equal Binary v (Text (codes "deposit")) ≡ is_same_receipt_kind (read_in receipt_kind_of Rent v) Deposit
unfolding is_read_cell
same_deposit (Text t) good = texts_same t (codes "deposit") ∙ named_deposit t good
same_deposit Null good = cc
same_deposit (Int n) good = cc
same_deposit (Real x) good = cc
same_deposit (Blob b) good = cc

pub deposits_of_lease_is : IsQuestion First receipt_shape deposits_of_lease
unfolding understood everything
deposits_of_lease_is = record {
  selects = of_both (IsSelected 20 deposits_of_lease.asking)
      (record { command = refl; unlisted = refl; plain = (refl, refl); stored = λ db. refl })
      (record { command = refl; unlisted = refl; plain = (refl, refl); stored = λ db. refl });
  shows_columns = λ q r. refl;
  passes = λ q r known good.
      let cells = (pass_each receipt_cells true (receipt_columns r) good).1 in
      pass_both (same_number (column r 3) q.lease (is_number 1 MOST_NUMBER (column r 3) cells.1.1.0)) (same_deposit (column r 4) cells.1.1.1.0);
}
