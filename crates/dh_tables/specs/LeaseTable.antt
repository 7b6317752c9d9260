-- The table lease, whose key is its rowid.
use Rattle.std.specs.Prelude.{refl, ℕ, List, [], ◌∷◌, codes, drop, true, pos, nat_eq, ◌&&◌}
use Rattle.sqlite_value.specs.declared.value.Value.TheVariants.{Int, Text}
use Rattle.sqlite_value.specs.Order.{Row, column}
use Rattle.sqlite_tied.specs.Compute.{everything}
use Rattle.sqlite.specs.Listing.{understood}
use Rattle.dh_values.specs.Texts.{is_id}
use Rattle.dh_values.specs.Kinds.{payment_method_of}
use Rattle.dh_values.specs.declared.limits.TheConstants.{LEAST_LEASE_MONTHS, MOST_LEASE_MONTHS, MOST_NUMBER, MOST_RENT}
use Rattle.dh_days.specs.Days.{IsEntryDay, day_of, day_text}
use Rattle.dh_types.specs.declared.lease.Lease.{Lease}
use Rattle.dh_model.specs.Checks.{is_same_text}
use Rattle.dh_rows.specs.LeaseRows.{lease_in, lease_row, is_lease_row}
use Rattle.dh_types.specs.declared.version.Version.TheVariants.{First}
use Rattle.dh_ddl.specs.Versions.{of_both}
use Rattle.dh_ddl.specs.LeaseTable.{lease}
use Rattle.dh_sql.specs.CellTests.{Cell}
use Rattle.dh_sql.specs.Shape.{Shape}
use Rattle.dh_sql.proofs.Casting.{cast_int, pass_each, row_stays}
use Rattle.dh_tables.specs.declared.lease.LeaseNumbered.{LeaseNumbered}
use Rattle.dh_tables.specs.declared.lease.LeasesOfProperty.{LeasesOfProperty}
use Rattle.dh_tables.specs.declared.lease.LeasesOfClientFrom.{LeasesOfClientFrom}
use Rattle.dh_tables.specs.Cells.{is_number, is_text as text_is, number_from, pass_both, pass_one}
use Rattle.dh_tables.specs.Cells.{read_as, rowid_column, same_day, same_number, same_text, text_that}
use Rattle.dh_tables.specs.Commands.{Named, rowid_first}
use Rattle.dh_tables.specs.Listing.{IsListing, ListsRowids, ListsRows}
use Rattle.dh_tables.specs.Questions.{Asking, IsAsking, IsQuestion, IsSelected, Question, asking_by}
use Rattle.dh_tables.specs.Tables.{Adding, IsAdding, IsInsertOf, adding_to, own_rowid}

-- the key is the rowid, and its own column holds NULL
abbrev pub lease_columns : Row → Row
lease_columns row = column row 0 ∷ column row 2 ∷ column row 3 ∷ column row 4 ∷ column row 5 ∷ column row 6 ∷ column row 7 ∷ []

abbrev pub lease_cells : List Cell
lease_cells =
    number_from 1 MOST_NUMBER ∷ text_that is_id ∷ text_that is_id ∷ read_as day_of ∷ number_from LEAST_LEASE_MONTHS MOST_LEASE_MONTHS
    ∷ read_as payment_method_of ∷ number_from 1 MOST_RENT ∷ []

abbrev pub lease_shape : Shape ℕ Lease
lease_shape = record { tree = 17; columns = lease_columns; is_row = is_lease_row; row_in = lease_in; key = λ l. l.terms.number }

-- its columns by their names
abbrev pub lease_named : Named
lease_named = rowid_first lease

-- ---- adding a row

abbrev pub lease_adding : Adding Lease
lease_adding = adding_to lease_named 9 lease (own_rowid lease_row)

pub lease_is_adding : IsAdding First lease_shape lease_row is_lease_row lease_adding
unfolding understood everything
lease_is_adding = record {
  tree_is = refl;
  listed = refl;
  inserts = of_both (IsInsertOf lease_row lease_adding)
      (λ x. record { command = refl; plain = (refl, refl); listed = refl; is_uncounted = refl; value = refl })
      (λ x. record { command = refl; plain = (refl, refl); listed = refl; is_uncounted = refl; value = refl });
  stays = λ x good.
      let cells = (pass_each lease_cells true (lease_row x) good).1 in
      row_stays (rowid_column ∷ drop 1 lease_cells) lease (Int (pos x.terms.number)) (drop 1 (lease_adding.source x))
      refl (cast_int (pos x.terms.number)) (refl, cells.1);
  columns = λ x rows. refl;
  keyed = λ x rows. refl;
}

-- ---- the whole table

pub lease_is_listing : IsListing First 17 lease_columns lease_named
unfolding understood everything
lease_is_listing = record {
  selects = of_both (ListsRows 17 lease_named)
      (record { command = refl; unlisted = refl; plain = (refl, refl); stored = λ db. refl })
      (record { command = refl; unlisted = refl; plain = (refl, refl); stored = λ db. refl });
  shows_columns = λ r. refl;
  selects_rowid = of_both (ListsRowids 17 lease_named)
      (record { command = refl; unlisted = refl; plain = (refl, refl); stored = λ db. refl })
      (record { command = refl; unlisted = refl; plain = (refl, refl); stored = λ db. refl });
}

-- ---- the lease with a number

abbrev pub lease_numbered : Question LeaseNumbered Lease
lease_numbered = record {
  asking = asking_by lease_named (codes "lease_no" ∷ []) (0 ∷ []);
  given = λ q. Int (pos q.number) ∷ [];
  asks = λ q l. nat_eq l.terms.number q.number;
}

pub lease_numbered_is : IsQuestion First lease_shape lease_numbered
unfolding understood everything
lease_numbered_is = record {
  selects = of_both (IsSelected 17 lease_numbered.asking)
      (record { command = refl; unlisted = refl; plain = (refl, refl); stored = λ db. refl })
      (record { command = refl; unlisted = refl; plain = (refl, refl); stored = λ db. refl });
  shows_columns = λ q r. refl;
  passes = λ q r known good.
      let cells = (pass_each lease_cells true (lease_columns r) good).1 in
      pass_one (same_number (column r 0) q.number (is_number 1 MOST_NUMBER (column r 0) cells.0));
}

-- ---- the leases of a property

abbrev pub leases_of_property : Question LeasesOfProperty Lease
leases_of_property = record {
  asking = asking_by lease_named (codes "property_no" ∷ []) (3 ∷ []);
  given = λ q. Text q.property ∷ [];
  asks = λ q l. is_same_text l.terms.property q.property;
}

pub leases_of_property_is : IsQuestion First lease_shape leases_of_property
unfolding understood everything
leases_of_property_is = record {
  selects = of_both (IsSelected 17 leases_of_property.asking)
      (record { command = refl; unlisted = refl; plain = (refl, refl); stored = λ db. refl })
      (record { command = refl; unlisted = refl; plain = (refl, refl); stored = λ db. refl });
  shows_columns = λ q r. refl;
  passes = λ q r known good.
      let cells = (pass_each lease_cells true (lease_columns r) good).1 in
      pass_one (same_text (column r 3) q.property (text_is is_id (column r 3) cells.1.1.0));
}

-- ---- the leases of a client that begin on a day

abbrev pub leases_of_client_from : Asking
leases_of_client_from = asking_by lease_named (codes "client_no" ∷ codes "start_day" ∷ []) (2 ∷ 4 ∷ [])

pub leases_of_client_from_is : IsAsking First lease_shape leases_of_client_from
    (λ (q : LeasesOfClientFrom). IsEntryDay q.start) (λ q. Text q.client ∷ Text (day_text q.start) ∷ [])
    (λ q l. is_same_text l.terms.client q.client && nat_eq l.terms.start q.start)
unfolding understood everything
leases_of_client_from_is = record {
  selects = of_both (IsSelected 17 leases_of_client_from)
      (record { command = refl; unlisted = refl; plain = (refl, refl); stored = λ db. refl })
      (record { command = refl; unlisted = refl; plain = (refl, refl); stored = λ db. refl });
  shows_columns = λ q r. refl;
  passes = λ q r known good.
      let cells = (pass_each lease_cells true (lease_columns r) good).1 in
      pass_both (same_text (column r 2) q.client (text_is is_id (column r 2) cells.1.0))
      (same_day (column r 4) q.start known cells.1.1.1.0);
}
