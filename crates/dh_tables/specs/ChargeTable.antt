-- The table charge.
use Rattle.std.specs.Prelude.{refl, ℕ, List, [], ◌∷◌, ◌&&◌, codes, true, pos, nat_eq}
use Rattle.sqlite_value.specs.declared.value.Value.TheVariants.{Int, Null}
use Rattle.sqlite_value.specs.Order.{Row, column}
use Rattle.sqlite_tied.specs.Compute.{everything}
use Rattle.sqlite.specs.Listing.{understood}
use Rattle.dh_values.specs.declared.limits.TheConstants.{MOST_CHARGE_INDEX, MOST_NUMBER, MOST_RENT}
use Rattle.dh_days.specs.declared.limits.TheConstants.{FIRST_MONTH, LAST_ENTRY_MONTH}
use Rattle.dh_days.specs.Days.{due_day_of}
use Rattle.dh_types.specs.declared.lease.Charge.{Charge}
use Rattle.dh_rows.specs.ChargeRows.{charge_in, charge_row, is_charge_row}
use Rattle.dh_types.specs.declared.version.Version.TheVariants.{First}
use Rattle.dh_ddl.specs.Versions.{HasSince, of_both}
use Rattle.dh_ddl.specs.ChargeTable.{charge}
use Rattle.dh_sql.specs.CellTests.{Cell}
use Rattle.dh_sql.specs.Shape.{Shape}
use Rattle.dh_sql.proofs.Casting.{cast_null, pass_each, row_stays}
use Rattle.dh_sql.proofs.Lists.{of_ten}
use Rattle.sqlite_schema.specs.declared.schema.Schema.{Schema}
use Rattle.dh_tables.specs.declared.bulk.TheConstants.{BULK}
use Rattle.dh_tables.specs.declared.charge.ChargeOf.{ChargeOf}
use Rattle.dh_tables.specs.declared.charge.ChargesOfLease.{ChargesOfLease}
use Rattle.dh_tables.specs.Cells.{is_number, number_from, pass_both, pass_one, read_as, same_number}
use Rattle.dh_tables.specs.Commands.{Named, rowid_apart}
use Rattle.dh_tables.specs.Listing.{IsListing, ListsRowids, ListsRows}
use Rattle.dh_tables.specs.Questions.{IsQuestion, IsSelected, Question, asking_by}
use Rattle.dh_tables.specs.Tables.{Adding, IsAdding, IsInsertOf, IsInsertOfEach, adding_to, without_rowid}

abbrev pub charge_columns : Row → Row
charge_columns row = column row 1 ∷ column row 2 ∷ column row 3 ∷ column row 4 ∷ column row 5 ∷ []

abbrev pub charge_cells : List Cell
charge_cells =
    number_from 1 MOST_NUMBER ∷ number_from 0 MOST_CHARGE_INDEX ∷ number_from FIRST_MONTH LAST_ENTRY_MONTH ∷ read_as due_day_of
    ∷ number_from 1 MOST_RENT ∷ []

abbrev pub charge_shape : Shape (ℕ × ℕ) Charge
charge_shape = record { tree = 18; columns = charge_columns; is_row = is_charge_row; row_in = charge_in; key = λ c. (c.lease, c.index) }

-- its columns by their names
abbrev pub charge_named : Named
charge_named = rowid_apart charge

-- ---- adding a row

abbrev pub charge_adding : Adding Charge
charge_adding = adding_to charge_named 10 charge (without_rowid charge_row)

pub charge_is_adding : IsAdding First charge_shape charge_row is_charge_row charge_adding
unfolding understood everything
charge_is_adding = record {
  tree_is = refl;
  listed = refl;
  inserts = of_both (IsInsertOf charge_row charge_adding)
      (λ x. record { command = refl; plain = (refl, refl); listed = refl; is_uncounted = refl; value = refl })
      (λ x. record { command = refl; plain = (refl, refl); listed = refl; is_uncounted = refl; value = refl });
  stays = λ x good. row_stays charge_cells charge Null (charge_row x) refl cast_null (pass_each charge_cells true (charge_row x) good).1;
  columns = λ x rows. refl;
  keyed = λ x rows. refl;
}

-- ten rows by one text
pub charge_adds_bulk : (s : Schema) → HasSince First s → IsInsertOfEach BULK charge_row charge_adding charge_named s
unfolding understood everything
charge_adds_bulk = of_both (IsInsertOfEach BULK charge_row charge_adding charge_named)
    (of_ten _ (λ a b c d e f g h i j. record { command = refl; plain = (refl, refl); listed = refl; is_uncounted = refl; value = refl }))
    (of_ten _ (λ a b c d e f g h i j. record { command = refl; plain = (refl, refl); listed = refl; is_uncounted = refl; value = refl }))

-- ---- the whole table

pub charge_is_listing : IsListing First 18 charge_columns charge_named
unfolding understood everything
charge_is_listing = record {
  selects = of_both (ListsRows 18 charge_named)
      (record { command = refl; unlisted = refl; plain = (refl, refl); stored = λ db. refl })
      (record { command = refl; unlisted = refl; plain = (refl, refl); stored = λ db. refl });
  shows_columns = λ r. refl;
  selects_rowid = of_both (ListsRowids 18 charge_named)
      (record { command = refl; unlisted = refl; plain = (refl, refl); stored = λ db. refl })
      (record { command = refl; unlisted = refl; plain = (refl, refl); stored = λ db. refl });
}

-- ---- the charge of a lease with an index

abbrev pub charge_of : Question ChargeOf Charge
charge_of = record {
  asking = asking_by charge_named (codes "lease_no" ∷ codes "k" ∷ []) (1 ∷ 2 ∷ []);
  given = λ q. Int (pos q.lease) ∷ Int (pos q.index) ∷ [];
  asks = λ q c. nat_eq c.lease q.lease && nat_eq c.index q.index;
}

pub charge_of_is : IsQuestion First charge_shape charge_of
unfolding understood everything
charge_of_is = record {
  selects = of_both (IsSelected 18 charge_of.asking)
      (record { command = refl; unlisted = refl; plain = (refl, refl); stored = λ db. refl })
      (record { command = refl; unlisted = refl; plain = (refl, refl); stored = λ db. refl });
  shows_columns = λ q r. refl;
  passes = λ q r known good.
      let cells = (pass_each charge_cells true (charge_columns r) good).1 in
      pass_both (same_number (column r 1) q.lease (is_number 1 MOST_NUMBER (column r 1) cells.0))
      (same_number (column r 2) q.index (is_number 0 MOST_CHARGE_INDEX (column r 2) cells.1.0));
}

-- ---- the charges of a lease

abbrev pub charges_of_lease : Question ChargesOfLease Charge
charges_of_lease = record {
  asking = asking_by charge_named (codes "lease_no" ∷ []) (1 ∷ []);
  given = λ q. Int (pos q.lease) ∷ [];
  asks = λ q c. nat_eq c.lease q.lease;
}

pub charges_of_lease_is : IsQuestion First charge_shape charges_of_lease
unfolding understood everything
charges_of_lease_is = record {
  selects = of_both (IsSelected 18 charges_of_lease.asking)
      (record { command = refl; unlisted = refl; plain = (refl, refl); stored = λ db. refl })
      (record { command = refl; unlisted = refl; plain = (refl, refl); stored = λ db. refl });
  shows_columns = λ q r. refl;
  passes = λ q r known good.
      let cells = (pass_each charge_cells true (charge_columns r) good).1 in
      pass_one (same_number (column r 1) q.lease (is_number 1 MOST_NUMBER (column r 1) cells.0));
}
