-- The table ending, which came with the second version. Its key is its rowid.
use Rattle.std.specs.Prelude.{refl, ℕ, List, [], ◌∷◌, codes, drop, true, pos, nat_eq}
use Rattle.sqlite_value.specs.declared.value.Value.TheVariants.{Int}
use Rattle.sqlite_value.specs.Order.{Row, column}
use Rattle.sqlite_tied.specs.Compute.{everything}
use Rattle.sqlite.specs.Listing.{understood}
use Rattle.dh_values.specs.declared.limits.TheConstants.{LEAST_LEASE_MONTHS, MOST_LEASE_MONTHS, MOST_NUMBER}
use Rattle.dh_types.specs.declared.lease.Ending.{Ending}
use Rattle.dh_rows.specs.EndingRows.{ending_in, ending_row, is_ending_row}
use Rattle.dh_types.specs.declared.version.Version.TheVariants.{Second}
use Rattle.dh_ddl.specs.Versions.{of_second}
use Rattle.dh_ddl.specs.EndingTable.{ending}
use Rattle.dh_sql.specs.CellTests.{Cell}
use Rattle.dh_sql.specs.Shape.{Shape}
use Rattle.dh_sql.proofs.Casting.{cast_int, pass_each, row_stays}
use Rattle.dh_tables.specs.declared.ending.EndingOf.{EndingOf}
use Rattle.dh_tables.specs.Cells.{is_number, number_from, pass_one, rowid_column, same_number}
use Rattle.dh_tables.specs.Commands.{Named, rowid_first}
use Rattle.dh_tables.specs.Listing.{IsListing, ListsRowids, ListsRows}
use Rattle.dh_tables.specs.Questions.{IsQuestion, IsSelected, Question, asking_by}
use Rattle.dh_tables.specs.Tables.{Adding, IsAdding, IsInsertOf, adding_to, own_rowid}

-- the key is the rowid, and its own column holds NULL
abbrev pub ending_columns : Row → Row
ending_columns row = column row 0 ∷ column row 2 ∷ []

abbrev pub ending_cells : List Cell
ending_cells = number_from 1 MOST_NUMBER ∷ number_from LEAST_LEASE_MONTHS MOST_LEASE_MONTHS ∷ []

abbrev pub ending_shape : Shape ℕ Ending
ending_shape = record { tree = 30; columns = ending_columns; is_row = is_ending_row; row_in = ending_in; key = λ e. e.lease }

-- its columns by their names
abbrev pub ending_named : Named
ending_named = rowid_first ending

-- ---- adding a row

abbrev pub ending_adding : Adding Ending
ending_adding = adding_to ending_named 16 ending (own_rowid ending_row)

pub ending_is_adding : IsAdding Second ending_shape ending_row is_ending_row ending_adding
unfolding understood everything
ending_is_adding = record {
  tree_is = refl;
  listed = refl;
  inserts = of_second (IsInsertOf ending_row ending_adding)
      (λ x. record { command = refl; plain = (refl, refl); listed = refl; is_uncounted = refl; value = refl });
  stays = λ x good.
      let cells = (pass_each ending_cells true (ending_row x) good).1 in
      row_stays (rowid_column ∷ drop 1 ending_cells) ending (Int (pos x.lease)) (drop 1 (ending_adding.source x))
      refl (cast_int (pos x.lease)) (refl, cells.1);
  columns = λ x rows. refl;
  keyed = λ x rows. refl;
}

-- ---- the whole table

pub ending_is_listing : IsListing Second 30 ending_columns ending_named
unfolding understood everything
ending_is_listing = record {
  selects = of_second (ListsRows 30 ending_named)
      (record { command = refl; unlisted = refl; plain = (refl, refl); stored = λ db. refl });
  shows_columns = λ r. refl;
  selects_rowid = of_second (ListsRowids 30 ending_named)
      (record { command = refl; unlisted = refl; plain = (refl, refl); stored = λ db. refl });
}

-- ---- the ending of a lease

abbrev pub ending_of : Question EndingOf Ending
ending_of = record {
  asking = asking_by ending_named (codes "lease_no" ∷ []) (0 ∷ []);
  given = λ q. Int (pos q.lease) ∷ [];
  asks = λ q e. nat_eq e.lease q.lease;
}

pub ending_of_is : IsQuestion Second ending_shape ending_of
unfolding understood everything
ending_of_is = record {
  selects = of_second (IsSelected 30 ending_of.asking)
      (record { command = refl; unlisted = refl; plain = (refl, refl); stored = λ db. refl });
  shows_columns = λ q r. refl;
  passes = λ q r known good.
      let cells = (pass_each ending_cells true (ending_columns r) good).1 in
      pass_one (same_number (column r 0) q.lease (is_number 1 MOST_NUMBER (column r 0) cells.0));
}
