-- The table run, whose key is its rowid.
use Rattle.std.specs.Prelude.{refl, ℕ, List, [], ◌∷◌, codes, drop, true, pos, nat_eq}
use Rattle.sqlite_value.specs.declared.value.Value.TheVariants.{Int, Text}
use Rattle.sqlite_value.specs.Order.{Row, column}
use Rattle.sqlite_tied.specs.Compute.{everything}
use Rattle.sqlite.specs.Listing.{understood}
use Rattle.dh_values.specs.Texts.{is_key}
use Rattle.dh_values.specs.declared.limits.TheConstants.{MOST_PENCE}
use Rattle.dh_days.specs.declared.limits.TheConstants.{FIRST_MONTH, LAST_ENTRY_MONTH}
use Rattle.dh_types.specs.declared.run.Run.{Run}
use Rattle.dh_model.specs.Checks.{is_same_text}
use Rattle.dh_rows.specs.declared.limits.TheConstants.{MOST_COUNT}
use Rattle.dh_rows.specs.RunRows.{run_in, run_row, is_run_row}
use Rattle.dh_types.specs.declared.version.Version.TheVariants.{First}
use Rattle.dh_ddl.specs.Versions.{of_both}
use Rattle.dh_ddl.specs.RunTable.{run}
use Rattle.dh_sql.specs.CellTests.{Cell}
use Rattle.dh_sql.specs.Shape.{Shape}
use Rattle.dh_sql.proofs.Casting.{cast_int, pass_each, row_stays}
use Rattle.dh_tables.specs.declared.run.RunOf.{RunOf}
use Rattle.dh_tables.specs.declared.run.RunKeyed.{RunKeyed}
use Rattle.dh_tables.specs.Cells.{is_number, is_text as text_is, number_from, pass_one, rowid_column, same_number, same_text, text_that}
use Rattle.dh_tables.specs.Commands.{Named, rowid_first}
use Rattle.dh_tables.specs.Listing.{IsListing, ListsRowids, ListsRows}
use Rattle.dh_tables.specs.Questions.{IsQuestion, IsSelected, Question, asking_by}
use Rattle.dh_tables.specs.Tables.{Adding, IsAdding, IsInsertOf, adding_to, own_rowid}

-- the key is the rowid, and its own column holds NULL
abbrev pub run_columns : Row → Row
run_columns row = column row 0 ∷ column row 2 ∷ column row 3 ∷ column row 4 ∷ column row 5 ∷ []

abbrev pub run_cells : List Cell
run_cells = number_from FIRST_MONTH LAST_ENTRY_MONTH ∷ text_that is_key ∷ number_from 0 MOST_COUNT ∷ number_from 0 MOST_PENCE ∷ number_from 0 1 ∷ []

abbrev pub run_shape : Shape ℕ Run
run_shape = record { tree = 22; columns = run_columns; is_row = is_run_row; row_in = run_in; key = λ r. r.month }

-- its columns by their names
abbrev pub run_named : Named
run_named = rowid_first run

-- ---- adding a row

abbrev pub run_adding : Adding Run
run_adding = adding_to run_named 12 run (own_rowid run_row)

pub run_is_adding : IsAdding First run_shape run_row is_run_row run_adding
unfolding understood everything
run_is_adding = record {
  tree_is = refl;
  listed = refl;
  inserts = of_both (IsInsertOf run_row run_adding)
      (λ x. record { command = refl; plain = (refl, refl); listed = refl; is_uncounted = refl; value = refl })
      (λ x. record { command = refl; plain = (refl, refl); listed = refl; is_uncounted = refl; value = refl });
  stays = λ x good.
      let cells = (pass_each run_cells true (run_row x) good).1 in
      row_stays (rowid_column ∷ drop 1 run_cells) run (Int (pos x.month)) (drop 1 (run_adding.source x)) refl (cast_int (pos x.month)) (refl, cells.1);
  columns = λ x rows. refl;
  keyed = λ x rows. refl;
}

-- ---- the whole table

pub run_is_listing : IsListing First 22 run_columns run_named
unfolding understood everything
run_is_listing = record {
  selects = of_both (ListsRows 22 run_named)
      (record { command = refl; unlisted = refl; plain = (refl, refl); stored = λ db. refl })
      (record { command = refl; unlisted = refl; plain = (refl, refl); stored = λ db. refl });
  shows_columns = λ r. refl;
  selects_rowid = of_both (ListsRowids 22 run_named)
      (record { command = refl; unlisted = refl; plain = (refl, refl); stored = λ db. refl })
      (record { command = refl; unlisted = refl; plain = (refl, refl); stored = λ db. refl });
}

-- ---- the run of a month

abbrev pub run_of : Question RunOf Run
run_of = record {
  asking = asking_by run_named (codes "month" ∷ []) (0 ∷ []);
  given = λ q. Int (pos q.month) ∷ [];
  asks = λ q r. nat_eq r.month q.month;
}

pub run_of_is : IsQuestion First run_shape run_of
unfolding understood everything
run_of_is = record {
  selects = of_both (IsSelected 22 run_of.asking)
      (record { command = refl; unlisted = refl; plain = (refl, refl); stored = λ db. refl })
      (record { command = refl; unlisted = refl; plain = (refl, refl); stored = λ db. refl });
  shows_columns = λ q r. refl;
  passes = λ q r known good.
      let cells = (pass_each run_cells true (run_columns r) good).1 in
      pass_one (same_number (column r 0) q.month (is_number FIRST_MONTH LAST_ENTRY_MONTH (column r 0) cells.0));
}

-- ---- the run with a request key

abbrev pub run_keyed : Question RunKeyed Run
run_keyed = record {
  asking = asking_by run_named (codes "req_key" ∷ []) (2 ∷ []);
  given = λ q. Text q.key ∷ [];
  asks = λ q r. is_same_text r.key q.key;
}

pub run_keyed_is : IsQuestion First run_shape run_keyed
unfolding understood everything
run_keyed_is = record {
  selects = of_both (IsSelected 22 run_keyed.asking)
      (record { command = refl; unlisted = refl; plain = (refl, refl); stored = λ db. refl })
      (record { command = refl; unlisted = refl; plain = (refl, refl); stored = λ db. refl });
  shows_columns = λ q r. refl;
  passes = λ q r known good.
      let cells = (pass_each run_cells true (run_columns r) good).1 in
      pass_one (same_text (column r 2) q.key (text_is is_key (column r 2) cells.1.0));
}
