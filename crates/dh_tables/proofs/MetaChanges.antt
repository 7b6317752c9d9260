-- What an INSERT into meta leaves, and what a SELECT of its rows shows.
use Rattle.std.proofs.Common.{◌≡◌, ◌∙◌, ap, subst, refl, true, ℕ, pos, List, [], ◌∷◌, map, IsPermutation, Option, Some, None, Result, Ok, Err, IfOk}
use Rattle.std.specs.Prelude.{Vec}
use Rattle.std.specs.declared.alloc.Global.{Global}
use Rattle.std.proofs.lemmas.List.Sorted.{IsPermutation-sym}
use Rattle.sqlite.specs.declared.error.Error.{Error}
use Rattle.sqlite.proofs.Callers.{one_permutation}
use Rattle.sqlite_value.specs.Order.{Row}
use Rattle.sqlite_rules.specs.Cast.{cast_row}
use Rattle.sqlite_rules.specs.Edit.{with_rowid}
use Rattle.sqlite_rules.specs.declared.error.Rowids.TheVariants.{Chosen}
use Rattle.sqlite_trees.specs.Tree.{put_row}
use Rattle.sqlite.specs.State.{Executes, Shown, State}
use Rattle.dh_rows.specs.Cells.{version_number}
use Rattle.dh_rows.specs.Months.{Months}
use Rattle.dh_rows.specs.MetaRows.{meta_row, is_meta_row}
use Rattle.dh_types.specs.declared.version.Version.TheVariants.{First}
use Rattle.dh_ddl.specs.Versions.{HasSince}
use Rattle.dh_ddl.specs.MetaTable.{meta}
use Rattle.dh_sql.proofs.Casting.{cast_int, cast_null}
use Rattle.dh_sql.proofs.Inserting.{inserts}
use Rattle.dh_sql.proofs.WholeTable.{shows_all}
use Rattle.dh_sql.proofs.Staying.{others_stay}
use Rattle.dh_tables.specs.Listing.{select_rows_text}
use Rattle.dh_tables.specs.Tables.{own_rowid}
use Rattle.dh_tables.specs.MetaTable.{AreFound, AreMonths, SetsMonths, meta_columns, meta_rows}
use Rattle.dh_tables.proofs.MetaTexts.{meta_inserts, meta_inserts_is, meta_named, meta_shown_is}
use Rattle.dh_tables.proofs.Quiet.{quiet}

-- as it is stored: the id is the rowid, and its own column holds NULL
abbrev stored : Months → Row
stored m = own_rowid meta_row m

cast_stored : (m : Months) → cast_row meta (stored m) ≡ stored m
cast_stored m = rw (cast_int (pos 1), cast_null, cast_int (pos (version_number m.version)), cast_int (pos m.first), cast_int (pos m.next)) refl

pub adds_meta : (old new : State) (m : Months) (count : ℕ) → HasSince First old.now.schema → old.now.trees 0 ≡ [] → is_meta_row (meta_row m) ≡ true
    → Executes meta_inserts (meta_row m) old new (Ok count) → SetsMonths m old new
adds_meta old new m count has empty good h =
    let it = inserts meta_inserts old.now.schema 0 meta meta_named.put 5 (meta_row m) (stored m ∷ []) (quiet old.now.schema has)
    (meta_inserts_is old.now.schema has m) old new count refl h in
    let row = ap (with_rowid Chosen (old.now.trees 0)) (cast_stored m) in
    let rows = it.1.rows_are ∙ ap (λ (r : Row). put_row r (old.now.trees 0)) row ∙ ap (put_row (stored m)) empty in
    record {
      schema_is = it.0;
      listed = it.2;
      months_are = record { rows_are = ap (map meta_columns) rows; grammar = good };
      others = others_stay old.now.schema 0 old.now.trees new.now.trees it.1.others;
    }

-- ---- the rows that are shown

pub all_shown : (r : Result (Vec Row Global) Error) (old new : State) → HasSince First old.now.schema
    → IfOk r (λ rows. Shown (select_rows_text meta_named) [] old new rows.items) → IfOk r (λ rows. IsPermutation (meta_rows old.now.trees) rows.items)
all_shown r old new has =
    shows_all (select_rows_text meta_named) old.now.schema 0 meta_named.shown meta_named.names (meta_shown_is old.now.schema has) meta_columns (λ row. refl)
    old new refl r

-- rows in another order have the same months
moved_months : (m : Months) (rows shown : List Row) → IsPermutation rows shown → AreMonths m rows → AreMonths m shown
moved_months m rows shown moved has = record {
  rows_are = one_permutation (meta_row m) shown (subst (λ all. IsPermutation all shown) has.rows_are moved);
  grammar = has.grammar;
}

moved_found : (found : Option Months) (rows shown : List Row) → IsPermutation rows shown → AreFound shown found → AreFound rows found
moved_found None rows shown moved h = λ m has. h m (moved_months m rows shown moved has)
moved_found (Some m) rows shown moved h = moved_months m shown rows (IsPermutation-sym rows shown moved) h

pub found_before : {E : Type 0} (r : Result (Option Months) E) (rows shown : List Row) → IsPermutation rows shown → IfOk r (AreFound shown)
    → IfOk r (AreFound rows)
found_before (Err e) rows shown moved h = tt
found_before (Ok found) rows shown moved h = moved_found found rows shown moved h
