-- What an UPDATE of the next month leaves, or of the version.
use Rattle.std.proofs.Common.{◌≡◌, ◌≤◌, ◌∙◌, ap, arith, subst, sym, inl, inr, refl, true, ℕ, zero, suc, pos, negsuc}
use Rattle.std.proofs.Common.{List, [], ◌∷◌, map, drop, Ok, Some}
use Rattle.std.specs.List.{AllByRecursion, IsDistinct}
use Rattle.std.specs.FinMap.{find, get, get-from_entries, insert}
use Rattle.std.specs.Ordering.{eq_by_cmp, nat_cmp}
use Rattle.std.proofs.lemmas.Bool.Decides.{nat_tests}
use Rattle.sqlite_value.specs.declared.value.Value.{Value}
use Rattle.sqlite_value.specs.declared.value.Value.TheVariants.{Null, Int, Real, Text, Blob}
use Rattle.sqlite_value.specs.Order.{Row, column}
use Rattle.sqlite_rules.specs.Lists.{Has}
use Rattle.sqlite_trees.specs.Tree.{Trees, rowid}
use Rattle.sqlite_trees.specs.View.{is_int}
use Rattle.sqlite.specs.State.{Executes, State}
use Rattle.dh_days.specs.declared.limits.TheConstants.{FIRST_MONTH, LAST_ENTRY_MONTH, LAST_NEXT_MONTH}
use Rattle.dh_model.proofs.KeyOrders.{nat_total, nat_ties}
use Rattle.dh_model.proofs.MapRows.{get_new}
use Rattle.dh_rows.specs.Cells.{is_number_cell, is_version_cell, number_in, version_back, version_in, version_number}
use Rattle.dh_rows.specs.Months.{Months}
use Rattle.dh_rows.specs.MetaRows.{meta_row, is_meta_row, months_back, months_in}
use Rattle.dh_types.specs.declared.version.Version.{Version}
use Rattle.dh_types.specs.declared.version.Version.TheVariants.{First, Second}
use Rattle.dh_ddl.specs.Versions.{HasSince}
use Rattle.dh_ddl.specs.MetaTable.{meta}
use Rattle.dh_sql.specs.CellTests.{AreCells, Cell}
use Rattle.dh_sql.specs.Changes.{Becomes, IsTurnedInto}
use Rattle.dh_sql.specs.Queries.{passes_all, shows}
use Rattle.sqlite_sql.specs.Term.{Term}
use Rattle.dh_sql.specs.Texts.{IsUpdateText}
use Rattle.dh_sql.specs.Shape.{AreApart, IsKept, IsStored, Shape, entry_in, rows_in, stored_in}
use Rattle.dh_sql.proofs.Casting.{cast_rowid, pass_all, pass_each, row_stays}
use Rattle.dh_sql.proofs.Changing.{amends}
use Rattle.dh_tables.specs.Cells.{in_range, is_number, number_from, pass_one, rowid_column, same_number}
use Rattle.dh_tables.specs.MetaTable.{AreMonths, HasMonths, SetsMonths, meta_columns}
use Rattle.dh_tables.proofs.MetaTexts.{meta_becomes, meta_tests, meta_updates, meta_updates_is, version_becomes, version_updates, version_updates_is}
use Rattle.dh_tables.proofs.Quiet.{quiet}

abbrev meta_cells : List Cell
meta_cells =
    number_from 1 1 ∷ number_from 1 2 ∷ number_from FIRST_MONTH LAST_ENTRY_MONTH ∷ number_from FIRST_MONTH LAST_NEXT_MONTH ∷ []

-- each row has the same key
abbrev meta_shape : Shape ℕ Months
meta_shape = record { tree = 0; columns = meta_columns; is_row = is_meta_row; row_in = months_in; key = λ _. 1 }

abbrev given : ℕ → Row
given next = Int (pos next) ∷ []

abbrev numbered : Version → Row
numbered version = Int (pos (version_number version)) ∷ []

exact_number : (n : ℕ) (v : Value) → is_number_cell n n v ≡ true → v ≡ Int (pos n)
exact_number n (Int (pos k)) h = let e : k ≡ n = grind (arith, nat_tests) in ap (λ (m : ℕ). Int (pos m)) e
exact_number n (Int (negsuc k)) h = cc
exact_number n Null h = cc
exact_number n (Real x) h = cc
exact_number n (Text t) h = cc
exact_number n (Blob b) h = cc

exact_version : (v : Value) → is_version_cell v ≡ true → v ≡ Int (pos (version_number (version_in v)))
exact_version (Int (pos zero)) h = cc
exact_version (Int (pos (suc zero))) h = refl
exact_version (Int (pos (suc (suc zero)))) h = refl
exact_version (Int (pos (suc (suc (suc k))))) h = absurd (grind (arith, nat_tests))
exact_version (Int (negsuc k)) h = cc
exact_version Null h = cc
exact_version (Real x) h = cc
exact_version (Text t) h = cc
exact_version (Blob b) h = cc

-- ---- a table that has its row

the_row : (m : Months) (rows : List Row) → map meta_columns rows ≡ meta_row m ∷ [] → (r : Row) × (rows ≡ r ∷ []) × (meta_columns r ≡ meta_row m)
the_row m [] h = cc
the_row m (r ∷ []) h = (r, refl, let e : meta_columns r ≡ meta_row m = cc in e)
the_row m (r ∷ s ∷ rows) h = cc

only_one : (r x : Row) → Has (r ∷ []) x → x ≡ r
only_one r x (inl e) = e
only_one r x (inr h) = absurd h

module _ (m : Months) (trees : Trees) (has : HasMonths m trees) (r : Row) (rows_is : trees 0 ≡ r ∷ []) (columns_are : meta_columns r ≡ meta_row m) where
  meta_kept : IsKept meta_shape nat_cmp trees
  unfolding IsDistinct
  meta_kept = record {
    values = subst (AllByRecursion (IsStored meta_shape)) (sym rows_is) (ap is_meta_row columns_are ∙ has.grammar, tt);
    rowids = subst (AllByRecursion (λ (r : Row). is_int (rowid r) ≡ true)) (sym rows_is) (ap (λ (row : Row). is_int (column row 0)) columns_are, tt);
    keys = subst (λ (rows : List Row). IsDistinct (eq_by_cmp nat_cmp) (map (λ (r : Row). 1) rows)) (sym rows_is) (tt, tt);
  }

  meta_apart : AreApart (trees 0)
  meta_apart = subst AreApart (sym rows_is) (λ x y hx hy e. only_one r x hx ∙ sym (only_one r y hy))

  meta_there : get (rows_in meta_shape {R = nat_cmp} trees) 1 ≡ Some m
  meta_there =
      get-from_entries nat_total (map (entry_in meta_shape) (trees 0)) 1
      ∙ ap (λ (rows : List Row). find nat_cmp 1 (map (entry_in meta_shape) rows)) rows_is ∙ ap (λ (row : Row). Some (months_in row)) columns_are
      ∙ ap Some (months_back m has.grammar)

-- ---- the text finds the row and turns it

meta_finds : (params : Row) (r : Row) → IsStored meta_shape r
    → (passes_all params meta_tests r ≡ true → ◌≡◌ {A = ℕ} 1 1) × (◌≡◌ {A = ℕ} 1 1 → passes_all params meta_tests r ≡ true)
meta_finds params r good =
    let cells = (pass_each meta_cells true (meta_columns r) good).1 in
    let one = ap number_in (exact_number 1 (column r 0) cells.0) in
    (λ _. refl, λ _. pass_one (rw one at (same_number (column r 0) 1 (is_number 1 1 (column r 0) cells.0))))

meta_turns : (next : ℕ) (m : Months) → FIRST_MONTH ≤ next → next ≤ LAST_NEXT_MONTH
    → (r : Row) → IsStored meta_shape r → is_int (rowid r) ≡ true
    → stored_in meta_shape r ≡ m → IsTurnedInto meta_shape meta r (drop 1 (shows meta_becomes (given next) r)) (record m { next = next })
meta_turns next m from to r good own is =
    let c = (pass_each meta_cells true (meta_columns r) good).1 in
    let rest : Row = column r 2 ∷ column r 3 ∷ Int (pos next) ∷ [] in
    let cells : AreCells (drop 1 meta_cells) rest = (c.1.0, (c.1.1.0, (in_range FIRST_MONTH LAST_NEXT_MONTH next from to, tt))) in
    record {
      stays = row_stays (rowid_column ∷ drop 1 meta_cells) meta (column r 0) (Null ∷ rest) refl (cast_rowid (column r 0) own) (refl, cells);
      rowid_is = refl;
      grammar = pass_all meta_cells true (column r 0 ∷ rest) refl (c.0, cells);
      record_is = ap (λ (z : Months). record z { next = next }) is;
    }

version_cell : (version : Version) → is_version_cell (Int (pos (version_number version))) ≡ true
version_cell First = in_range 1 2 1 (omega arith) (omega arith)
version_cell Second = in_range 1 2 2 (omega arith) (omega arith)

version_turns : (version : Version) (m : Months) (r : Row) → IsStored meta_shape r → is_int (rowid r) ≡ true
    → stored_in meta_shape r ≡ m
    → IsTurnedInto meta_shape meta r (drop 1 (shows version_becomes (numbered version) r)) (record m { version = version })
version_turns version m r good own is =
    let c = (pass_each meta_cells true (meta_columns r) good).1 in
    let rest : Row = Int (pos (version_number version)) ∷ column r 3 ∷ column r 4 ∷ [] in
    let cells : AreCells (drop 1 meta_cells) rest = (version_cell version, (c.1.1.0, (c.1.1.1.0, tt))) in
    record {
      stays = row_stays (rowid_column ∷ drop 1 meta_cells) meta (column r 0) (Null ∷ rest) refl (cast_rowid (column r 0) own) (refl, cells);
      rowid_is = refl;
      grammar = pass_all meta_cells true (column r 0 ∷ rest) refl (c.0, cells);
      record_is = λ i. record (is i) { version = version_back version i };
    }

-- ---- and there is still one row

whole : (r : Row) → IsStored meta_shape r → meta_columns r ≡ meta_row (stored_in meta_shape r)
whole r good =
    let c = (pass_each meta_cells true (meta_columns r) good).1 in
    let id = exact_number 1 (column r 0) c.0 in
    let version = exact_version (column r 2) c.1.0 in
    let first = is_number FIRST_MONTH LAST_ENTRY_MONTH (column r 3) c.1.1.0 in
    let next = is_number FIRST_MONTH LAST_NEXT_MONTH (column r 4) c.1.1.1.0 in
    λ i. id i ∷ version i ∷ first i ∷ next i ∷ []

months_there : (m : Months) (rows : List Row) → AllByRecursion (IsStored meta_shape) rows → IsDistinct (eq_by_cmp nat_cmp) (map (λ (r : Row). 1) rows)
    → find nat_cmp 1 (map (entry_in meta_shape) rows) ≡ Some m → AreMonths m (map meta_columns rows)
unfolding IsDistinct
months_there m [] all d h = cc
months_there m (r ∷ []) all d h =
    let is : stored_in meta_shape r ≡ m = cc in
    let columns = whole r all.0 ∙ ap meta_row is in
    record { rows_are = ap (λ (row : Row). row ∷ []) columns; grammar = sym (ap is_meta_row columns) ∙ all.0 }
months_there m (r ∷ s ∷ rows) all d h = let no = d.0.0 in absurd (cc)

-- a text that turns the row into that of these months
module _ (text : List ℕ) (becomes : List Term) (params : Row) (old new : State) (count : ℕ) (schema : HasSince First old.now.schema)
    (is : IsUpdateText text old.now.schema 0 meta meta_tests becomes) (stay : (r : Row) → rowid (shows becomes params r) ≡ rowid r)
    (m y : Months) (has : HasMonths m old.now.trees)
    (turns : (r : Row) → IsStored meta_shape r → is_int (rowid r) ≡ true → stored_in meta_shape r ≡ m
    → IsTurnedInto meta_shape meta r (drop 1 (shows becomes params r)) y)
  where
    sets : Executes text params old new (Ok count) → SetsMonths y old new
    sets ran =
        let row = the_row m (old.now.trees 0) has.rows_are in
        let r = row.0 in
        let was = old.now.trees in
        let now = new.now.trees in
        let done : Becomes meta_shape nat_cmp old.now.schema (insert (rows_in meta_shape was) 1 y) old new =
        amends nat_total nat_ties meta_shape text old.now.schema (quiet old.now.schema schema) 0 meta meta_tests becomes is refl old new params count 1 m y
        refl (meta_kept m was has r row.1 row.2) (meta_apart m was has r row.1 row.2) (meta_finds params) stay turns
        (meta_there m was has r row.1 row.2) refl ran in
        let found = sym (get-from_entries nat_total (map (entry_in meta_shape) (now 0)) 1) ∙ ap (λ n. get n 1) done.rows
        ∙ get_new nat_total nat_ties (rows_in meta_shape was) 1 y in
        record {
          schema_is = done.schema_is;
          listed = done.listed;
          months_are = months_there y (now 0) done.kept.values done.kept.keys found;
          others = done.others;
        }

pub sets_next : (old new : State) (next count : ℕ) → HasSince First old.now.schema → FIRST_MONTH ≤ next → next ≤ LAST_NEXT_MONTH
    → Executes meta_updates (given next) old new (Ok count) → (m : Months) → HasMonths m old.now.trees → SetsMonths (record m { next = next }) old new
sets_next old new next count schema from to ran m has =
    sets meta_updates meta_becomes (given next) old new count schema (meta_updates_is old.now.schema schema) (λ r. refl) m (record m { next = next }) has
    (meta_turns next m from to) ran

pub sets_version : (old new : State) (version : Version) (count : ℕ) → HasSince First old.now.schema
    → Executes version_updates (numbered version) old new (Ok count) → (m : Months) → HasMonths m old.now.trees
    → SetsMonths (record m { version = version }) old new
sets_version old new version count schema ran m has =
    sets version_updates version_becomes (numbered version) old new count schema (version_updates_is old.now.schema schema) (λ r. refl)
    m (record m { version = version }) has (version_turns version m) ran
