-- A property's manager, and its rent.
use Rattle.std.specs.Prelude.{◌≡◌, refl, ℕ, pos, true, List, [], ◌∷◌, Option, codes, IfSome}
use Rattle.std.proofs.Common.{ap}
use Rattle.sqlite_value.specs.declared.value.Value.TheVariants.{Int, Text}
use Rattle.sqlite_value.specs.Order.{Row, column}
use Rattle.sqlite_sql.specs.Term.{col}
use Rattle.sqlite_tied.specs.Compute.{everything}
use Rattle.sqlite.specs.Listing.{understood}
use Rattle.dh_values.specs.Texts.{is_id}
use Rattle.dh_values.specs.Money.{IsRent}
use Rattle.dh_values.specs.declared.limits.TheConstants.{MOST_RENT}
use Rattle.dh_types.specs.declared.property.Property.{Property}
use Rattle.dh_types.specs.declared.command.Assignment.{Assignment}
use Rattle.dh_types.specs.declared.command.RentChange.{RentChange}
use Rattle.dh_rows.specs.Cells.{optional_back, optional_text}
use Rattle.dh_types.specs.declared.version.Version.TheVariants.{First}
use Rattle.dh_ddl.specs.Versions.{of_both}
use Rattle.dh_ddl.specs.PropertyTable.{property}
use Rattle.dh_sql.specs.CellTests.{AreCells}
use Rattle.dh_sql.specs.Queries.{passes_all}
use Rattle.dh_sql.specs.Shape.{IsStored, stored_in}
use Rattle.dh_sql.proofs.Casting.{cast_rowid, pass_all, pass_each, row_stays}
use Rattle.dh_tables.specs.Amendments.{Amending, IsAmending, Updates}
use Rattle.dh_tables.specs.Cells.{in_range, is_text as text_is, optional_passes, pass_one, same_text, tells_text}
use Rattle.dh_tables.specs.PropertyTable.{property_cells, property_columns, property_numbered, property_shape}
use Rattle.dh_tables.specs.Commands.{update_text}

-- ---- UPDATE property SET staff_no = ?2 WHERE property_no = ?1

abbrev pub manager_amending : Amending Assignment
manager_amending = record {
  text = update_text (codes "property") (codes "property_no" ∷ []) (codes "staff_no" ∷ []);
  place = 4;
  table = property;
  tests = property_numbered.asking.tests;
  project =
      col 1 0 ∷ col 1 0 ∷ col 1 1 ∷ col 1 2 ∷ col 1 3 ∷ col 1 4 ∷ col 1 5 ∷ col 1 6 ∷ col 1 7 ∷ col 1 8 ∷ col 0 1 ∷ col 1 10 ∷ [];
  given = λ q. Text q.property ∷ optional_text q.staff ∷ [];
}

-- the row of the number, whatever else is given
finds : (number : List ℕ) (more r : Row) → IsStored property_shape r
    → (passes_all (Text number ∷ more) property_numbered.asking.tests r ≡ true → (stored_in property_shape r).number ≡ number)
    × ((stored_in property_shape r).number ≡ number → passes_all (Text number ∷ more) property_numbered.asking.tests r ≡ true)
finds number more r good =
    let cells = (pass_each property_cells true (property_columns r) good).1 in
    tells_text (stored_in property_shape r).number number (pass_one (same_text (column r 1) number (text_is is_id (column r 1) cells.0)))

pub manager_is : IsAmending First property_shape manager_amending (λ q. IfSome q.staff (λ id. is_id id ≡ true)) (λ q. q.property)
    (λ q p. record p { staff = q.staff })
unfolding understood everything
manager_is = record {
  means = of_both (Updates manager_amending)
      (record { command = refl; plain = (refl, refl); listed = refl; stored = λ db. refl })
      (record { command = refl; plain = (refl, refl); listed = refl; stored = λ db. refl });
  tree_is = refl;
  finds = λ q r good. finds q.property (optional_text q.staff ∷ []) r good;
  keeps_rowid = λ q r. refl;
  turns = λ q r known good own.
      let c = (pass_each property_cells true (property_columns r) good).1 in
      let new : Row =
      column r 1 ∷ column r 2 ∷ column r 3 ∷ column r 4 ∷ column r 5 ∷ column r 6 ∷ column r 7 ∷ column r 8
      ∷ optional_text q.staff ∷ column r 10 ∷ [] in
      let front = c.1.1.1.1 in
      let cells : AreCells property_cells new = (
        c.0,
        (
          c.1.0,
          (
            c.1.1.0,
            (
              c.1.1.1.0,
              (front.0, (front.1.0, (front.1.1.0, (front.1.1.1.0, (optional_passes is_id q.staff known, (front.1.1.1.1.1.0, tt)))))),
            ),
          ),
        ),
      ) in
      record {
        stays = row_stays property_cells property (column r 0) new refl (cast_rowid (column r 0) own) cells;
        rowid_is = refl;
        grammar = pass_all property_cells true new refl cells;
        record_is = ap (λ (staff : Option (List ℕ)). let p : Property = record (stored_in property_shape r) { staff = staff } in p) (optional_back q.staff);
      };
  keeps_key = λ q x. refl;
}

-- ---- UPDATE property SET rent = ?2 WHERE property_no = ?1

abbrev pub rent_amending : Amending RentChange
rent_amending = record {
  text = update_text (codes "property") (codes "property_no" ∷ []) (codes "rent" ∷ []);
  place = 4;
  table = property;
  tests = property_numbered.asking.tests;
  project =
      col 1 0 ∷ col 1 0 ∷ col 1 1 ∷ col 1 2 ∷ col 1 3 ∷ col 1 4 ∷ col 1 5 ∷ col 1 6 ∷ col 0 1 ∷ col 1 8 ∷ col 1 9 ∷ col 1 10 ∷ [];
  given = λ q. Text q.property ∷ Int (pos q.rent) ∷ [];
}

pub rent_is : IsAmending First property_shape rent_amending (λ q. IsRent q.rent) (λ q. q.property) (λ q p. record p { rent = q.rent })
unfolding understood everything
rent_is = record {
  means = of_both (Updates rent_amending)
      (record { command = refl; plain = (refl, refl); listed = refl; stored = λ db. refl })
      (record { command = refl; plain = (refl, refl); listed = refl; stored = λ db. refl });
  tree_is = refl;
  finds = λ q r good. finds q.property (Int (pos q.rent) ∷ []) r good;
  keeps_rowid = λ q r. refl;
  turns = λ q r known good own.
      let c = (pass_each property_cells true (property_columns r) good).1 in
      let new : Row =
      column r 1 ∷ column r 2 ∷ column r 3 ∷ column r 4 ∷ column r 5 ∷ column r 6 ∷ Int (pos q.rent) ∷ column r 8
      ∷ column r 9 ∷ column r 10 ∷ [] in
      let front = c.1.1.1.1 in
      let cells : AreCells property_cells new =
      (c.0, (c.1.0, (c.1.1.0, (c.1.1.1.0, (front.0, (front.1.0, (in_range 1 MOST_RENT q.rent known.0 known.1, front.1.1.1))))))) in
      record {
        stays = row_stays property_cells property (column r 0) new refl (cast_rowid (column r 0) own) cells;
        rowid_is = refl;
        grammar = pass_all property_cells true new refl cells;
        record_is = refl;
      };
  keeps_key = λ q x. refl;
}
