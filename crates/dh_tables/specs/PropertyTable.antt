-- The table property.
use Rattle.std.specs.Prelude.{refl, ℕ, List, [], ◌∷◌, codes, true, Some}
use Rattle.sqlite_value.specs.declared.value.Value.TheVariants.{Null, Text}
use Rattle.sqlite_value.specs.Order.{Row, column}
use Rattle.sqlite_tied.specs.Compute.{everything}
use Rattle.sqlite.specs.Listing.{understood}
use Rattle.dh_values.specs.Texts.{is_id, is_text}
use Rattle.dh_values.specs.Kinds.{property_type_of}
use Rattle.dh_values.specs.declared.limits.TheConstants.{MOST_RENT, MOST_ROOMS}
use Rattle.dh_types.specs.declared.property.Property.{Property}
use Rattle.dh_types.specs.Records.{is_same_optional}
use Rattle.dh_model.specs.Checks.{is_same_text}
use Rattle.dh_rows.specs.PropertyRows.{property_in, property_row, is_property_row}
use Rattle.dh_types.specs.declared.version.Version.TheVariants.{First}
use Rattle.dh_ddl.specs.Versions.{of_both}
use Rattle.dh_ddl.specs.PropertyTable.{property}
use Rattle.dh_sql.specs.CellTests.{Cell}
use Rattle.dh_sql.specs.Shape.{Shape}
use Rattle.dh_sql.proofs.Casting.{cast_null, pass_each, row_stays}
use Rattle.dh_tables.specs.declared.property.PropertyNumbered.{PropertyNumbered}
use Rattle.dh_tables.specs.declared.property.PropertiesManaged.{PropertiesManaged}
use Rattle.dh_tables.specs.declared.property.PropertiesOfBranch.{PropertiesOfBranch}
use Rattle.dh_tables.specs.declared.property.PropertiesOfOwner.{PropertiesOfOwner}
use Rattle.dh_tables.specs.Cells.{is_text as text_is, number_from, optional_text_that, pass_one, read_as, same_optional, same_text, text_that}
use Rattle.dh_tables.specs.Commands.{Named, rowid_apart}
use Rattle.dh_tables.specs.Listing.{IsListing, ListsRowids, ListsRows}
use Rattle.dh_tables.specs.Questions.{IsQuestion, IsSelected, Question, asking_by}
use Rattle.dh_tables.specs.Tables.{Adding, IsAdding, IsInsertOf, adding_to, without_rowid}

abbrev pub property_columns : Row → Row
property_columns row =
    column row 1 ∷ column row 2 ∷ column row 3 ∷ column row 4 ∷ column row 5 ∷ column row 6 ∷ column row 7 ∷ column row 8 ∷ column row 9
    ∷ column row 10 ∷ []

abbrev pub property_cells : List Cell
property_cells =
    text_that is_id ∷ text_that (is_text 60) ∷ text_that (is_text 60) ∷ text_that (is_text 60) ∷ read_as property_type_of
    ∷ number_from 1 MOST_ROOMS ∷ number_from 1 MOST_RENT ∷ text_that is_id ∷ optional_text_that is_id ∷ text_that is_id ∷ []

abbrev pub property_shape : Shape (List ℕ) Property
property_shape = record { tree = 7; columns = property_columns; is_row = is_property_row; row_in = property_in; key = λ p. p.number }

-- its columns by their names
abbrev pub property_named : Named
property_named = rowid_apart property

-- ---- adding a row

abbrev pub property_adding : Adding Property
property_adding = adding_to property_named 4 property (without_rowid property_row)

pub property_is_adding : IsAdding First property_shape property_row is_property_row property_adding
unfolding understood everything
property_is_adding = record {
  tree_is = refl;
  listed = refl;
  inserts = of_both (IsInsertOf property_row property_adding)
      (λ x. record { command = refl; plain = (refl, refl); listed = refl; is_uncounted = refl; value = refl })
      (λ x. record { command = refl; plain = (refl, refl); listed = refl; is_uncounted = refl; value = refl });
  stays = λ x good. row_stays property_cells property Null (property_row x) refl cast_null (pass_each property_cells true (property_row x) good).1;
  columns = λ x rows. refl;
  keyed = λ x rows. refl;
}

-- ---- the whole table

pub property_is_listing : IsListing First 7 property_columns property_named
unfolding understood everything
property_is_listing = record {
  selects = of_both (ListsRows 7 property_named)
      (record { command = refl; unlisted = refl; plain = (refl, refl); stored = λ db. refl })
      (record { command = refl; unlisted = refl; plain = (refl, refl); stored = λ db. refl });
  shows_columns = λ r. refl;
  selects_rowid = of_both (ListsRowids 7 property_named)
      (record { command = refl; unlisted = refl; plain = (refl, refl); stored = λ db. refl })
      (record { command = refl; unlisted = refl; plain = (refl, refl); stored = λ db. refl });
}

-- ---- the property with a number

abbrev pub property_numbered : Question PropertyNumbered Property
property_numbered = record {
  asking = asking_by property_named (codes "property_no" ∷ []) (1 ∷ []);
  given = λ q. Text q.number ∷ [];
  asks = λ q p. is_same_text p.number q.number;
}

pub property_numbered_is : IsQuestion First property_shape property_numbered
unfolding understood everything
property_numbered_is = record {
  selects = of_both (IsSelected 7 property_numbered.asking)
      (record { command = refl; unlisted = refl; plain = (refl, refl); stored = λ db. refl })
      (record { command = refl; unlisted = refl; plain = (refl, refl); stored = λ db. refl });
  shows_columns = λ q r. refl;
  passes = λ q r known good.
      let cells = (pass_each property_cells true (property_columns r) good).1 in
      pass_one (same_text (column r 1) q.number (text_is is_id (column r 1) cells.0));
}

-- ---- the properties that a member of staff manages

abbrev pub properties_managed : Question PropertiesManaged Property
properties_managed = record {
  asking = asking_by property_named (codes "staff_no" ∷ []) (9 ∷ []);
  given = λ q. Text q.staff ∷ [];
  asks = λ q p. is_same_optional is_same_text p.staff (Some q.staff);
}

pub properties_managed_is : IsQuestion First property_shape properties_managed
unfolding understood everything
properties_managed_is = record {
  selects = of_both (IsSelected 7 properties_managed.asking)
      (record { command = refl; unlisted = refl; plain = (refl, refl); stored = λ db. refl })
      (record { command = refl; unlisted = refl; plain = (refl, refl); stored = λ db. refl });
  shows_columns = λ q r. refl;
  passes = λ q r known good.
      let cells = (pass_each property_cells true (property_columns r) good).1 in
      pass_one (same_optional is_id (column r 9) q.staff cells.1.1.1.1.1.1.1.1.0);
}

-- ---- the properties of an owner

abbrev pub properties_of_owner : Question PropertiesOfOwner Property
properties_of_owner = record {
  asking = asking_by property_named (codes "owner_no" ∷ []) (8 ∷ []);
  given = λ q. Text q.owner ∷ [];
  asks = λ q p. is_same_text p.owner q.owner;
}

pub properties_of_owner_is : IsQuestion First property_shape properties_of_owner
unfolding understood everything
properties_of_owner_is = record {
  selects = of_both (IsSelected 7 properties_of_owner.asking)
      (record { command = refl; unlisted = refl; plain = (refl, refl); stored = λ db. refl })
      (record { command = refl; unlisted = refl; plain = (refl, refl); stored = λ db. refl });
  shows_columns = λ q r. refl;
  passes = λ q r known good.
      let cells = (pass_each property_cells true (property_columns r) good).1 in
      pass_one (same_text (column r 8) q.owner (text_is is_id (column r 8) cells.1.1.1.1.1.1.1.0));
}

-- ---- the properties of a branch

abbrev pub properties_of_branch : Question PropertiesOfBranch Property
properties_of_branch = record {
  asking = asking_by property_named (codes "branch_no" ∷ []) (10 ∷ []);
  given = λ q. Text q.branch ∷ [];
  asks = λ q p. is_same_text p.branch q.branch;
}

pub properties_of_branch_is : IsQuestion First property_shape properties_of_branch
unfolding understood everything
properties_of_branch_is = record {
  selects = of_both (IsSelected 7 properties_of_branch.asking)
      (record { command = refl; unlisted = refl; plain = (refl, refl); stored = λ db. refl })
      (record { command = refl; unlisted = refl; plain = (refl, refl); stored = λ db. refl });
  shows_columns = λ q r. refl;
  passes = λ q r known good.
      let cells = (pass_each property_cells true (property_columns r) good).1 in
      pass_one (same_text (column r 10) q.branch (text_is is_id (column r 10) cells.1.1.1.1.1.1.1.1.1.0));
}
