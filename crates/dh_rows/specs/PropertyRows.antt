-- A property as the columns of a row.
use Rattle.std.specs.Prelude.{◌≡◌, pos, Bool, true, ◌&&◌, ◌==◌, [], ◌∷◌, length}
use Rattle.sqlite_value.specs.declared.value.Value.TheVariants.{Int, Text}
use Rattle.sqlite_value.specs.Order.{Row, column}
use Rattle.dh_values.specs.declared.limits.TheConstants.{MOST_ROOMS}
use Rattle.dh_values.specs.Kinds.{property_type_of, property_type_text}
use Rattle.dh_types.specs.declared.property.Property.{Property}
use Rattle.dh_rows.specs.PropertyTypes.{property_type_back, property_type_in}
use Rattle.dh_rows.specs.Cells.{is_id_cell, is_number_cell, is_optional, is_read_cell, is_rent_cell, is_text_cell, number_in, optional_back}
use Rattle.dh_rows.specs.Cells.{optional_text, optional_text_in, text_in}

abbrev pub property_row : Property → Row
property_row p =
    Text p.number ∷ Text p.street ∷ Text p.city ∷ Text p.postcode ∷ Text (property_type_text p.property_type) ∷ Int (pos p.rooms) ∷ Int (pos p.rent)
    ∷ Text p.owner ∷ optional_text p.staff ∷ Text p.branch ∷ []

-- each column holds a value of its kind; the number of staff is NULL where nobody manages the property
abbrev pub is_property_row : Row → Bool
is_property_row row =
    (length row == 10) && is_id_cell (column row 0) && is_text_cell 60 (column row 1) && is_text_cell 60 (column row 2)
    && is_text_cell 60 (column row 3) && is_read_cell property_type_of (column row 4) && is_number_cell 1 MOST_ROOMS (column row 5)
    && is_rent_cell (column row 6) && is_id_cell (column row 7) && is_optional is_id_cell (column row 8) && is_id_cell (column row 9)

-- the property that such a row is
abbrev pub property_in : Row → Property
property_in row = record {
  number = text_in (column row 0);
  street = text_in (column row 1);
  city = text_in (column row 2);
  postcode = text_in (column row 3);
  property_type = property_type_in (column row 4);
  rooms = number_in (column row 5);
  rent = number_in (column row 6);
  owner = text_in (column row 7);
  staff = optional_text_in (column row 8);
  branch = text_in (column row 9);
}

-- a row is read back as what it was made of
pub property_back : (p : Property) → is_property_row (property_row p) ≡ true → property_in (property_row p) ≡ p
property_back p good = λ i. record {
  number = p.number;
  street = p.street;
  city = p.city;
  postcode = p.postcode;
  property_type = property_type_back p.property_type i;
  rooms = p.rooms;
  rent = p.rent;
  owner = p.owner;
  staff = optional_back p.staff i;
  branch = p.branch;
}
