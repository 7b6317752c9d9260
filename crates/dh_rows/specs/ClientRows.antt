-- A client as the columns of a row.
use Rattle.std.specs.Prelude.{◌≡◌, pos, Bool, true, ◌&&◌, ◌==◌, [], ◌∷◌, length}
use Rattle.sqlite_value.specs.declared.value.Value.TheVariants.{Int, Text}
use Rattle.sqlite_value.specs.Order.{Row, column}
use Rattle.dh_values.specs.Kinds.{property_type_of, property_type_text}
use Rattle.dh_types.specs.declared.client.Client.{Client}
use Rattle.dh_rows.specs.PropertyTypes.{property_type_back, property_type_in}
use Rattle.dh_rows.specs.Cells.{is_id_cell, is_read_cell, is_rent_cell, is_text_cell, number_in, text_in}

abbrev pub client_row : Client → Row
client_row c = Text c.number ∷ Text c.name ∷ Text c.telephone ∷ Text (property_type_text c.preferred_type) ∷ Int (pos c.greatest_rent) ∷ []

-- each column holds a value of its kind
abbrev pub is_client_row : Row → Bool
is_client_row row =
    (length row == 5) && is_id_cell (column row 0) && is_text_cell 60 (column row 1) && is_text_cell 60 (column row 2)
    && is_read_cell property_type_of (column row 3) && is_rent_cell (column row 4)

-- the client that such a row is
abbrev pub client_in : Row → Client
client_in row = record {
  number = text_in (column row 0);
  name = text_in (column row 1);
  telephone = text_in (column row 2);
  preferred_type = property_type_in (column row 3);
  greatest_rent = number_in (column row 4);
}

-- a row is read back as what it was made of
pub client_back : (c : Client) → is_client_row (client_row c) ≡ true → client_in (client_row c) ≡ c
client_back c good = λ i. record {
  number = c.number;
  name = c.name;
  telephone = c.telephone;
  preferred_type = property_type_back c.preferred_type i;
  greatest_rent = c.greatest_rent;
}
