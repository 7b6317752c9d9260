-- An owner as the columns of a row.
use Rattle.std.specs.Prelude.{◌≡◌, Bool, true, ◌&&◌, ◌==◌, [], ◌∷◌, length, refl}
use Rattle.sqlite_value.specs.declared.value.Value.TheVariants.{Text}
use Rattle.sqlite_value.specs.Order.{Row, column}
use Rattle.dh_types.specs.declared.owner.Owner.{Owner}
use Rattle.dh_rows.specs.Cells.{is_id_cell, is_text_cell, text_in}

abbrev pub owner_row : Owner → Row
owner_row o = Text o.number ∷ Text o.name ∷ Text o.address ∷ Text o.telephone ∷ []

-- each column holds a value of its kind
abbrev pub is_owner_row : Row → Bool
is_owner_row row =
    (length row == 4) && is_id_cell (column row 0) && is_text_cell 60 (column row 1) && is_text_cell 60 (column row 2)
    && is_text_cell 60 (column row 3)

-- the owner that such a row is
abbrev pub owner_in : Row → Owner
owner_in row = record {
  number = text_in (column row 0);
  name = text_in (column row 1);
  address = text_in (column row 2);
  telephone = text_in (column row 3);
}

-- a row is read back as what it was made of
pub owner_back : (o : Owner) → is_owner_row (owner_row o) ≡ true → owner_in (owner_row o) ≡ o
owner_back o good = refl
