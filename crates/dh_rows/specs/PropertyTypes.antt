-- The type of a property as a column.
use Rattle.std.specs.Prelude.{◌≡◌, refl}
use Rattle.sqlite_value.specs.declared.value.Value.{Value}
use Rattle.sqlite_value.specs.declared.value.Value.TheVariants.{Text}
use Rattle.dh_values.specs.declared.property_type.PropertyType.{PropertyType}
use Rattle.dh_values.specs.declared.property_type.PropertyType.TheVariants.{House, Flat}
use Rattle.dh_values.specs.Kinds.{property_type_of, property_type_text}
use Rattle.dh_rows.specs.Cells.{read_in}

abbrev pub property_type_in : Value → PropertyType
property_type_in v = read_in property_type_of House v

pub property_type_back : (t : PropertyType) → property_type_in (Text (property_type_text t)) ≡ t
property_type_back House = refl
property_type_back Flat = refl
