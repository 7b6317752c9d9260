-- The fields of a property behind its address.
use Rattle.dh_fields.specs.declared.properties.Particulars.{Particulars}
use Rattle.dh_fields.specs.FieldKinds.{id, optional, property_type, rent, rooms}
use Rattle.dh_fields.specs.Lines.{Fields, field}

abbrev pub particulars_of : Fields → Particulars
particulars_of f = record {
  property_type = property_type.value (field f 6);
  rooms = rooms.value (field f 7);
  rent = rent.value (field f 8);
  owner = id.value (field f 9);
  staff = (optional id).value (field f 10);
  branch = id.value (field f 11);
}
