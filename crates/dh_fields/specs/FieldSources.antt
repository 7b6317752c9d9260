-- The fields of a line where they stand.
use Rattle.std.specs.Prelude.{ℕ, List, map}
use Rattle.csv.specs.Records.{fields_of}
use Rattle.dh_fields.specs.declared.line.FieldSource.{FieldSource}
use Rattle.dh_fields.specs.declared.line.FieldSource.TheVariants.{Slice, Record}

abbrev pub fields_in : FieldSource → List (List ℕ)
fields_in (Slice fields) = map (λ f. f.now) fields.now
fields_in (Record row) = fields_of row.now
