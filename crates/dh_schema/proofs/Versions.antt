-- The version of a row that is the only one, and the schema of a version.
use Rattle.std.proofs.Common.{◌≡◌, ◌∙◌, List, [], ◌∷◌, refl, sym, ap, arith, IsPermutation}
use Rattle.std.proofs.lemmas.List.Sorted.{length_permutation}
use Rattle.sqlite_value.specs.Order.{Row}
use Rattle.sqlite.proofs.Callers.{one_permutation}
use Rattle.sqlite_schema.specs.declared.schema.Schema.{Schema}
use Rattle.dh_types.specs.declared.version.Version.{Version}
use Rattle.dh_types.specs.declared.version.Version.TheVariants.{First, Second}
use Rattle.dh_model.specs.Kinds.{IsSince}
use Rattle.dh_ddl.specs.Versions.{HasSince, each_is_ours, schema_of}
use Rattle.dh_schema.specs.Version.{only_version}

-- which row is the only one does not depend on the order
pub version_moved : (xs ys : List Row) → IsPermutation xs ys → only_version xs ≡ only_version ys
version_moved [] [] h = refl
version_moved [] (y ∷ ys) h = absurd (omega (arith, length_permutation [] (y ∷ ys) h))
version_moved (x ∷ []) ys h = ap only_version (sym (one_permutation x ys h))
version_moved (x ∷ y ∷ xs) [] h = absurd (omega (arith, length_permutation (x ∷ y ∷ xs) [] h))
version_moved (x ∷ y ∷ xs) (z ∷ []) h = absurd (omega (arith, length_permutation (x ∷ y ∷ xs) (z ∷ []) h))
version_moved (x ∷ y ∷ xs) (z ∷ w ∷ ys) h = refl

-- what came with a version is in the schema of that and of a later one
pub has_since : (since version : Version) (schema : Schema) → schema ≡ schema_of version → IsSince since version → HasSince since schema
has_since First version schema is since = each_is_ours version schema is
has_since Second version schema is since = is ∙ ap schema_of since
