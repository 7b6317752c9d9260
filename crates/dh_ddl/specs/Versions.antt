-- The schemas that have the tables of a version: those that came with the first are in both.
use Rattle.std.specs.Prelude.{◌≡◌, ◌⊎◌, Option, Some, None}
use Rattle.std.proofs.Common.{inl, inr, subst, sym}
use Rattle.sqlite_schema.specs.declared.schema.Schema.{Schema}
use Rattle.dh_types.specs.declared.version.Version.{Version}
use Rattle.dh_types.specs.declared.version.Version.TheVariants.{First, Second}
use Rattle.dh_ddl.specs.Layout.{first_schema, our_schema}

abbrev pub schema_of : Version → Schema
schema_of First = first_schema
schema_of Second = our_schema

abbrev pub HasSince : Version → Schema → Type 0
HasSince First schema = (schema ≡ first_schema) ⊎ (schema ≡ our_schema)
HasSince Second schema = schema ≡ our_schema

-- one of ours
abbrev pub IsOurs : Schema → Type 0
IsOurs schema = HasSince First schema

-- the schema is that of this version, or of none
abbrev pub IsOf : Option Version → Schema → Type 0
IsOf None schema = ¬ IsOurs schema
IsOf (Some version) schema = schema ≡ schema_of version

pub is_ours : (since : Version) (schema : Schema) → HasSince since schema → IsOurs schema
is_ours First schema has = has
is_ours Second schema has = inr has

-- the schema of a version is one of ours
pub each_is_ours : (version : Version) (schema : Schema) → schema ≡ schema_of version → IsOurs schema
each_is_ours First schema is = inl is
each_is_ours Second schema is = inr is

-- what holds of both holds of each
pub of_both : (P : Schema → Type 0) → P first_schema → P our_schema → (schema : Schema) → HasSince First schema → P schema
of_both P first second schema (inl is) = subst P (sym is) first
of_both P first second schema (inr is) = subst P (sym is) second

pub of_second : (P : Schema → Type 0) → P our_schema → (schema : Schema) → HasSince Second schema → P schema
of_second P second schema is = subst P (sym is) second
