-- No reference of our tables has an action.
use Rattle.std.proofs.Common.{◌≡◌, ℕ, List, [], length, ◌==◌, Bool, true, false, refl}
use Rattle.std.specs.List.{flat_map, filter_map}
use Rattle.sqlite.specs.Order.{Row}
use Rattle.sqlite_schema.specs.declared.schema.Keys.TheVariants.{Enforced}
use Rattle.sqlite_schema.specs.Rules.{parent_key}
use Rattle.sqlite_rules.specs.Action.{deed_for, pairs, work_by}
use Rattle.sqlite_schema.specs.declared.schema.Schema.{Schema}
use Rattle.dh_ddl.specs.Layout.{first_schema, our_schema}
use Rattle.dh_types.specs.declared.version.Version.TheVariants.{First}
use Rattle.dh_ddl.specs.Versions.{HasSince, of_both}
use Rattle.dh_sql.specs.Texts.{IsQuiet}

abbrev Idle : Schema → Bool → ℕ → List Row → List Row → Type 0
Idle schema b tree olds news = flat_map (λ child. filter_map (λ ref.
    work_by 0 tree (pairs olds news) child ref (deed_for Enforced b ref) (parent_key schema.tables ref)) child.references) schema.tables ≡ []

first : (b : Bool) (tree : ℕ) (olds news : List Row) → Idle first_schema b tree olds news
first true tree olds news = refl
first false tree olds news = refl

second : (b : Bool) (tree : ℕ) (olds news : List Row) → Idle our_schema b tree olds news
second true tree olds news = refl
second false tree olds news = refl

pub quiet : (schema : Schema) → HasSince First schema → IsQuiet schema
quiet = of_both IsQuiet (λ tree olds news. first (length news == 0) tree olds news) (λ tree olds news. second (length news == 0) tree olds news)
