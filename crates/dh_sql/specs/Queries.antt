-- A query over one table, with no grouping.
use Rattle.std.specs.Prelude.{ℕ, pos, negsuc, List, [], ◌∷◌, Bool, true, false, None}
use Rattle.std.specs.List.{list_all}
use Rattle.sqlite_value.specs.declared.value.Value.TheVariants.{Int}
use Rattle.sqlite_value.specs.declared.keys.Collation.TheVariants.{Binary}
use Rattle.sqlite_value.specs.declared.keys.Key.{Key}
use Rattle.sqlite_value.specs.Order.{Row}
use Rattle.sqlite.specs.Term.{Term, eval_all, holds, lit}
use Rattle.sqlite.specs.Query.{Query, end, inner}

-- SELECT project FROM tree WHERE tests ORDER BY order
abbrev pub plain_query : ℕ → List Term → List Term → List (Term × Key) → Query
plain_query tree tests project order = record {
  from = inner tree end;
  filter = tests;
  group = None;
  project = project;
  distinct = false;
  collations = [];
  order = order;
  limit = lit (Int (negsuc 0));
  offset = lit (Int (pos 0));
}

abbrev pub downwards : Key
downwards = record { collation = Binary; descending = true }

-- SELECT project FROM tree ORDER BY key DESC LIMIT 1
abbrev pub last_query : ℕ → List Term → Term → Query
last_query tree project key = record (plain_query tree [] project ((key, downwards) ∷ [])) { limit = lit (Int (pos 1)) }

-- the parameters and the row pass each test
abbrev pub passes_all : Row → List Term → Row → Bool
passes_all params tests r = list_all (holds (params ∷ r ∷ [])) tests

-- what a row shows
abbrev pub shows : List Term → Row → Row → Row
shows project params r = eval_all project (params ∷ r ∷ [])
