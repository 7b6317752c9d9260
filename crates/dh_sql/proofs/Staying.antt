-- What a change to one table leaves of the others.
use Rattle.std.proofs.Common.{◌≡◌, ◌≢◌, sym, ap, subst, ℕ, nat_eq, false, Some, true≢false, map, List, ◌∙◌}
use Rattle.std.specs.declared.cmp.Ordering.{Ordering}
use Rattle.std.specs.List.{AllByRecursion, slice_get}
use Rattle.std.specs.FinMap.{from_entries}
use Rattle.sqlite_value.specs.Order.{Row}
use Rattle.sqlite_schema.specs.declared.schema.Schema.{Schema}
use Rattle.sqlite_schema.specs.declared.schema.Table.{Table}
use Rattle.sqlite_trees.specs.Tree.{Trees}
use Rattle.dh_types.proofs.SameValues.{numbers}
use Rattle.dh_sql.specs.Changes.{IsSame, OthersStay}
use Rattle.dh_sql.specs.Shape.{Shape, entry_in}
use Rattle.dh_sql.proofs.Lists.{all_at}

pub others_stay : (schema : Schema) (tree : ℕ) (old new : Trees) → AllByRecursion (λ t. t.tree ≢ tree → new t.tree ≡ old t.tree) schema.tables
    → OthersStay schema tree old new
others_stay schema tree old new all at t listed other =
    let apart : t.tree ≢ tree = λ same. true≢false (sym ((numbers t.tree tree).1 same) ∙ other) in
    all_at (λ (t : Table). t.tree ≢ tree → new t.tree ≡ old t.tree) schema.tables at t all listed apart

module _ {K X : Type 0} (it : Shape K X) (R : K → K → Ordering) (old new : Trees) where
  -- a tree that is as it was
  pub same_tree : new it.tree ≡ old it.tree → IsSame it R old new
  same_tree same = record {
    rows = ap (λ (rows : List Row). from_entries {R = R} (map (entry_in it) rows)) same;
    kept = λ was. record {
      values = rw same was.values;
      rowids = rw same was.rowids;
      keys = rw same was.keys;
    };
    apart = λ was. rw same was;
  }

  -- a listed table of another tree
  pub same_beside : (schema : Schema) (tree : ℕ) → OthersStay schema tree old new → (at : ℕ) (t : Table) → slice_get schema.tables at ≡ Some t
      → t.tree ≡ it.tree → nat_eq it.tree tree ≡ false → IsSame it R old new
  same_beside schema tree others at t listed is apart =
      let here : nat_eq t.tree tree ≡ false = ap (λ n. nat_eq n tree) is ∙ apart in
      same_tree (subst (λ n. new n ≡ old n) is (others at t listed here))
