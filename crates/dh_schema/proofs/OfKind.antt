-- What holds of tables of each kind holds where a type says which kind it is.
use Rattle.std.proofs.Common.{◌≡◌, refl}
use Rattle.sqlite_trees.specs.Tree.{Trees}
use Rattle.dh_model.specs.Kinds.{IsSince, Kind, Branches}
use Rattle.dh_sql.specs.Shape.{IsKept, rows_in}
use Rattle.dh_schema.specs.Kinds.{IsKind, Stored, accessor_of}
use Rattle.dh_schema.specs.Tables.{AreInOrder, records_in, rows_since, state_in, version_of_tables}

held : (kind : Kind) (trees : Trees) → (accessor_of kind).held (state_in trees) ≡ records_in kind trees
held Branches trees = refl
held kind trees = refl

module _ (it : Stored) (is : IsKind it) where
  -- its table is in order with the others
  pub is_kept : (trees : Trees) → AreInOrder trees → IsSince it.since (version_of_tables trees) → IsKept it.shape it.order trees
  is_kept =
      is.by_kind
      (λ s as_row of_row as_key. (trees : Trees) → AreInOrder trees → IsSince s.since (version_of_tables trees) → IsKept s.shape s.order trees)
      (λ trees order since. (order.tables is.kind since).kept)

  -- the books have its rows
  pub holds : (trees : Trees) → it.accessor.held (state_in trees) ≡ rows_since it.since (version_of_tables trees) (rows_in it.shape trees)
  holds =
      is.by_kind
      (λ s as_row of_row as_key. (trees : Trees) → s.accessor.held (state_in trees) ≡ rows_since s.since (version_of_tables trees) (rows_in s.shape trees))
      (held is.kind)
