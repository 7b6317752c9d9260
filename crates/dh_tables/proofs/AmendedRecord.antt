-- What a change makes of a record that is known.
use Rattle.std.proofs.Common.{◌≡◌, ◌∙◌, sym, subst, Some}
use Rattle.std.specs.declared.cmp.Ordering.{Ordering}
use Rattle.std.specs.FinMap.{get, insert}
use Rattle.sqlite.specs.State.{State}
use Rattle.dh_model.proofs.MapRows.{inside}
use Rattle.dh_sql.specs.Changes.{Becomes}
use Rattle.dh_sql.specs.Shape.{Shape, rows_in}
use Rattle.dh_tables.specs.Calls.{Amends}

module _ {K X : Type 0} (it : Shape K X) (R : K → K → Ordering) (key : K) (amended : X → X) (old new : State) where
  pub becomes_there : Amends it R key amended old new → (x : X) → get (rows_in it {R = R} old.now.trees) key ≡ Some x
      → Becomes it R old.now.schema (insert (rows_in it old.now.trees) key (amended x)) old new
  becomes_there is x there =
      let same : is.0 ≡ x = inside is.0 x (sym is.1 ∙ there) in
      subst (λ (y : X). Becomes it R old.now.schema (insert (rows_in it old.now.trees) key (amended y)) old new) same is.2
