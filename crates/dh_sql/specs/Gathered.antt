-- Records put into a map one after the other.
use Rattle.std.specs.Prelude.{List}
use Rattle.std.specs.List.{fold}
use Rattle.std.specs.declared.cmp.Ordering.{Ordering}
use Rattle.std.specs.FinMap.{FinMap, insert}
use Rattle.sqlite_value.specs.Order.{Row}
use Rattle.dh_sql.specs.Shape.{Shape}

module _ {K X : Type 0} {R : K → K → Ordering} (it : Shape K X) where
  abbrev pub put_row : FinMap R X → Row → FinMap R X
  put_row m row = insert m (it.key (it.row_in row)) (it.row_in row)

  abbrev pub put_rows : List Row → FinMap R X → FinMap R X
  put_rows rows m = fold put_row m rows
