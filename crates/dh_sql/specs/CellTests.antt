-- The kinds of value that the columns of a table hold.
use Rattle.std.specs.Prelude.{◌≡◌, Bool, true, ◌&&◌, List, [], ◌∷◌}
use Rattle.sqlite_value.specs.declared.value.Value.{Value}
use Rattle.sqlite_value.specs.Order.{Row}
use Rattle.sqlite_schema.specs.declared.schema.Kind.{Kind}
use Rattle.sqlite_rules.specs.Cast.{cast}

-- a test that only values of a strict column's kind pass
pub record Cell : Type 0 where
  pub kind : Kind
  pub test : Value → Bool
  pub suits : (v : Value) → test v ≡ true → cast kind v ≡ v

-- the tests of a row, one behind the other, as they stand in a definition
abbrev pub tests_of : List Cell → Bool → Row → Bool
tests_of [] before row = before
tests_of (c ∷ cells) before [] = before
tests_of (c ∷ cells) before (v ∷ row) = tests_of cells (before && c.test v) row

-- each value passes the test of its column, as far as there are values
abbrev pub AreCells : List Cell → Row → Type 0
AreCells [] row = Unit {0}
AreCells (c ∷ cells) [] = Unit {0}
AreCells (c ∷ cells) (v ∷ row) = (c.test v ≡ true) × AreCells cells row
