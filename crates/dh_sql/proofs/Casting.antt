-- Values that suit their columns are written as they are.
use Rattle.std.proofs.Common.{◌≡◌, ◌&&◌, refl, ℕ, ℤ, Bool, true, false, cond, List, [], ◌∷◌, map}
use Rattle.sqlite.specs.declared.types.Value.{Value}
use Rattle.sqlite.specs.declared.types.Value.TheVariants.{Null, Int, Real, Text, Blob}
use Rattle.sqlite_schema.specs.declared.schema.Kind.TheVariants as kind
use Rattle.sqlite_schema.specs.declared.schema.Column.{Column}
use Rattle.sqlite_schema.specs.declared.schema.Table.{Table}
use Rattle.sqlite_trees.specs.View.{is_int}
use Rattle.sqlite_value.specs.Order.{Row}
use Rattle.sqlite.specs.Cast.{cast, cast_all, cast_row}
use Rattle.sqlite.specs.Ops.{unary}
use Rattle.dh_sql.specs.CellTests.{AreCells, Cell, tests_of}
use Rattle.dh_sql.proofs.Running.{and_first, and_second}

either : (b : Bool) (x : Value) → cond b x x ≡ x
either true x = refl
either false x = refl

pub cast_null : cast kind.Integer Null ≡ Null
unfolding unary
cast_null = either _ Null

pub cast_int : (n : ℤ) → cast kind.Integer (Int n) ≡ Int n
unfolding unary
cast_int n = either _ (Int n)

pub cast_rowid : (v : Value) → is_int v ≡ true → cast kind.Integer v ≡ v
cast_rowid (Int n) h = cast_int n
cast_rowid Null h = cc
cast_rowid (Real x) h = cc
cast_rowid (Text t) h = cc
cast_rowid (Blob b) h = cc

-- the tests of a row, and what each says
pub pass_each : (cells : List Cell) (before : Bool) (row : Row) → tests_of cells before row ≡ true → (before ≡ true) × AreCells cells row
pass_each [] before row h = (h, tt)
pass_each (c ∷ cells) before [] h = (h, tt)
pass_each (c ∷ cells) before (v ∷ row) h =
    let rest = pass_each cells (before && c.test v) row h in
    (and_first before (c.test v) rest.0, (and_second before (c.test v) rest.0, rest.1))

pub pass_all : (cells : List Cell) (before : Bool) (row : Row) → before ≡ true → AreCells cells row → tests_of cells before row ≡ true
pass_all [] before row b h = b
pass_all (c ∷ cells) before [] b h = b
pass_all (c ∷ cells) before (v ∷ row) b h = pass_all cells (before && c.test v) row (rw (b, h.0) refl) h.1

pub cells_stay : (cells : List Cell) (columns : List Column) (row : Row) → map (λ c. c.kind) columns ≡ map (λ (c : Cell). c.kind) cells
    → AreCells cells row → cast_all columns row ≡ row
cells_stay [] [] row kinds h = refl
cells_stay [] (column ∷ columns) row kinds h = cc
cells_stay (c ∷ cells) [] row kinds h = cc
cells_stay (c ∷ cells) (column ∷ columns) [] kinds h = refl
cells_stay (c ∷ cells) (column ∷ columns) (v ∷ row) kinds h =
    let kind_is : column.kind ≡ c.kind = cc in
    let more : map (λ (c : Column). c.kind) columns ≡ map (λ (c : Cell). c.kind) cells = cc in
    let one : cast column.kind v ≡ v = rw kind_is (c.suits v h.0) in
    λ i. one i ∷ cells_stay cells columns row more h.1 i

-- a rowid and such values are written as they are
pub row_stays : (cells : List Cell) (table : Table) (id : Value) (row : Row) → map (λ c. c.kind) table.columns ≡ map (λ (c : Cell). c.kind) cells
    → cast kind.Integer id ≡ id → AreCells cells row → cast_row table (id ∷ row) ≡ id ∷ row
row_stays cells table id row kinds own h = λ i. own i ∷ cells_stay cells table.columns row kinds h i
