-- A question about the rows of one table, answered by a fixed text.
use Rattle.std.specs.Prelude.{◌≡◌, ◌+◌, ⊤, ℕ, Bool, true, List, [], ◌∷◌, Option, Some, None}
use Rattle.std.specs.declared.cmp.Ordering.{Ordering}
use Rattle.std.specs.FinMap.{FinMap, empty, insert}
use Rattle.sqlite_value.specs.declared.keys.Collation.TheVariants.{Binary}
use Rattle.sqlite_value.specs.Order.{Row}
use Rattle.sqlite_sql.specs.declared.ops.BinaryOp.TheVariants.{Compare}
use Rattle.sqlite_sql.specs.declared.ops.CompareOp.TheVariants.{Eq}
use Rattle.sqlite_sql.specs.Term.{Term, col, op2}
use Rattle.sqlite_schema.specs.declared.schema.Schema.{Schema}
use Rattle.dh_types.specs.declared.version.Version.{Version}
use Rattle.dh_ddl.specs.Versions.{HasSince}
use Rattle.dh_sql.specs.Queries.{passes_all, shows}
use Rattle.dh_sql.specs.Shape.{IsStored, Shape, stored_in}
use Rattle.dh_sql.specs.Texts.{IsSelectText}
use Rattle.dh_tables.specs.Commands.{Named, select_where}

-- SELECT project FROM table WHERE tests
pub record Asking : Type 0 where
  pub text : List ℕ
  pub tests : List Term
  pub project : List Term
  pub names : List (List ℕ)

-- each of these columns is the parameter of its place
abbrev pub are_given : ℕ → List ℕ → List Term
are_given n [] = []
are_given n (at ∷ more) = op2 (Compare Eq Binary) (col 1 at) (col 0 n) ∷ are_given (n + 1) more

-- the text for the rows whose columns of these names, at these places, are the parameters
abbrev pub asking_by : Named → List (List ℕ) → List ℕ → Asking
asking_by columns keys places = record {
  text = select_where columns.table columns.names keys;
  tests = are_given 0 places;
  project = columns.shown;
  names = columns.names;
}

-- under this schema the text shows them
abbrev pub IsSelected : ℕ → Asking → Schema → Type 0
IsSelected tree asking s = IsSelectText asking.text s tree asking.tests asking.project [] asking.names

-- the text shows the columns of the rows that are asked for
pub record IsAsking {K X Q : Type 0} (since : Version) (it : Shape K X) (asking : Asking) (can_ask : Q → Type 0) (given : Q → Row)
    (asks : Q → X → Bool) : Type 0 where
  pub selects : (s : Schema) → HasSince since s → IsSelected it.tree asking s
  pub shows_columns : (q : Q) (r : Row) → shows asking.project (given q) r ≡ it.columns r
  pub passes : (q : Q) (r : Row) → can_ask q → IsStored it r → passes_all (given q) asking.tests r ≡ asks q (stored_in it r)

-- a question that gives its text no day: the text, its parameters, and which records are asked for
pub record Question (Q X : Type 0) : Type 0 where
  pub asking : Asking
  pub given : Q → Row
  pub asks : Q → X → Bool

abbrev pub IsQuestion : {K X Q : Type 0} → Version → Shape K X → Question Q X → Type 0
IsQuestion {Q = Q} since it question = IsAsking since it question.asking (λ (q : Q). Unit {0}) question.given question.asks

-- the map of the one record that was found, and the empty map where none was
abbrev pub only_record : {K X : Type 0} {R : K → K → Ordering} → Shape K X → Option X → FinMap R X
only_record it None = empty
only_record it (Some x) = insert empty (it.key x) x

-- a shown row is a record that is asked for
abbrev pub IsAskedRow : {K X : Type 0} → Shape K X → (X → Bool) → Row → Type 0
IsAskedRow it asks row = (it.is_row row ≡ true) × (asks (it.row_in row) ≡ true)

-- one row at most, which is a record
abbrev pub AreOneAtMost : (Row → Bool) → List Row → Type 0
AreOneAtMost is_row [] = ⊤
AreOneAtMost is_row (row ∷ []) = is_row row ≡ true
AreOneAtMost is_row (row ∷ more ∷ rows) = ⊥

-- exactly the record of this key is asked for
pub record AsksFor {K X : Type 0} (it : Shape K X) (asks : X → Bool) (key : K) : Type 0 where
  pub its : (x : X) → it.key x ≡ key → asks x ≡ true
  pub only : (x : X) → asks x ≡ true → it.key x ≡ key
