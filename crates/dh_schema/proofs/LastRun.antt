-- The open run is the last one, where it is not closed.
use Rattle.std.proofs.Common.{◌≡◌, ◌≤◌, ◌-◌, refl, sym, arith, true, Option, Some, None, is_some}
use Rattle.std.specs.FinMap.{get}
use Rattle.sqlite_trees.specs.Tree.{Trees}
use Rattle.dh_types.specs.declared.run.Run.{Run}
use Rattle.dh_model.specs.Books.{Books}
use Rattle.dh_model.specs.Rules.{Runs, RunsInOrder}
use Rattle.dh_model.specs.Whole.{open_row}
use Rattle.dh_laws.specs.Looks.{unless_closed}
use Rattle.dh_laws.proofs.FactLemmas.Last.{open_run_is_last}
use Rattle.dh_schema.specs.Tables.{IsSound, state_in}
use Rattle.dh_schema.proofs.Keyed.{books_are_keyed}

none_there : (found : Option Run) → (is_some found ≡ true → ⊥) → found ≡ None
none_there None h = refl
none_there (Some run) h = absurd (h refl)

-- before the first month is no run
pub none_before : (books : Books) → RunsInOrder books → books.next ≤ books.first → get books.runs (books.next - 1) ≡ None
none_before books rule none = none_there (get books.runs (books.next - 1)) (λ there.
    let month = (rule.run (books.next - 1)).0 there in
    let from = month.0 in
    let to = month.1 in
    omega (arith, none, from, to))

pub last_is_open : (trees : Trees) → IsSound trees
    → unless_closed (get (state_in trees).books.runs ((state_in trees).books.next - 1)) ≡ open_row (state_in trees).books
last_is_open trees sound = sym (open_run_is_last (state_in trees).books (books_are_keyed trees) (sound.rules Runs))
