-- A run that is in the books stays there.
use Rattle.std.proofs.Common.{◌≡◌, ◌≢◌, ◌∙◌, refl, ap, ℕ, List, Option, Some, is_some, arith}
use Rattle.std.specs.FinMap.{get, insert}
use Rattle.dh_types.specs.declared.run.Run.{Run}
use Rattle.dh_types.specs.declared.command.Command.{Command}
use Rattle.dh_model.specs.declared.open_run.OpenRun.{OpenRun}
use Rattle.dh_model.specs.declared.rows.Change.{Change}
use Rattle.dh_model.specs.declared.rows.Change.TheVariants as change
use Rattle.dh_model.specs.Books.{Books, State}
use Rattle.dh_model.specs.Leases.{dues}
use Rattle.dh_model.specs.Rules.{RunsInOrder}
use Rattle.dh_model.specs.Runs.{closed_run}
use Rattle.dh_model.specs.Machine.{step}
use Rattle.dh_model.proofs.KeyOrders.{nat_ties, nat_total}
use Rattle.dh_model.proofs.MapRows.{get_other}
use Rattle.dh_laws.proofs.VerdictLemmas.Acceptance.{Accepted, turned}
use Rattle.dh_laws.proofs.CommandLemmas.Steps.{step_holds}

module _ (run : Run) where
  -- the run stands in the books under its month
  abbrev pub HasRun : Books → Type 0
  HasRun books = get books.runs run.month ≡ Some run

  module _ (b : Books) (runs : RunsInOrder b) where
    is_not_next : HasRun b → run.month ≢ b.next
    is_not_next h e = let within = (runs.run run.month).0 (ap is_some h) in omega (arith, within.1, e)

    beside_another : (row : Run) (month : ℕ) → month ≡ b.next → HasRun b → get (insert b.runs month row) run.month ≡ Some run
    beside_another row month next h = get_other nat_total nat_ties b.runs month row run.month (λ e. is_not_next h (e ∙ next)) ∙ h

    turned_has : (at : Option OpenRun) (rows : Change) (a : Accepted b at rows) → HasRun b → HasRun (turned b at rows a)
    turned_has at (change.Open row) a h = beside_another row row.month a.month h
    turned_has at rows a h = h

    -- a run is made in the next month
    beside_made : (key : List ℕ) → HasRun b → get (insert b.runs b.next (closed_run b.next key (dues b b.next))) run.month ≡ Some run
    beside_made key h = beside_another (closed_run b.next key (dues b b.next)) b.next refl h

  pub step_has_run : (size : ℕ) (s : State) → RunsInOrder s.books → (told : Command) → HasRun s.books → HasRun (step size s told).0.books
  step_has_run size s runs told h =
      step_holds size s (λ v books. HasRun books) (λ kept. h) (λ why. h) h (λ order next. beside_made s.books runs order.key h)
      (λ rows a plain. turned_has s.books runs s.open_run rows a h) told
