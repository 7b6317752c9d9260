-- A receipt that is in the books stays there.
use Rattle.std.proofs.Common.{◌≡◌, ◌≢◌, ◌∙◌, refl, ap, ℕ, ◌+◌, Option, Some}
use Rattle.std.specs.FinMap.{get, insert, len}
use Rattle.dh_types.specs.declared.lease.Receipt.{Receipt}
use Rattle.dh_types.specs.declared.command.Command.{Command}
use Rattle.dh_model.specs.declared.open_run.OpenRun.{OpenRun}
use Rattle.dh_model.specs.declared.rows.Change.{Change}
use Rattle.dh_model.specs.declared.rows.Change.TheVariants as change
use Rattle.dh_model.specs.Books.{Books, State}
use Rattle.dh_model.specs.Rules.{KeysInOrder}
use Rattle.dh_model.specs.Machine.{step}
use Rattle.dh_model.proofs.KeyOrders.{nat_ties, nat_total}
use Rattle.dh_laws.specs.InOrder.{AreKeyed}
use Rattle.dh_laws.proofs.VerdictLemmas.Acceptance.{Accepted, turned}
use Rattle.dh_model.proofs.MapRows.{get_other}
use Rattle.dh_laws.proofs.FactLemmas.Fit.{next_number_is_new}
use Rattle.dh_laws.proofs.CommandLemmas.Steps.{step_holds}

module _ (number : ℕ) (receipt : Receipt) where
  -- the receipt stands in the books under the number
  abbrev pub Has : Books → Type 0
  Has books = get books.receipts number ≡ Some receipt

  module _ (b : Books) (keyed : AreKeyed b) (keys : KeysInOrder b) where
    is_not_next : Has b → number ≢ len b.receipts + 1
    is_not_next h e = let none = ap (get b.receipts) e ∙ next_number_is_new b keyed keys (len b.receipts + 1) refl in cc

    beside_another : (row : Receipt) → row.number ≡ len b.receipts + 1 → Has b → get (insert b.receipts row.number row) number ≡ Some receipt
    beside_another row next h = get_other nat_total nat_ties b.receipts row.number row number (λ e. is_not_next h (e ∙ next)) ∙ h

    turned_has : (run : Option OpenRun) (rows : Change) (a : Accepted b run rows) → Has b → Has (turned b run rows a)
    turned_has run (change.Receipt row) a h = beside_another row a.known h
    turned_has run rows a h = h

  pub step_has : (size : ℕ) (s : State) → AreKeyed s.books → KeysInOrder s.books → (told : Command) → Has s.books → Has (step size s told).0.books
  step_has size s keyed keys told h =
      step_holds size s (λ v books. Has books) (λ kept. h) (λ why. h) h (λ order next. h)
      (λ rows a plain. turned_has s.books keyed keys s.open_run rows a h) told
