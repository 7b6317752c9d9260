-- What every change keeps.
use Rattle.std.specs.Prelude.{◌≡◌, ◌≤◌, ℕ, Option, None}
use Rattle.dh_types.specs.declared.command.Command.{Command}
use Rattle.dh_model.specs.declared.open_run.OpenRun.{OpenRun}
use Rattle.dh_model.specs.declared.rows.Change.{Change}
use Rattle.dh_model.specs.declared.rows.Verdict.TheVariants as verdict
use Rattle.dh_model.specs.Books.{Books, State, empty_books}
use Rattle.dh_model.specs.Rules.{IsLawful}
use Rattle.dh_model.specs.Verdicts.{verdict_on}
use Rattle.dh_model.specs.Machine.{changed, step}
use Rattle.dh_model.specs.Whole.{whole}
use Rattle.dh_laws.specs.Events.{Event, Happens, Tables}
use Rattle.dh_laws.specs.InOrder.{AreKeyed, IsEntered, IsInOrder, run_after}

module _ (size : ℕ) where
  -- the rows of an accepted command leave books in order; of an opening, with an open run of no batches
  abbrev pub ChangesKeepOrder : Type 0
  ChangesKeepOrder = (books : Books) (run : Option OpenRun) (told : Command) (rows : Change) → 1 ≤ size → IsInOrder size books run → IsEntered told
      → verdict_on books run told ≡ verdict.Change rows → IsInOrder size (changed rows books) (run_after run rows)

  -- with the open run made to its end the rules hold, and no run is open
  abbrev pub WholeIsLawful : Type 0
  WholeIsLawful = (books : Books) (run : Option OpenRun) → 1 ≤ size → IsInOrder size books run → AreKeyed (whole size books) × IsLawful (whole size books) size

  -- over whole books each step of the machine leaves them lawful, and each row under its key
  abbrev pub StepsKeepTheLaw : Type 0
  StepsKeepTheLaw = (s : State) (told : Command) → 1 ≤ size → AreKeyed s.books → IsLawful s.books size → IsEntered told
      → AreKeyed (step size s told).0.books × IsLawful (step size s told).0.books size

  -- books without a row are in order
  abbrev pub EmptyBooksAreInOrder : Type 0
  EmptyBooksAreInOrder = (month : ℕ) → IsInOrder size (empty_books month) None

  -- nothing that can happen to the tables makes them tables of another version
  abbrev pub TheVersionStays : Type 0
  TheVersionStays = (event : Event) (before after : Tables) → Happens size event before after → after.books.version ≡ before.books.version
