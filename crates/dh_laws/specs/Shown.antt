-- The open run that books show.
use Rattle.std.specs.Prelude.{◌≡◌, ◌≤◌, ℕ, false, Option, Some, is_some}
use Rattle.std.specs.List.{IsAmong}
use Rattle.std.specs.FinMap.{values}
use Rattle.dh_types.specs.declared.run.Run.{Run}
use Rattle.dh_model.specs.declared.open_run.OpenRun.{OpenRun}
use Rattle.dh_model.specs.Books.{Books}
use Rattle.dh_model.specs.Rules.{IsLawful, MeetsRules}
use Rattle.dh_model.specs.Whole.{IsOpenAt, open_row, run_shown, whole}
use Rattle.dh_laws.specs.InOrder.{AreKeyed}

module _ (size : ℕ) where
  -- a run row that is not closed is at exactly one number of batches
  abbrev pub OpenRowIsFound : Type 0
  OpenRowIsFound = (books : Books) (row : Run) → 1 ≤ size → AreKeyed books → MeetsRules books size → IsAmong (values books.runs) row → row.is_closed ≡ false
      → (done : ℕ) × IsOpenAt size books (Some (record { month = row.month; done = done }))
      × ((other : Option OpenRun) → IsOpenAt size books other → other ≡ Some (record { month = row.month; done = done }))

  -- the books show exactly one run or none, and one exactly where a run row is open
  abbrev pub OneRunIsShown : Type 0
  OneRunIsShown = (books : Books) → 1 ≤ size → AreKeyed books → MeetsRules books size
      → (run : Option OpenRun) × IsOpenAt size books run × (is_some run ≡ is_some (open_row books))
      × ((other : Option OpenRun) → IsOpenAt size books other → other ≡ run)

  -- a run that the books show as open is the one that is reckoned from their part rows
  abbrev pub RunShownIsReckoned : Type 0
  RunShownIsReckoned = (books : Books) (run : Option OpenRun) → 1 ≤ size → AreKeyed books → IsOpenAt size books run → run_shown size books ≡ run

  -- and books that meet the rules show it
  abbrev pub SoundBooksShow : Type 0
  SoundBooksShow = (books : Books) → 1 ≤ size → AreKeyed books → MeetsRules books size → IsOpenAt size books (run_shown size books)

  -- whatever run they show, the whole of them is lawful
  abbrev pub SoundBooksAreLawfulWhole : Type 0
  SoundBooksAreLawfulWhole = (books : Books) → 1 ≤ size → AreKeyed books → MeetsRules books size
      → AreKeyed (whole size books) × IsLawful (whole size books) size
