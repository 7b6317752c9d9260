-- What is free and an open run pass each other by.
use Rattle.std.specs.Prelude.{◌≡◌, ◌≤◌, ℕ, not, ◌&&◌, Bool, true, Some, None}
use Rattle.dh_types.specs.declared.command.Command.{Command}
use Rattle.dh_model.specs.declared.open_run.OpenRun.{OpenRun}
use Rattle.dh_model.specs.declared.rows.Change.{Change}
use Rattle.dh_model.specs.declared.rows.Verdict.TheVariants as verdict
use Rattle.dh_model.specs.Books.{Books}
use Rattle.dh_model.specs.Verdicts.{verdict_on}
use Rattle.dh_model.specs.Machine.{changed}
use Rattle.dh_model.specs.MachineLaws.{is_frozen, is_post}
use Rattle.dh_model.specs.Whole.{whole}
use Rattle.dh_laws.specs.InOrder.{IsInOrder}

-- served while a run is open
abbrev pub is_free : Command → Bool
is_free told = not (is_frozen told) && not (is_post told)

module _ (size : ℕ) where
  -- the verdict is that over the books with the run made to its end
  abbrev pub FreeAreJudgedAlike : Type 0
  FreeAreJudgedAlike = (books : Books) (run : OpenRun) (told : Command) → 1 ≤ size → IsInOrder size books (Some run) → is_free told ≡ true
      → verdict_on books (Some run) told ≡ verdict_on (whole size books) None told

  -- and it doesn't matter which comes first, the command or the rest of the run
  abbrev pub FreeChangesPassTheRun : Type 0
  FreeChangesPassTheRun = (books : Books) (run : OpenRun) (told : Command) (rows : Change) → 1 ≤ size → IsInOrder size books (Some run) → is_free told ≡ true
      → verdict_on books (Some run) told ≡ verdict.Change rows → whole size (changed rows books) ≡ changed rows (whole size books)

-- the verdict with the run open is that over the whole books with none, and where it is a change, the change of the whole books is the whole of the changed
-- ones
abbrev pub PassesTheRun : {Order : Type 0} → (Order → Command) → Type 0
PassesTheRun {Order} told = (size : ℕ) (books : Books) (run : OpenRun) (order : Order) → 1 ≤ size → IsInOrder size books (Some run)
    → (verdict_on books (Some run) (told order) ≡ verdict_on (whole size books) None (told order))
    × ((rows : Change) → verdict_on books (Some run) (told order) ≡ verdict.Change rows → whole size (changed rows books) ≡ changed rows (whole size books))
