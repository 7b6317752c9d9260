-- What is free has the verdict that it has once the open run is done.
use Rattle.std.proofs.Common.{◌≡◌, ℕ, true, Option, Some, None}
use Rattle.std.specs.Ordering.{nat_cmp}
use Rattle.std.specs.FinMap.{FinMap}
use Rattle.dh_types.specs.declared.command.Command.{Command}
use Rattle.dh_types.specs.declared.command.Command.TheVariants as command
use Rattle.dh_types.specs.declared.lease.Charge.{Charge}
use Rattle.dh_types.specs.declared.run.Part.{Part}
use Rattle.dh_types.specs.declared.run.Run.{Run}
use Rattle.dh_model.specs.declared.open_run.OpenRun.{OpenRun}
use Rattle.dh_model.specs.Books.{Books, pair_cmp, text_cmp}
use Rattle.dh_model.specs.Verdicts.{verdict_on}
use Rattle.dh_model.specs.Whole.{completed, open_row}
use Rattle.dh_laws.specs.Passing.{FreeAreJudgedAlike, is_free}

module _ (books : Books) (run : OpenRun) where
  module _ (charges : FinMap (pair_cmp nat_cmp nat_cmp) Charge) (parts : FinMap (pair_cmp nat_cmp text_cmp) Part) (runs : FinMap nat_cmp Run) where
    abbrev others : Books
    others = record books { charges = charges; parts = parts; runs = runs }

    -- charges, parts and runs have no say in what is free
    judged_by_the_rest : (told : Command) → is_free told ≡ true → verdict_on books (Some run) told ≡ verdict_on others None told
    judged_by_the_rest (command.Branch it) free = cc
    judged_by_the_rest other free = cc

  -- and a run adds nothing else
  judged_alike : (size : ℕ) (told : Command) (found : Option Run) → is_free told ≡ true
      → verdict_on books (Some run) told ≡ verdict_on (completed size books found) None told
  judged_alike size told None free = judged_by_the_rest books.charges books.parts books.runs told free
  judged_alike size told (Some row) free =
      let all = completed size books (Some row) in
      judged_by_the_rest all.charges all.parts all.runs told free

pub free_are_judged_alike : (size : ℕ) → FreeAreJudgedAlike size
free_are_judged_alike size books run told pos in_order free = judged_alike books run size told (open_row books) free
