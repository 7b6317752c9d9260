-- One free command at a time.
use Rattle.std.specs.Prelude.{◌≡◌, true}
use Rattle.dh_types.specs.declared.command.Command.{Command}
use Rattle.dh_laws.specs.Passing.{PassesTheRun, is_free}
use Rattle.dh_laws.proofs.CommutationLemmas.Verdicts.{free_are_judged_alike}
use Rattle.dh_laws.proofs.CommutationLemmas.Changes.{free_changes_pass_the_run}

pub passes_the_run : {Order : Type 0} (told : Order → Command) → ((order : Order) → is_free (told order) ≡ true) → PassesTheRun told
passes_the_run told free size books run order pos in_order = (
  free_are_judged_alike size books run (told order) pos in_order (free order),
  λ rows. free_changes_pass_the_run size books run (told order) rows pos in_order (free order),
)
