use Rattle.std.specs.Prelude.{refl}
use Rattle.dh_laws.proofs.CommutationLemmas.EachCommand.{passes_the_run}
use Rattle.dh_types.specs.declared.command.Command.TheVariants as command
use Rattle.dh_laws.proofs.commutation.inspection_passes_the_run.Goals as goal

pub returns : goal.returns
returns c = passes_the_run command.Inspection (λ order. refl)
