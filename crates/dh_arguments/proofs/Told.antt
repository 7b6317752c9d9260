-- What is told to `clap` step by step.
use Rattle.std.proofs.Common.{◌≡◌, ◌∙◌, Result, Ok, Err, IfOk, ap₂}
use Rattle.clap.specs.Words.{App, Shape, app_of, with_subcommand}
use Rattle.clap.specs.declared.builder.command.Command.{Command}
use Rattle.dh_arguments.specs.Table.{Adds, IsSubcommand}

pub added : {E : Type 0} (old new : Command) (sub : Result Command E) (a : App) (s : Shape) → app_of old ≡ a → IfOk sub (IsSubcommand s) → Adds old sub new
    → app_of new ≡ with_subcommand a s
added old new (Ok c) a s was is adds = adds.shape is.1 ∙ ap₂ with_subcommand was is.0
added old new (Err e) a s was is adds = absurd adds
