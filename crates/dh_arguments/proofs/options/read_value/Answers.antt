use Rattle.std.proofs.Common.{None, Some, refl}
use Rattle.clap.specs.Words.{found_of, rows_of}
use Rattle.dh_arguments.proofs.Values.{given_badly, given_well, not_given, text_of}
use Rattle.dh_arguments.specs.Options.{name_of}
use Rattle.dh_arguments.proofs.options.read_value.Goals as goal

pub returns-in_default : goal.returns-in_default
returns-in_default g c =
    not_given g.T.OptionValue.value_of (name_of c.args.option) (rows_of (found_of c.args.values.now))
    (text_of (found_of c.args.values.now) _ c.args.option None c.in_default.ensures c.name.ensures)

pub returns-in-Ok : goal.returns-in-Ok
returns-in-Ok g c =
    given_well g.T.OptionValue.value_of (name_of c.args.option) (rows_of (found_of c.args.values.now)) c.in-Some.text.now c.in-Ok.value
    (text_of (found_of c.args.values.now) _ c.args.option (Some c.in-Some.text.now) c.in-Some.ensures c.name.ensures) c.in-Ok.ensures

pub returns-in-Err : goal.returns-in-Err
returns-in-Err g c = (
  given_badly g.T.OptionValue.value_of (name_of c.args.option) (rows_of (found_of c.args.values.now)) c.in-Some.text.now
      (text_of (found_of c.args.values.now) _ c.args.option (Some c.in-Some.text.now) c.in-Some.ensures c.name.ensures) c.in-Err.ensures,
  refl,
)
