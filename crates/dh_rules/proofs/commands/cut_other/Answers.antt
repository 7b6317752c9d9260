use Rattle.dh_model.specs.Runs.{batch_size}
use Rattle.dh_laws.proofs.CommandLemmas.Cuts.{other_stands, told_done}
use Rattle.dh_rules.proofs.commands.cut_other.Goals as goal

pub returns-clause-done : goal.returns-clause-done
returns-clause-done c = λ in_order.
    let made = c.in_ok-answered.field-0 in
    told_done batch_size c.args.before made.tables c.args.command.now made.reply (c.in_ok-answered.ensures in_order)

pub returns-clause-stands : goal.returns-clause-stands
returns-clause-stands c = λ count. other_stands c.args.before c.in_ok-answered.field-0.tables c.args.command.now count c.requires
