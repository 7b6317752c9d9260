use Rattle.std.proofs.Common.{arith}
use Rattle.dh_model.specs.Runs.{batch_size}
use Rattle.dh_laws.proofs.CommandLemmas.Whole.{stepped_told}
use Rattle.dh_rules.proofs.commands.tell_over_whole.Goals as goal

pub returns : goal.returns
returns c = λ in_order.
    let made = c.in_ok-stepped.stepped in
    stepped_told batch_size c.args.before made.books c.args.command.now made.reply
    (omega arith) c.requires.run c.requires.command in_order c.commands_are_entered.ensures c.in_ok-stepped.ensures
