use Rattle.std.proofs.Common.{◌∙◌, sym, subst, arith}
use Rattle.dh_types.specs.declared.command.Command.TheVariants as command
use Rattle.dh_types.specs.declared.reply.Reply.TheVariants as reply
use Rattle.dh_model.specs.Books.{State}
use Rattle.dh_model.specs.Runs.{batch_size}
use Rattle.dh_laws.specs.Telling.{IsTold}
use Rattle.dh_laws.proofs.CommandLemmas.Runs.{opening_told}
use Rattle.dh_rules.proofs.commands.tell_opening.Goals as goal

pub returns-in_ok-begun-in-Change : goal.returns-in_ok-begun-in-Change
returns-in_ok-begun-in-Change c = λ in_order.
    let order = c.args.order.now in
    subst (λ (after : State). IsTold batch_size (command.Open order) (reply.Opened order.month) c.args.before after) (sym c.in_ok-begun-in-Change.ensures)
    (opening_told batch_size c.args.before order (omega arith) c.requires in_order c.in-Change.rows (sym c.decide_run.ensures ∙ c.in-Change.is))
