use Rattle.std.proofs.Common.{sym, subst}
use Rattle.std.proofs.lemmas.Result.{IfOk-weaker}
use Rattle.dh_types.specs.declared.command.Command.{Command}
use Rattle.dh_model.specs.Runs.{batch_size}
use Rattle.dh_laws.specs.Telling.{IsTold}
use Rattle.dh_rules.proofs.commands.answered.Goals as goal

pub returns-in-Open : goal.returns-in-Open
returns-in-Open c =
    IfOk-weaker c.tell_opening.result _ _ (λ it told in_order.
    subst (λ (it_is : Command). IsTold batch_size it_is it.reply c.args.before it.tables) (sym c.in-Open.is) (told in_order)) c.tell_opening.ensures

pub returns-in-Post : goal.returns-in-Post
returns-in-Post c =
    IfOk-weaker c.tell_post.result _ _ (λ it told in_order.
    subst (λ (it_is : Command). IsTold batch_size it_is it.reply c.args.before it.tables) (sym c.in-Post.is) (told in_order)) c.tell_post.ensures
