use Rattle.std.proofs.Common.{◌∙◌, sym, subst, Some}
use Rattle.std.proofs.lemmas.Result.{IfOk-weaker}
use Rattle.dh_types.specs.declared.command.Command.{Command}
use Rattle.dh_model.specs.Runs.{batch_size}
use Rattle.dh_laws.specs.Telling.{IsCutDone, Stands}
use Rattle.dh_laws.proofs.CommandLemmas.Cuts.{judged_stands}
use Rattle.dh_rules.proofs.commands.cut_standing.Goals as goal

pub returns-in-None-clause-done : goal.returns-in-None-clause-done
returns-in-None-clause-done c =
    IfOk-weaker c.cut_run.result _ _ (λ after h in_order.
    subst (λ (told : Command). IsCutDone batch_size told c.args.before after) (sym c.in-Run.is) (h in_order).0) c.cut_run.ensures

pub returns-in-None-clause-stands : goal.returns-in-None-clause-stands
returns-in-None-clause-stands c =
    IfOk-weaker c.cut_run.result _ _ (λ after h in_order.
    subst (λ (told : Command). Stands c.args.before (Some c.args.count) told after) (sym c.in-Run.is)
    (judged_stands c.args.before after c.in-Run.order c.args.count (sym c.open_run.ensures ∙ c.in-None.is) (h in_order).1)) c.cut_run.ensures
