use Rattle.std.proofs.Common.{◌∙◌}
use Rattle.std.proofs.lemmas.Result.{IfOk-weaker}
use Rattle.dh_arguments.proofs.Told.{added}
use Rattle.dh_arguments.specs.Table.{batch, init, letting, migrate, recover, report, run, serve}
use Rattle.dh_arguments.proofs.commands.letting.Goals as goal

pub returns : goal.returns
unfolding letting
returns c =
    let one = added _ _ c.init.result _ init (c.in_ok-bare.ensures ∙ c.top.ensures) c.init.ensures c.in_ok-letting.ensures in
    let two = added _ _ c.batch.result _ batch one c.batch.ensures c.in_ok-letting-2.ensures in
    let three = added _ _ c.run.result _ run two c.run.ensures c.in_ok-letting-3.ensures in
    let four = added _ _ c.recover.result _ recover three c.recover.ensures c.in_ok-letting-4.ensures in
    let five = added _ _ c.migrate.result _ migrate four c.migrate.ensures c.in_ok-letting-5.ensures in
    let six = added _ _ c.report.result _ report five c.report.ensures c.in_ok-letting-6.ensures in
    IfOk-weaker c.with-7.result _ _ (λ new adds. added _ new c.serve.result _ serve six c.serve.ensures adds) c.with-7.ensures
