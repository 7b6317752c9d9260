use Rattle.std.proofs.Common.{◌∙◌, sym, ap, subst, Some, arith}
use Rattle.std.proofs.lemmas.Result.{IfOk-weaker}
use Rattle.dh_model.specs.declared.rows.Verdict.{Verdict}
use Rattle.dh_model.specs.Books.{Books, State}
use Rattle.dh_model.specs.Runs.{batch_size}
use Rattle.dh_model.specs.Whole.{whole}
use Rattle.dh_laws.specs.StateTables.{IsStateInOrder, advanced_run}
use Rattle.dh_laws.specs.Telling.{StandsAt}
use Rattle.dh_laws.proofs.CommandLemmas.Cuts.{standing_done}
use Rattle.dh_laws.proofs.CommandLemmas.Runs.{begun_in_order}
use Rattle.dh_rules.proofs.commands.cut_run.Goals as goal

pub returns-in_ok-begun-in-Change : goal.returns-in_ok-begun-in-Change
returns-in_ok-begun-in-Change c =
    let before = c.args.before in
    let order = c.args.order.now in
    let rows = c.in-Change.rows in
    let opened = c.in_ok-begun-in-Change.field-0 in
    let is = c.in_ok-begun-in-Change.ensures in
    let accepted = sym c.decide_run.ensures ∙ c.in-Change.is in
    IfOk-weaker c.advanced.result _ _ (λ after h in_order.
    let ordered = subst (λ (s : State). IsStateInOrder s) (sym is) (begun_in_order batch_size before order (omega arith) c.requires in_order rows accepted) in
    let kept = h ordered in
    let stands = kept.2 ∙ ap (λ (s : State). advanced_run (whole batch_size opened.books) c.args.count s.open_run) is in (
      standing_done batch_size before opened after order rows c.args.count (omega arith) c.requires in_order accepted is kept.0 kept.1 stands,
      subst (λ (v : Verdict). StandsAt order c.args.count v after) (sym accepted) (stands
          ∙ ap (λ (b : Books). advanced_run b c.args.count (Some (record { month = order.month; done = 0 }))) (sym kept.1)),
    )) c.advanced.ensures
