use Rattle.std.proofs.Common.{◌≡◌, ◌∙◌, sym, ap, ◌+◌, ◌-◌, min, Some}
use Rattle.dh_model.specs.Books.{State}
use Rattle.dh_model.specs.Runs.{batch_size}
use Rattle.dh_model.specs.Whole.{whole}
use Rattle.dh_laws.specs.StateTables.{advanced_run}
use Rattle.dh_rules.proofs.MovingRuns.{batches_done}
use Rattle.dh_rules.proofs.recoveries.advanced.Goals as goal

pub returns : goal.returns
returns c order =
    let before = c.args.before in
    let run = c.in-Some.run' in
    let done = run.done + c.min.result in
    let shown : before.open_run ≡ Some run = sym c.in-Some.ensures in
    let counted = ap (λ n. run.done + n) (c.min.ensures
    ∙ ap (min c.args.count) (c.saturating_sub-left.ensures ∙ ap (λ all. all - run.done) c.in_ok-all.ensures)) in
    let made = c.set_open_run.ensures ∙ ap (λ (s : State). record s { open_run = Some (record { month = run.month; done = done }) }) c.in_ok-after.ensures in
    let led = batches_done batch_size before c.set_open_run.new.self run done c.args.count shown counted made order in
    (led.order, led.same, led.is ∙ ap (advanced_run (whole batch_size before.books) c.args.count) (sym shown))
