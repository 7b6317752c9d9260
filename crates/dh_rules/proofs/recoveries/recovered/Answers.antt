use Rattle.std.proofs.Common.{◌≡◌, ◌∙◌, ap, arith, None}
use Rattle.dh_model.specs.Books.{State}
use Rattle.dh_model.specs.Runs.{batch_size}
use Rattle.dh_model.specs.Whole.{whole}
use Rattle.dh_rules.proofs.MovingRuns.{end_reached}
use Rattle.dh_rules.proofs.recoveries.recovered.Goals as goal

pub returns-clause-made : goal.returns-clause-made
returns-clause-made c order =
    let made : c.set_open_run.new.self ≡ record { books = whole batch_size c.args.before.books; open_run = None } =
    c.set_open_run.ensures ∙ ap (λ (s : State). record s { open_run = None }) c.in_ok-after.ensures
    in
    let led = end_reached batch_size c.args.before c.set_open_run.new.self (omega arith) made order in
    (led.order, ap (λ (s : State). s.books) made, led.is)
