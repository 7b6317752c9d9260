use Rattle.std.proofs.Common.{subst}
use Rattle.dh_model.specs.Books as machine
use Rattle.dh_model.specs.Rules.{MeetsRules}
use Rattle.dh_model.specs.Runs.{batch_size}
use Rattle.dh_runs.proofs.checks.check_rows.Goals as goal

pub returns-clause-sound : goal.returns-clause-sound
returns-clause-sound g c clean =
    let loaded = c.in_ok-books.ensures.books clean in
    let order = c.in_ok-books.ensures.in_order clean in
    record { in_order = order; rules = subst (λ (s : machine.State). MeetsRules s.books batch_size) loaded c.in_ok-check_books.ensures.sound }
