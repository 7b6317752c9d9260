use Rattle.std.proofs.Common.{ℕ, Option, sym, subst}
use Rattle.dh_model.specs.Runs.{batch_size}
use Rattle.dh_laws.specs.Telling.{Stands}
use Rattle.dh_laws.proofs.CommandLemmas.Cuts.{told_done, told_stands}
use Rattle.dh_rules.proofs.commands.interrupted_done.Goals as goal

pub returns-in_ok-answered-in-None-clause-done : goal.returns-in_ok-answered-in-None-clause-done
returns-in_ok-answered-in-None-clause-done c = λ in_order.
    let made = c.in_ok-answered-in-None.field-0 in
    told_done batch_size c.args.before made.tables c.args.command.now made.reply (c.in_ok-answered-in-None.ensures in_order)

pub returns-in_ok-answered-in-None-clause-stands : goal.returns-in_ok-answered-in-None-clause-stands
returns-in_ok-answered-in-None-clause-stands c = λ in_order.
    let made = c.in_ok-answered-in-None.field-0 in
    subst (λ (standing : Option ℕ). Stands c.args.before standing c.args.command.now made.tables) (sym c.in-None.is)
    (told_stands c.args.before made.tables c.args.command.now made.reply (c.in_ok-answered-in-None.ensures in_order))
