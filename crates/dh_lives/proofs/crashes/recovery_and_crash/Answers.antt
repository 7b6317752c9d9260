use Rattle.std.proofs.Common.{sym, subst}
use Rattle.sqlite.specs.Held.{Held, state}
use Rattle.dh_lives.specs.Calls.{Recovered, RecoveryInterrupted, Tells}
use Rattle.dh_lives.proofs.Reopened.{opened_anew}
use Rattle.dh_lives.proofs.crashes.recovery_and_crash.Goals as goal

pub returns-in_ok-next_life-in-Ok-clause-answered : goal.returns-in_ok-next_life-in-Ok-clause-answered
returns-in_ok-next_life-in-Ok-clause-answered g c clean =
    let old = c.args.conn in
    let life = c.in_ok-next_life-in-Ok in
    opened_anew g.S.Store old c.into_store.result life.field-0 life.ensures.found life.ensures.lists life.ensures.was_clean clean Recovered tt
    (subst (λ (h : Held g.row.S.Denot). Tells Recovered (state g.S.Store old) (state g.S.Store h)) (sym c.into_store.ensures) c.in-Ok.ensures.recovered.1)

pub returns-in_ok-next_life-in-Err-clause-broken : goal.returns-in_ok-next_life-in-Err-clause-broken
returns-in_ok-next_life-in-Err-clause-broken g c clean =
    let life = c.in_ok-next_life-in-Err in
    opened_anew g.S.Store c.args.conn c.in-Err.field-0.conn life.field-0 life.ensures.found life.ensures.lists life.ensures.was_clean clean
    RecoveryInterrupted tt c.in-Err.ensures.cut
