use Rattle.std.proofs.Common.{subst, arith}
use Rattle.sqlite.specs.State.{HasCleanDisk}
use Rattle.sqlite.specs.Held.{state}
use Rattle.dh_schema.specs.Store as store
use Rattle.dh_agency.specs.AgencyView.{AgencyView}
use Rattle.dh_agency.specs.Agency.{machine}
use Rattle.dh_runs.specs.Outcomes.{IsAnsweredBy, IsInterrupted}
use Rattle.dh_agency.proofs.Carried.{still_second}
use Rattle.dh_agency.proofs.agency.Agency.step.Goals as goal

pub returns-in-Ok-clause-said : goal.returns-in-Ok-clause-said
returns-in-Ok-clause-said g c clean =
    subst (λ (a : AgencyView g.row.S.Denot).
    IsAnsweredBy c.args.command.now c.in-Ok.reply (machine g.S.Store a) (store.tables (state g.S.Store c.carry_out.new.conn)))
    c.self.view_is (c.in-Ok.ensures.said clean)

pub returns-in-Ok-clause-crash : goal.returns-in-Ok-clause-crash
returns-in-Ok-clause-crash g c clean was =
    subst (λ (a : AgencyView g.row.S.Denot). store.Leaves (state g.S.Store c.carry_out.new.conn) (IsInterrupted c.args.command.now (machine g.S.Store a)))
    c.self.view_is (c.carry_out.ensures.crash clean)

pub returns-in-Err-clause-crash : goal.returns-in-Err-clause-crash
returns-in-Err-clause-crash g c clean was =
    subst (λ (a : AgencyView g.row.S.Denot). store.Leaves (state g.S.Store c.carry_out.new.conn) (IsInterrupted c.args.command.now (machine g.S.Store a)))
    c.self.view_is (c.carry_out.ensures.crash clean)

pub invariant_of-self : goal.invariant_of-self
invariant_of-self g c live clean =
    let old = state g.S.Store c.self.inside.conn in
    let new = state g.S.Store c.carry_out.new.conn in
    let was : HasCleanDisk old = omega (arith, c.carry_out.ensures.was_clean, clean) in
    let said = c.in-Ok.ensures.said clean in (
      c.in-Ok.ensures.ready clean,
      still_second c.args.command.now c.in-Ok.reply (store.tables old) (store.tables new) said (c.self.invariant live was).1,
    )
