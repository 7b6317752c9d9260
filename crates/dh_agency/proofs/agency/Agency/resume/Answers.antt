use Rattle.std.proofs.Common.{ℕ, subst}
use Rattle.sqlite.specs.Held.{state}
use Rattle.dh_types.specs.declared.command.Command.TheVariants as command
use Rattle.dh_laws.specs.Batches.{IsPostedInPart}
use Rattle.dh_schema.specs.Store as store
use Rattle.dh_runs.specs.Outcomes.{IsAnsweredBy, reply_of}
use Rattle.dh_agency.specs.AgencyView.{AgencyView}
use Rattle.dh_agency.specs.Agency.{machine}
use Rattle.dh_agency.proofs.agency.Agency.resume.Goals as goal

pub returns-in-Ok-clause-said : goal.returns-in-Ok-clause-said
returns-in-Ok-clause-said g c clean =
    let after = store.tables (state g.S.Store c.post_some.new.conn) in
    subst (λ (a : AgencyView g.row.S.Denot). IsAnsweredBy (command.Post c.args.most) (reply_of c.in-Ok.state) (machine g.S.Store a) after) c.self.view_is
    (subst (λ (most : ℕ). IsAnsweredBy (command.Post most) (reply_of c.in-Ok.state) (store.tables (state g.S.Store c.self.inside.conn)) after) c.from.ensures
    (c.in-Ok.ensures.said clean))

pub returns-in-Ok-clause-crash : goal.returns-in-Ok-clause-crash
returns-in-Ok-clause-crash g c clean was =
    let new = state g.S.Store c.post_some.new.conn in
    subst (λ (a : AgencyView g.row.S.Denot). store.Leaves new (IsPostedInPart c.args.most (machine g.S.Store a))) c.self.view_is
    (subst (λ (most : ℕ). store.Leaves new (IsPostedInPart most (store.tables (state g.S.Store c.self.inside.conn)))) c.from.ensures
    (c.post_some.ensures.crash clean))

pub returns-in-Err-clause-crash : goal.returns-in-Err-clause-crash
returns-in-Err-clause-crash g c clean was =
    let new = state g.S.Store c.post_some.new.conn in
    subst (λ (a : AgencyView g.row.S.Denot). store.Leaves new (IsPostedInPart c.args.most (machine g.S.Store a))) c.self.view_is
    (subst (λ (most : ℕ). store.Leaves new (IsPostedInPart most (store.tables (state g.S.Store c.self.inside.conn)))) c.from.ensures
    (c.post_some.ensures.crash clean))
