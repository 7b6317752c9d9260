use Rattle.std.proofs.Common.{◌≡◌, ◌∙◌, subst, arith}
use Rattle.sqlite.specs.State.{HasCleanDisk}
use Rattle.sqlite.specs.Held.{state}
use Rattle.dh_types.specs.Reports.{report_of}
use Rattle.dh_model.specs.Answers.{report}
use Rattle.dh_model.specs.Runs.{batch_size}
use Rattle.dh_schema.specs.Store as store
use Rattle.dh_agency.specs.AgencyView.{AgencyView}
use Rattle.dh_agency.specs.Agency.{machine, stand}
use Rattle.dh_agency.proofs.Carried.{sound_in_order}
use Rattle.dh_agency.proofs.Standing.{report_stands}
use Rattle.dh_agency.proofs.agency.Agency.show.Goals as goal

pub returns-in-Ok-clause-said : goal.returns-in-Ok-clause-said
returns-in-Ok-clause-said g c clean =
    subst (λ (a : AgencyView g.row.S.Denot). report_of c.in-Ok.answer ≡ report (machine g.S.Store a) c.args.question.now) c.self.view_is
    (c.in-Ok.ensures.answer clean)

pub returns-in-Ok-clause-whole : goal.returns-in-Ok-clause-whole
returns-in-Ok-clause-whole g c clean =
    let old = state g.S.Store c.self.inside.conn in
    let was : HasCleanDisk old = omega (arith, c.look_up.ensures.was_clean, clean) in
    let ready = (c.self.invariant c.if-self.false was).0 in
    subst (λ (a : AgencyView g.row.S.Denot). report_of c.in-Ok.answer ≡ report (stand g.S.Store a) c.args.question.now) c.self.view_is
    (c.in-Ok.ensures.answer clean ∙ report_stands (c.answers_pass_the_run.ensures batch_size) c.open_runs_refuse_put_off.ensures (store.tables old)
    c.args.question.now (sound_in_order old.now.trees ready.sound))
