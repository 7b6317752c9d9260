use Rattle.std.proofs.Common.{◌≡◌, ◌∙◌, Ok, ap, refl, subst, sym}
use Rattle.dh_laws.proofs.CommandLemmas.Carried.{same_cut}
use Rattle.dh_agency.specs.Agency.{Leaves, machine}
use Rattle.dh_agency.specs.Requests.{IsCutIn}
use Rattle.dh_agency.specs.Outcomes.{IsInterrupted}
use Rattle.dh_agency.proofs.Standing.{cut_or_stopped, leaves_what_holds}
use Rattle.dh_agency.proofs.requests.respond.Goals as goal

pub returns-in-Err-reply-clause-halted : goal.returns-in-Err-reply-clause-halted
returns-in-Err-reply-clause-halted g c clean is_open =
    let old = c.args.agency.now in
    let new = c.step-reply.new.self in
    let before = machine g.S.Store old in
    let told = c.in-Ok-Command.command in
    let ends = c.in-Err-reply.ensures in
    subst (λ request. IsCutIn request before (machine g.S.Store new)) (sym (c.in-Ok-Command.is ∙ ap Ok c.in-Ok-Command.field-0-is))
    (cut_or_stopped g.S.Store old new (IsInterrupted told before) _ (ends.halted clean) ends.ends.stopped (same_cut told before before refl) is_open)

pub returns-in-Err-clause-crash : goal.returns-in-Err-clause-crash
returns-in-Err-clause-crash g c clean live rests =
    let old = c.args.agency.now in
    let before = machine g.S.Store old in
    subst (λ request. Leaves g.S.Store old (IsCutIn request before)) (sym c.in-Err.is)
    (leaves_what_holds g.S.Store old (λ left. left ≡ before) rests refl)
