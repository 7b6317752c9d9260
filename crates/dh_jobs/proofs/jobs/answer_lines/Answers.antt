use Rattle.std.proofs.Common.{inl, inr, refl, ap, arith}
use Rattle.std.specs.Prelude.{nat_lt}
use Rattle.std.proofs.lemmas.Option.{IfSome_then}
use Rattle.dh_agency.specs.Agency.{IsClean, shown_by, stand}
use Rattle.dh_lines.specs.Session.{records_of}
use Rattle.dh_jobs.specs.Jobs.{lines_answered}
use Rattle.dh_jobs.proofs.AnswerLemmas.{goes_on, lines_left, stops}
use Rattle.dh_jobs.proofs.FinishLemmas.{comes_finished}
use Rattle.dh_jobs.proofs.jobs.answer_lines.Goals as goal

pub returns-in-Ok-clause-ends : goal.returns-in-Ok-clause-ends
returns-in-Ok-clause-ends g c clean =
    let mid = c.batch.new.agency in
    IfSome_then (g.R.Read.remaining c.args.reader.now) (c.in-Ok.ensures.ends (omega (arith, c.finish.ensures.was_clean)))
    (λ input h. inl (comes_finished (shown_by g.S.Store mid) (shown_by g.S.Store c.finish.new.agency) _ _ _ _ c.finish.result
    (lines_answered (stand g.S.Store c.args.agency.now) (records_of input)) (ap (nat_lt 0) h.refused) h.written clean h.state c.finish.ensures.ends))

pub returns-in-Ok-clause-crash : goal.returns-in-Ok-clause-crash
returns-in-Ok-clause-crash g c clean rests =
    let old = c.args.agency.now in
    let mid = c.batch.new.agency in
    let at : IsClean g.S.Store mid = omega (arith, c.finish.ensures.was_clean) in
    let left = c.in-Ok.ensures.left at rests (goes_on old.is_stopped mid.is_stopped c.requires c.in-Ok.ensures.halts.stops) in
    lines_left g.S.Store old mid c.finish.new.agency (c.in-Ok.ensures.crash at c.requires rests) left (c.finish.ensures.crash clean left)

pub returns-in-Ok-clause-kept : goal.returns-in-Ok-clause-kept
returns-in-Ok-clause-kept g c rests clean =
    let old = c.args.agency.now in
    let mid = c.batch.new.agency in
    let at : IsClean g.S.Store mid = omega (arith, c.finish.ensures.was_clean, clean) in
    c.finish.ensures.kept (c.in-Ok.ensures.left at rests (goes_on old.is_stopped mid.is_stopped c.requires c.in-Ok.ensures.halts.stops)) clean

pub returns-in-Err-clause-ends : goal.returns-in-Err-clause-ends
returns-in-Err-clause-ends g c clean =
    IfSome_then (g.R.Read.remaining c.args.reader.now) (c.in-Err.ensures.ends clean)
    (λ input h. inr (c.in-Err.fault, stops g.S.Store c.args.agency.now c.batch.new.agency _ _ c.in-Err.fault input c.in-Err.ensures.halts.store h, refl))
