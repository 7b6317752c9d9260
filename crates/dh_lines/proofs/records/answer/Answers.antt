use Rattle.std.proofs.Common.{Some, arith, inl, inr, refl}
use Rattle.csv.specs.Records.{fields_of}
use Rattle.dh_agency.specs.Agency.{machine, stand}
use Rattle.dh_agency.specs.Requests.{said_in}
use Rattle.dh_agency.proofs.Standing.{leaves_what_holds}
use Rattle.dh_lines.specs.Session.{answered}
use Rattle.dh_lines.specs.Batch.{IsWithin}
use Rattle.dh_lines.proofs.OneRecord.{answers_fault, fault_first, fault_halts, memory_of_text, no_store_fault, not_on, of_output, of_request}
use Rattle.dh_lines.proofs.OneRecord.{said_part, said_whole}
use Rattle.dh_lines.proofs.CrashLemmas.{cut_within, leaves_cut}
use Rattle.dh_lines.proofs.records.answer.Goals as goal

pub returns-in_ok-put_response_line-in-Ok-respond-clause-answers : goal.returns-in_ok-put_response_line-in-Ok-respond-clause-answers
returns-in_ok-put_response_line-in-Ok-respond-clause-answers g c clean =
    let old = c.args.agency.now in
    let fields = fields_of c.args.row.now in
    said_whole g.S.Store old c.respond.new.agency _ _ c.args.number (IsWithin (stand g.S.Store old) (Some fields)) fields c.in-Ok.request c.in-Ok.ensures
    (said_in c.in-Ok-respond.response) (c.in-Ok-respond.ensures.said clean) c.in_ok-put_response_line-in-Ok-respond.ensures
    c.is_refusal-is_refused.result c.is_refusal-is_refused.ensures

pub returns-in_err-put_response_line-in-Ok-respond-clause-answers : goal.returns-in_err-put_response_line-in-Ok-respond-clause-answers
returns-in_err-put_response_line-in-Ok-respond-clause-answers g c clean =
    let old = c.args.agency.now in
    let fields = fields_of c.args.row.now in
    said_part g.S.Store old c.respond.new.agency _ _ c.args.number (IsWithin (stand g.S.Store old) (Some fields)) fields c.in-Ok.request c.in-Ok.ensures
    (said_in c.in-Ok-respond.response) (c.in-Ok-respond.ensures.said clean) c.in_err-put_response_line-in-Ok-respond.field-0.0
    c.from_residual.result c.from_residual.ensures.1 c.in_err-put_response_line-in-Ok-respond.ensures

pub returns-in-Err-respond-clause-answers : goal.returns-in-Err-respond-clause-answers
returns-in-Err-respond-clause-answers g c clean =
    let old = c.args.agency.now in
    let new = c.respond.new.agency in
    let fields = fields_of c.args.row.now in
    answers_fault g.S.Store old new _ _ c.args.number (answered (stand g.S.Store old) fields) (IsWithin (stand g.S.Store old) (Some fields))
    c.in-Err-respond.fault c.end_by_fault.result c.end_by_fault.ensures
    (λ is_open. cut_within fields c.in-Ok.request (machine g.S.Store old) (machine g.S.Store new) c.in-Ok.ensures
    (c.in-Err-respond.ensures.halted clean is_open))
    (not_on c.in-Err-respond.ensures.ends.stops)

pub returns-in-Err-clause-answers : goal.returns-in-Err-clause-answers
returns-in-Err-clause-answers g c clean =
    let old = c.args.agency.now in
    let fields = fields_of c.args.row.now in
    answers_fault g.S.Store old old _ _ c.args.number (answered (stand g.S.Store old) fields) (IsWithin (stand g.S.Store old) (Some fields)) _
    c.end_by_fault-in-Err.result c.end_by_fault-in-Err.ensures (λ is_open. inl refl) (λ on. refl)

pub returns-in_err-put_response_line-in-Ok-respond-clause-asked : goal.returns-in_err-put_response_line-in-Ok-respond-clause-asked
returns-in_err-put_response_line-in-Ok-respond-clause-asked g c =
    of_output (fields_of c.args.row.now) _ c.from_residual.result c.from_residual.ensures.1

pub returns-in-Err-respond-clause-asked : goal.returns-in-Err-respond-clause-asked
returns-in-Err-respond-clause-asked g c =
    of_request _ (fields_of c.args.row.now) c.in-Ok.request c.end_by_fault.result c.in-Ok.ensures c.in-Err-respond.ensures.ends.bad

pub returns-in-Err-clause-asked : goal.returns-in-Err-clause-asked
returns-in-Err-clause-asked g c = memory_of_text (fields_of c.args.row.now) _ _ _ c.end_by_fault-in-Err.result c.end_by_fault-in-Err.ensures c.in-Err.ensures

pub returns-in_ok-put_response_line-in-Ok-respond-clause-crash : goal.returns-in_ok-put_response_line-in-Ok-respond-clause-crash
returns-in_ok-put_response_line-in-Ok-respond-clause-crash g c clean live rests =
    leaves_cut g.S.Store c.args.agency.now c.respond.new.agency (fields_of c.args.row.now) c.in-Ok.request c.in-Ok.ensures
    (c.respond.ensures.crash clean live rests)

pub returns-in_err-put_response_line-in-Ok-respond-clause-crash : goal.returns-in_err-put_response_line-in-Ok-respond-clause-crash
returns-in_err-put_response_line-in-Ok-respond-clause-crash g c clean live rests =
    leaves_cut g.S.Store c.args.agency.now c.respond.new.agency (fields_of c.args.row.now) c.in-Ok.request c.in-Ok.ensures
    (c.respond.ensures.crash clean live rests)

pub returns-in-Err-respond-clause-crash : goal.returns-in-Err-respond-clause-crash
returns-in-Err-respond-clause-crash g c clean live rests =
    leaves_cut g.S.Store c.args.agency.now c.respond.new.agency (fields_of c.args.row.now) c.in-Ok.request c.in-Ok.ensures
    (c.respond.ensures.crash clean live rests)

pub returns-in-Err-clause-crash : goal.returns-in-Err-clause-crash
returns-in-Err-clause-crash g c clean live rests =
    leaves_what_holds g.S.Store c.args.agency.now (IsWithin (stand g.S.Store c.args.agency.now) (Some (fields_of c.args.row.now))) rests (inl refl)

pub returns-in-Err-respond-clause-halts : goal.returns-in-Err-respond-clause-halts
returns-in-Err-respond-clause-halts g c =
    let ends = c.in-Err-respond.ensures.ends in
    record {
      cause = λ live. fault_first _ _ _ c.in-Err-respond.fault c.end_by_fault.result c.end_by_fault.ensures (ends.cause live);
      stops = inr (fault_halts _ _ _ c.in-Err-respond.fault c.end_by_fault.result c.end_by_fault.ensures, ends.stops);
      store = λ is. ends.stops;
      stopped = λ dead. (ends.stopped dead).1;
      was_clean = ends.was_clean;
    }

pub returns-in-Err-clause-halts : goal.returns-in-Err-clause-halts
returns-in-Err-clause-halts g c = record {
  cause = λ live. fault_first _ _ _ _ c.end_by_fault-in-Err.result c.end_by_fault-in-Err.ensures tt;
  stops = inl refl;
  store = λ is. absurd (no_store_fault _ _ _ c.end_by_fault-in-Err.result c.end_by_fault-in-Err.ensures is);
  stopped = λ dead. refl;
  was_clean = omega arith;
}
