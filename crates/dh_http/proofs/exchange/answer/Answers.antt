use Rattle.std.proofs.Common.{◌≡◌, ◌∙◌, Err, Ok, Result, IsOk, OnErr, ap, refl, sym, true, false}
use Rattle.std.proofs.lemmas.Bool.{false≢true}
use Rattle.dh_agency.specs.Requests.{said_in}
use Rattle.dh_requests.specs.declared.judged_request.JudgedRequest.TheVariants as asked
use Rattle.dh_http.specs.Answers.{Answer, said}
use Rattle.dh_http.specs.Served.{said_answer}
use Rattle.dh_http.proofs.AnswerLemmas.{said_goes_on, turned_goes_on}
use Rattle.dh_http.proofs.ServedLemmas.{goes_on_made, goes_on_sent, leaves_asked, serves_fault, serves_made, serves_sent, stops_fault}
use Rattle.dh_http.proofs.exchange.answer.Goals as goal

pub returns-in-Turned-clause-serves : goal.returns-in-Turned-clause-serves
returns-in-Turned-clause-serves g c clean =
    serves_sent g.S.Store c.args.agency.now c.args.agency.now _ _ (λ x. x ≡ c.args.asked) (asked.Turned c.in-Turned.why) (sym c.in-Turned.is)
    (said c.turned.result) c.send.result c.send.ensures c.turned.ensures refl (λ no. refl)

pub returns-in-Turned-clause-stops : goal.returns-in-Turned-clause-stops
returns-in-Turned-clause-stops g c =
    goes_on_sent c.args.agency.now c.args.agency.now _ _ (said c.turned.result) c.send.result c.send.ensures
    (λ e. turned_goes_on c.in-Turned.why (sym (ap (λ (z : Answer). z.status) c.turned.ensures) ∙ e)) refl

-- fields that are no request leave the agency as it is, and meet no fault
kept : {X E : Type 0} (A B : Type 0) (request : Result X E) → OnErr request (A × B) → ¬ IsOk request → B
kept A B (Ok x) bad unput = absurd (unput refl)
kept A B (Err e) bad unput = bad.1

put : {X E : Type 0} (B : Type 0) (request : Result X E) → OnErr request ((false ≡ true) × B) → IsOk request
put B (Ok x) bad = refl
put B (Err e) bad = absurd (false≢true bad.0)

pub returns-in-Ok-clause-serves : goal.returns-in-Ok-clause-serves
returns-in-Ok-clause-serves g c clean =
    let request = c.in-Fields.request in
    let told = c.in-Ok.ensures.said clean in
    serves_made g.S.Store c.args.agency.now c.respond.new.agency _ _ (λ x. x ≡ c.args.asked) (asked.Fields request) (sym c.in-Fields.is)
    c.is_order-acted.result (said_answer (said_in c.in-Ok.response)) c.made-made.result c.send_made.result c.send_made.ensures c.made-made.ensures
    (ap (λ z. said_answer z.1) (sym told)) (ap (λ z. z.0) (sym told)) (λ acted. sym c.is_order-acted.ensures ∙ acted)
    (λ idle. c.in-Ok.ensures.same clean (sym c.is_order-acted.ensures ∙ idle)) (kept _ _ request c.in-Ok.ensures.ends.bad)

pub returns-in-Err-clause-serves : goal.returns-in-Err-clause-serves
returns-in-Err-clause-serves g c clean =
    let request = c.in-Fields.request in
    let ends = c.in-Err.ensures.ends in
    serves_fault g.S.Store c.args.agency.now c.respond.new.agency _ _ (λ x. x ≡ c.args.asked) (asked.Fields request) (sym c.in-Fields.is)
    (put _ request ends.bad) c.in-Err.fault (said c.faulted.result) c.send-in-Err.result c.send-in-Err.ensures c.faulted.ensures
    (ends.cause, λ dead. (ends.stopped dead).0) ends.stops (c.in-Err.ensures.halted clean)

pub returns-in-Ok-clause-crash : goal.returns-in-Ok-clause-crash
returns-in-Ok-clause-crash g c clean live left =
    leaves_asked g.S.Store c.args.agency.now c.respond.new.agency (λ x. x ≡ c.args.asked) (asked.Fields c.in-Fields.request) (sym c.in-Fields.is)
    (c.respond.ensures.crash clean live left)

pub returns-in-Err-clause-crash : goal.returns-in-Err-clause-crash
returns-in-Err-clause-crash g c clean live left =
    leaves_asked g.S.Store c.args.agency.now c.respond.new.agency (λ x. x ≡ c.args.asked) (asked.Fields c.in-Fields.request) (sym c.in-Fields.is)
    (c.respond.ensures.crash clean live left)

pub returns-in-Ok-clause-stops : goal.returns-in-Ok-clause-stops
returns-in-Ok-clause-stops g c =
    let it = said_in c.in-Ok.response in
    goes_on_made c.args.agency.now c.respond.new.agency _ _ (said_answer it) c.is_order-acted.result c.made-made.result c.send_made.result
    c.send_made.ensures c.made-made.ensures (said_goes_on it) c.in-Ok.ensures.ends.goes_on

pub returns-in-Err-clause-stops : goal.returns-in-Err-clause-stops
returns-in-Err-clause-stops g c =
    stops_fault c.args.agency.now c.respond.new.agency _ _ (said c.faulted.result) c.in-Err.fault c.send-in-Err.result c.send-in-Err.ensures
    c.faulted.ensures c.in-Err.ensures.ends.stops
