use Rattle.std.proofs.Common.{IfSome, subst, sym}
use Rattle.dh_requests.specs.Requests.{MayAsk}
use Rattle.dh_http.proofs.ServedLemmas.{leaves_served_more, may_of, serves_more}
use Rattle.dh_http.proofs.exchange.serve_over.Goals as goal

pub returns-in-Some-clause-serves : goal.returns-in-Some-clause-serves
returns-in-Some-clause-serves g c clean =
    let input = g.R.Read.remaining c.args.reader.now in
    let may = may_of input _ c.in-Some.asked c.in-Some.is c.in_ok-asked.ensures.asks in
    serves_more g.S.Store c.args.agency.now c.answer.new.agency _ (λ x. IfSome input (λ bytes. MayAsk bytes x))
    (λ x same. subst (λ y. IfSome input (λ bytes. MayAsk bytes y)) (sym same) may) _ _ c.answer.result (c.answer.ensures.serves clean)

pub returns-in-Some-clause-crash : goal.returns-in-Some-clause-crash
returns-in-Some-clause-crash g c clean live left =
    let input = g.R.Read.remaining c.args.reader.now in
    let may = may_of input _ c.in-Some.asked c.in-Some.is c.in_ok-asked.ensures.asks in
    leaves_served_more g.S.Store c.args.agency.now c.answer.new.agency _ (λ x. IfSome input (λ bytes. MayAsk bytes x))
    (λ x same. subst (λ y. IfSome input (λ bytes. MayAsk bytes y)) (sym same) may) (c.answer.ensures.crash clean live left)
