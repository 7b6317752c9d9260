use Rattle.std.proofs.Common.{◌≡◌, Result, Ok, Err, ap}
use Rattle.std.specs.Prelude.{IsErrAnd}
use Rattle.dh_reading.specs.declared.unread.Unread.TheVariants.{Memory}
use Rattle.dh_requests.proofs.Amounts.{needs_memory, takes_request}
use Rattle.dh_requests.proofs.Orders.{may_ask}
use Rattle.dh_requests.proofs.request.read_request.Goals as goal

-- an error that a `?` hands on is the one that was met
handed : {T E : Type 0} (r : Result T E) (x y : E) → r ≡ Err x → IsErrAnd r (λ z. z ≡ y) → y ≡ x
handed (Ok it) x y is same = absurd same
handed (Err e) x y is same = cc

pub returns-in_ok-judge-in-Found-clause-asks : goal.returns-in_ok-judge-in-Found-clause-asks
returns-in_ok-judge-in-Found-clause-asks g c =
    may_ask _ _ c.read_head.new.buffer c.read_head.new.headers _ c.in-Found.head _ c.in-Found.is c.in_ok-read.ensures.input
    c.in_ok-judge-in-Found.ensures.asks

pub returns-in_ok-judge-in-Found-clause-consumed : goal.returns-in_ok-judge-in-Found-clause-consumed
returns-in_ok-judge-in-Found-clause-consumed g c =
    takes_request _ _ _ c.read_head.new.buffer c.read_head.new.headers _ c.in-Found.head c.in-Found.is c.in_ok-read.ensures.consumed
    c.in_ok-read.ensures.input c.in_ok-judge-in-Found.ensures.consumed

pub returns-in_err-judge-in-Found-clause-consumed : goal.returns-in_err-judge-in-Found-clause-consumed
returns-in_err-judge-in-Found-clause-consumed g c =
    takes_request _ _ _ c.read_head.new.buffer c.read_head.new.headers _ c.in-Found.head c.in-Found.is c.in_ok-read.ensures.consumed
    c.in_ok-read.ensures.input c.in_err-judge-in-Found.ensures.consumed

pub returns-in_err-judge-in-Found-clause-memory : goal.returns-in_err-judge-in-Found-clause-memory
returns-in_err-judge-in-Found-clause-memory g c e =
    let told : c.in_err-judge-in-Found.field-0.0 ≡ Memory =
    handed c.from_residual-in_err-judge-in-Found.result _ _ e c.from_residual-in_err-judge-in-Found.ensures.1 in
    needs_memory _ _ c.read_head.new.buffer c.read_head.new.headers _ c.in-Found.head c.in-Found.is c.in_ok-read.ensures.input
    (c.in_err-judge-in-Found.ensures.memory (ap (λ x. Err x) told))
