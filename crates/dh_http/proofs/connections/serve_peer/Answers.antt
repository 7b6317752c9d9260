use Rattle.std.proofs.Common.{arith, Ok, Err, refl}
use Rattle.dh_http.proofs.ServingLemmas.{serves_on}
use Rattle.dh_http.proofs.connections.serve_peer.Goals as goal

pub returns-in-Ok-clause-on : goal.returns-in-Ok-clause-on
returns-in-Ok-clause-on g c s before was clean =
    let did = c.in-Ok.ensures in
    serves_on g.S.Store s before c.args.agency.now c.serve_over.new.agency _ _ _ (Ok c.in-Ok.status) (did.serves clean) (did.crash clean)
    (did.left clean) did.stops did.stopped (was (omega (arith, did.was_clean, clean)))

pub returns-in-Err-clause-on : goal.returns-in-Err-clause-on
returns-in-Err-clause-on g c s before was clean =
    let did = c.in-Err.ensures in
    serves_on g.S.Store s before c.args.agency.now c.serve_over.new.agency _ _ _ (Err c.in-Err.field-0) (did.serves clean) (did.crash clean)
    (did.left clean) did.stops did.stopped (was (omega (arith, did.was_clean, clean)))

pub returns-in-Ok-clause-outcome : goal.returns-in-Ok-clause-outcome
returns-in-Ok-clause-outcome g c =
    let did = c.in-Ok.ensures in
    record { end = Ok c.in-Ok.status; is = refl; serves = did.serves; closed = did.closed; stops = did.stops }

pub returns-in-Err-clause-outcome : goal.returns-in-Err-clause-outcome
returns-in-Err-clause-outcome g c =
    let did = c.in-Err.ensures in
    record { end = Err c.in-Err.field-0; is = refl; serves = did.serves; closed = did.closed; stops = did.stops }
