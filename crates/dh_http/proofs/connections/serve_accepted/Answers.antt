use Rattle.dh_http.proofs.ServingLemmas.{serves_lost}
use Rattle.dh_http.proofs.connections.serve_accepted.Goals as goal

pub returns-in-Ok-None-clause-on : goal.returns-in-Ok-None-clause-on
returns-in-Ok-None-clause-on g c = serves_lost g.S.Store c.args.agency.now
