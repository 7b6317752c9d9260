use Rattle.sqlite.specs.Held.{state}
use Rattle.dh_schema.proofs.Crashing.{ready_leaves}
use Rattle.dh_agency.proofs.agency.Agency.over.Goals as goal

pub returns-clause-left : goal.returns-clause-left
returns-clause-left g c clean =
    let held = c.args.conn in
    ready_leaves (state g.S.Store held) (g.met.S.Store.settled held.store) (g.met.S.Store.stays held.store) (c.requires clean).0
