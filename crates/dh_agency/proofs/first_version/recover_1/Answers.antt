use Rattle.sqlite.specs.Held.{state}
use Rattle.dh_schema.proofs.Crashing.{ready_leaves}
use Rattle.dh_agency.proofs.first_version.recover_1.Goals as goal

pub returns-in-Ok-clause-left : goal.returns-in-Ok-clause-left
returns-in-Ok-clause-left g c clean =
    let held = c.recover_in.new.conn in
    ready_leaves (state g.S.Store held) (g.met.S.Store.settled held.store) (g.met.S.Store.stays held.store) (c.in-Ok.ensures.recovered clean).0
