use Rattle.dh_lives.proofs.Following.{histories_are_events}
use Rattle.dh_lives.proofs.histories.histories_are_events.Goals as goal

pub returns : goal.returns
returns g c = histories_are_events g.S.Store
