use Rattle.dh_lives.proofs.Taken.{none_is_refused}
use Rattle.dh_lives.proofs.histories.none_is_refused.Goals as goal

pub returns : goal.returns
returns g c = none_is_refused g.S.Store
