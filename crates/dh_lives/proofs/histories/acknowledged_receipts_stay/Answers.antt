use Rattle.dh_model.specs.Runs.{batch_size}
use Rattle.dh_lives.proofs.Ending.{acknowledged_receipts_stay}
use Rattle.dh_lives.proofs.histories.acknowledged_receipts_stay.Goals as goal

pub returns : goal.returns
returns g c = acknowledged_receipts_stay g.S.Store (c.acknowledged_receipts_stay.ensures batch_size)
