use Rattle.dh_laws.proofs.ReceiptLemmas.Stays.{acknowledged_receipts_stay}
use Rattle.dh_laws.proofs.lives.acknowledged_receipts_stay.Goals as goal

pub returns : goal.returns
returns c = acknowledged_receipts_stay
