use Rattle.dh_laws.proofs.RepeatLemmas.Orders.{sent_again_is_once}
use Rattle.dh_laws.proofs.lives.sent_again_is_once.Goals as goal

pub returns : goal.returns
returns c = sent_again_is_once
