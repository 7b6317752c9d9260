use Rattle.dh_laws.proofs.RepeatLemmas.Again.{sent_again_gets_the_same_reply}
use Rattle.dh_laws.proofs.repeats.sent_again_gets_the_same_reply.Goals as goal

pub returns : goal.returns
returns c = sent_again_gets_the_same_reply
