use Rattle.dh_laws.proofs.RepeatLemmas.Replies.{repeats_get_their_reply}
use Rattle.dh_laws.proofs.repeats.repeats_get_their_reply.Goals as goal

pub returns : goal.returns
returns c = repeats_get_their_reply
