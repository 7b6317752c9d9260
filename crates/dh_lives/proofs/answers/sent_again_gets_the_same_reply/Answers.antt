use Rattle.dh_model.specs.Runs.{batch_size}
use Rattle.dh_lives.proofs.Moving.{sent_again_gets_the_same_reply}
use Rattle.dh_lives.proofs.answers.sent_again_gets_the_same_reply.Goals as goal

pub returns : goal.returns
returns c = sent_again_gets_the_same_reply (c.whole_is_lawful.ensures batch_size) (c.sent_again_gets_the_same_reply.ensures batch_size)
