use Rattle.std.proofs.Common.{subst}
use Rattle.dh_types.specs.Output.{Puts}
use Rattle.dh_reports.proofs.PartLemmas.{gathered}
use Rattle.dh_http.specs.Answers.{head_of, said}
use Rattle.dh_http.proofs.answers.put_head.Goals as goal

pub returns-in-Ok : goal.returns-in-Ok
returns-in-Ok g c =
    gathered c.put.result _ _ _ _ (head_of (said c.args.it.now)) c.new-head.ensures c.in-Ok.ensures
    (subst (Puts (g.W.Write.contents c.args.writer.now) (g.W.Write.contents c.put.new.writer) c.put.result) c.deref.ensures.0 c.put.ensures)
