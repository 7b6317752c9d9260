use Rattle.std.proofs.Common.{subst}
use Rattle.dh_types.specs.Output.{Puts}
use Rattle.dh_reports.proofs.PartLemmas.{gathered}
use Rattle.dh_lines.specs.LineBodies.{body_line}
use Rattle.dh_lines.proofs.replies.put_line.Goals as goal

pub returns-in-Ok : goal.returns-in-Ok
returns-in-Ok g c =
    gathered c.put.result _ _ _ _ (body_line c.args.number c.args.body.now) c.new-line.ensures c.in-Ok.ensures
    (subst (Puts (g.W.Write.contents c.args.writer.now) (g.W.Write.contents c.put.new.writer) c.put.result) c.deref.ensures.0 c.put.ensures)
