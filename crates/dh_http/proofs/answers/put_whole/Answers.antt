use Rattle.std.proofs.Common.{subst}
use Rattle.dh_types.specs.Output.{Puts}
use Rattle.dh_reports.proofs.PartLemmas.{broke, goes_on}
use Rattle.dh_http.specs.Answers.{body_bytes, head_of, said}
use Rattle.dh_http.proofs.answers.put_whole.Goals as goal

pub returns-in_err-put_head : goal.returns-in_err-put_head
returns-in_err-put_head g c =
    broke c.from_residual.result _ _ (head_of (said c.args.it.now)) (body_bytes c.args.it.now.body) c.from_residual.ensures.0 c.in_err-put_head.ensures

pub returns : goal.returns
returns g c =
    goes_on c.put.result _ _ _ (head_of (said c.args.it.now)) (body_bytes c.args.it.now.body) c.in_ok-put_head.ensures
    (subst (Puts (g.W.Write.contents c.put_head.new.writer) (g.W.Write.contents c.put.new.writer) c.put.result) c.bytes_of.ensures c.put.ensures)
