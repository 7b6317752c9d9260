use Rattle.std.proofs.Common.{◌++◌, subst}
use Rattle.std.specs.Prelude.{codes}
use Rattle.dh_reports.specs.Columns.{newline}
use Rattle.dh_types.specs.Output.{Puts}
use Rattle.dh_jobs.proofs.program.refuse.Goals as goal

pub returns-in-Value : goal.returns-in-Value
returns-in-Value g c =
    let put =
    subst
    (λ text. Puts (g.W.Write.contents c.args.writer.now) (g.W.Write.contents c.put_pieces.new.writer) c.put_pieces.result (codes "bad " ++ text ++ newline))
    c.as_bytes.ensures.value c.put_pieces.ensures in
    rw c.in-Value.is (c.put_pieces.result, c.refused.ensures, put)

pub returns-in-Question : goal.returns-in-Question
returns-in-Question g c = rw c.in-Question.is (c.print_refusal.result, c.refused-in-Question.ensures, c.print_refusal.ensures)
