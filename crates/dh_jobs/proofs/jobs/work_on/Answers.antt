use Rattle.std.proofs.Common.{sym, subst}
use Rattle.dh_jobs.specs.Printed.{PrintsWork}
use Rattle.dh_jobs.proofs.jobs.work_on.Goals as goal

pub returns-in-Ask-clause-printed : goal.returns-in-Ask-clause-printed
returns-in-Ask-clause-printed g c =
    subst (λ work. PrintsWork work (g.W.Write.contents c.args.writer.now) (g.W.Write.contents c.ask.new.writer) c.ask.result) (sym c.in-Ask.is)
    c.ask.ensures.printed
