use Rattle.std.proofs.Common.{sym, subst}
use Rattle.sqlite.specs.Held.{state}
use Rattle.dh_jobs.specs.Ends.{JobEnds}
use Rattle.dh_jobs.specs.Printed.{PrintsJob}
use Rattle.dh_jobs.proofs.store_jobs.do_job.Goals as goal

pub returns-in-Recover-clause-printed : goal.returns-in-Recover-clause-printed
returns-in-Recover-clause-printed g c =
    subst (λ job. PrintsJob job (g.W.Write.contents c.args.writer.now) (g.W.Write.contents c.recover_file.new.writer) c.recover_file.result.0)
    (sym c.in-Recover.is)
    c.recover_file.ensures.printed

pub returns-in-Recover-clause-ends : goal.returns-in-Recover-clause-ends
returns-in-Recover-clause-ends g c clean =
    subst (λ job. JobEnds (state g.S.Store c.args.conn) (state g.S.Store c.recover_file.result.1) (g.W.Write.contents c.args.writer.now)
    (g.W.Write.contents c.recover_file.new.writer) (g.R.Read.remaining c.args.reader.now) job c.recover_file.result.0)
    (sym c.in-Recover.is) (c.recover_file.ensures.ends clean)

pub returns-in-Migrate-clause-printed : goal.returns-in-Migrate-clause-printed
returns-in-Migrate-clause-printed g c =
    subst (λ job. PrintsJob job (g.W.Write.contents c.args.writer.now) (g.W.Write.contents c.migrate_file.new.writer) c.migrate_file.result.0)
    (sym c.in-Migrate.is)
    c.migrate_file.ensures.printed

pub returns-in-Migrate-clause-ends : goal.returns-in-Migrate-clause-ends
returns-in-Migrate-clause-ends g c clean =
    subst (λ job. JobEnds (state g.S.Store c.args.conn) (state g.S.Store c.migrate_file.result.1) (g.W.Write.contents c.args.writer.now)
    (g.W.Write.contents c.migrate_file.new.writer) (g.R.Read.remaining c.args.reader.now) job c.migrate_file.result.0)
    (sym c.in-Migrate.is) (c.migrate_file.ensures.ends clean)

pub returns-in-Work-clause-printed : goal.returns-in-Work-clause-printed
returns-in-Work-clause-printed g c =
    subst (λ job. PrintsJob job (g.W.Write.contents c.args.writer.now) (g.W.Write.contents c.take.new.writer) c.take.result.0) (sym c.in-Work.is)
    c.take.ensures.printed

pub returns-in-Serve-clause-printed : goal.returns-in-Serve-clause-printed
returns-in-Serve-clause-printed g c =
    subst (λ job. PrintsJob job (g.W.Write.contents c.args.writer.now) (g.W.Write.contents c.answer_requests.new.writer) c.answer_requests.result.0)
    (sym c.in-Serve.is) c.answer_requests.ensures.printed

pub returns-in-Serve-clause-ends : goal.returns-in-Serve-clause-ends
returns-in-Serve-clause-ends g c clean =
    subst (λ job. JobEnds (state g.S.Store c.args.conn) (state g.S.Store c.answer_requests.result.1) (g.W.Write.contents c.args.writer.now)
    (g.W.Write.contents c.answer_requests.new.writer) (g.R.Read.remaining c.args.reader.now) job c.answer_requests.result.0)
    (sym c.in-Serve.is) (c.answer_requests.ensures.ends clean)
