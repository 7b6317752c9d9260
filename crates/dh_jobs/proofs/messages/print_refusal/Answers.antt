use Rattle.dh_types.specs.Replies.{refusal_text}
use Rattle.dh_reports.specs.Columns.{newline}
use Rattle.dh_reports.proofs.PartLemmas.{goes_on}
use Rattle.dh_jobs.proofs.messages.print_refusal.Goals as goal

pub returns : goal.returns
returns g c = goes_on c.put.result _ _ _ (refusal_text c.args.refusal) newline c.in_ok-put_refusal.ensures c.put.ensures
