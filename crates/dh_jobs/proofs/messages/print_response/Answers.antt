use Rattle.dh_types.specs.Replies.{reply_text}
use Rattle.dh_reports.specs.Columns.{newline}
use Rattle.dh_reports.proofs.PartLemmas.{goes_on}
use Rattle.dh_jobs.proofs.messages.print_response.Goals as goal

pub returns-in_ok-put_reply-in-Reply : goal.returns-in_ok-put_reply-in-Reply
returns-in_ok-put_reply-in-Reply g c =
    rw c.in-Reply.is
    (goes_on c.put.result _ _ _ (reply_text c.in-Reply.reply) newline c.in_ok-put_reply-in-Reply.ensures c.put.ensures)
