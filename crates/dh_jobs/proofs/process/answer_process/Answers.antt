use Rattle.std.proofs.Common.{◌≡◌, ◌∙◌, ap, inr, map, rules}
use Rattle.std.specs.Prelude.{string_bytes}
use Rattle.dh_types.specs.declared.reply.Fault.TheVariants as fault
use Rattle.dh_jobs.proofs.ProcessLemmas.{words_alike}
use Rattle.dh_jobs.proofs.TextLemmas.{fault_told}
use Rattle.dh_jobs.proofs.process.answer_process.Goals as goal

pub returns-in-Ok-all_of : goal.returns-in-Ok-all_of
returns-in-Ok-all_of g c =
    let is : c.deref.result.now ≡ c.in-Ok-all_of.words.items = search rules in
    rw c.in-Ok.is (words_alike _ _ (g.R.Read.remaining c.args.reader.now) _ _ c.run_words.result _ _
    (ap (map string_bytes) (is ∙ c.in-Ok-all_of.ensures)) c.run_words.ensures)

pub returns-in-Err-all_of : goal.returns-in-Err-all_of
returns-in-Err-all_of g c = rw c.in-Ok.is (inr (fault_told _ _ fault.Memory c.end_by_fault.result tt c.end_by_fault.ensures))

pub returns-in-Err : goal.returns-in-Err
returns-in-Err g c = rw c.in-Err.is c.refuse_words.ensures
