use Rattle.std.proofs.Common.{◌∙◌, ap}
use Rattle.dh_agency.specs.Agency.{machine}
use Rattle.dh_jobs.specs.Jobs.{says_open}
use Rattle.dh_jobs.proofs.FinishLemmas.{asks_open}
use Rattle.dh_jobs.proofs.open_run.has_open_run.Goals as goal

pub returns-clause-said : goal.returns-clause-said
returns-clause-said g c clean =
    c.says_open.ensures ∙ ap says_open (c.in_ok-answer.ensures.said clean) ∙ asks_open (machine g.S.Store c.args.agency.now) c.of_number.result
