use Rattle.std.proofs.Common.{ap, sym}
use Rattle.std.specs.Fmt.{digits}
use Rattle.serde_json.proofs.OnLiterals.{serde_json_on_literals}
use Rattle.dh_http.specs.Answers.{fault_answer}
use Rattle.dh_http.proofs.answers.fault_body.Goals as goal

pub returns-in-Memory : goal.returns-in-Memory
unfolding serde_json_on_literals digits
returns-in-Memory c = ap (λ f. (fault_answer f).body) (sym c.in-Memory.is)

pub returns-in-Store : goal.returns-in-Store
unfolding serde_json_on_literals digits
returns-in-Store c = ap (λ f. (fault_answer f).body) (sym c.in-Store.is)

pub returns-in-Stopped : goal.returns-in-Stopped
unfolding serde_json_on_literals digits
returns-in-Stopped c = ap (λ f. (fault_answer f).body) (sym c.in-Stopped.is)
