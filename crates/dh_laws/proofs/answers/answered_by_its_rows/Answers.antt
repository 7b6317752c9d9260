use Rattle.dh_laws.proofs.FactLemmas.Asked.{answered_by_its_rows}
use Rattle.dh_laws.proofs.answers.answered_by_its_rows.Goals as goal

pub returns : goal.returns
returns c = answered_by_its_rows
