use Rattle.dh_laws.proofs.MonthLemmas.Whole.{whole_is_lawful}
use Rattle.dh_laws.proofs.invariants.whole_is_lawful.Goals as goal

pub returns : goal.returns
returns c = whole_is_lawful
