use Rattle.dh_model.proofs.ListedDues.{each_due_is_listed_once}
use Rattle.dh_model.proofs.list_laws.each_due_is_listed_once.Goals as goal

pub returns : goal.returns
returns c = each_due_is_listed_once
