use Rattle.dh_runs.proofs.Sound.{migrated_books_are_in_order}
use Rattle.dh_runs.proofs.laws.migrated_books_are_in_order.Goals as goal

pub returns : goal.returns
returns c = migrated_books_are_in_order
