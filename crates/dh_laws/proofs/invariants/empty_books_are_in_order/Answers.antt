use Rattle.dh_laws.proofs.InvariantLemmas.EmptyBooks.{empty_books_are_in_order}
use Rattle.dh_laws.proofs.invariants.empty_books_are_in_order.Goals as goal

pub returns : goal.returns
returns c = empty_books_are_in_order
