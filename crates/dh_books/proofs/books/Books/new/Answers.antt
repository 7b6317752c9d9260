use Rattle.dh_books.proofs.Numbers.{none_kept}
use Rattle.dh_books.proofs.books.Books.new.Goals as goal

pub invariant_of-result : goal.invariant_of-result
invariant_of-result c = none_kept c.new-9.result.entries c.new-13.result.entries c.new-9.ensures.empty c.new-13.ensures.empty
