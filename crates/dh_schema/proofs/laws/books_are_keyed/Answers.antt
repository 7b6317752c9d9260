use Rattle.dh_schema.proofs.Keyed.{books_are_keyed}
use Rattle.dh_schema.proofs.laws.books_are_keyed.Goals as goal

pub returns : goal.returns
returns c = books_are_keyed
