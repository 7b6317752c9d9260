use Rattle.dh_laws.proofs.LifeLemmas.Books.{recovered_books_are_lawful}
use Rattle.dh_laws.proofs.lives.recovered_books_are_lawful.Goals as goal

pub returns : goal.returns
returns c = recovered_books_are_lawful
