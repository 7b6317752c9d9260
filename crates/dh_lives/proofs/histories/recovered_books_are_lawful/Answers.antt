use Rattle.dh_model.specs.Runs.{batch_size}
use Rattle.dh_lives.proofs.Ending.{recovered_books_are_lawful}
use Rattle.dh_lives.proofs.histories.recovered_books_are_lawful.Goals as goal

pub returns : goal.returns
returns g c = recovered_books_are_lawful g.S.Store (c.recovered_books_are_lawful.ensures batch_size)
