use Rattle.dh_laws.proofs.ShownLemmas.Run.{sound_books_show}
use Rattle.dh_laws.proofs.shown.sound_books_show.Goals as goal

pub returns : goal.returns
returns c = sound_books_show
