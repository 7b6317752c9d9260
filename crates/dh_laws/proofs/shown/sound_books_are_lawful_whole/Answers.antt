use Rattle.dh_laws.proofs.ShownLemmas.Run.{sound_books_are_lawful_whole}
use Rattle.dh_laws.proofs.shown.sound_books_are_lawful_whole.Goals as goal

pub returns : goal.returns
returns c = sound_books_are_lawful_whole
