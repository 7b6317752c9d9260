use Rattle.dh_reports.proofs.FigureLemmas.{two_digits_put}
use Rattle.dh_reports.proofs.figures.push_two_digits.Goals as goal

pub returns : goal.returns
returns c = cc (two_digits_put c.args.text.now.bytes c.args.mark.now c.args.number c.requires.few)
