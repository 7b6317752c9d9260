use Rattle.std.proofs.Common.{refl}
use Rattle.dh_model.specs.Kinds.{Kind}
use Rattle.dh_books.proofs.OfKind.{got}
use Rattle.dh_books.proofs.books.Books.charge.Goals as goal

pub returns : goal.returns
returns c = got Kind.Charges c.self.inside c.self.view_is c.self.inside.charges.entries refl c.args.key.now c.get.ensures.value
