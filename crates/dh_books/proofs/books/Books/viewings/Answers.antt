use Rattle.std.proofs.Common.{refl}
use Rattle.dh_model.specs.Kinds.{Kind}
use Rattle.dh_books.proofs.OfKind.{listed}
use Rattle.dh_books.proofs.books.Books.viewings.Goals as goal

pub returns : goal.returns
returns c = listed Kind.Viewings c.self.inside c.self.view_is c.self.inside.viewings.entries refl c.values.ensures.ordered c.values.ensures.rest
