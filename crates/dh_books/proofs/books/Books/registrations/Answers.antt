use Rattle.std.proofs.Common.{refl}
use Rattle.dh_model.specs.Kinds.{Kind}
use Rattle.dh_books.proofs.OfKind.{listed}
use Rattle.dh_books.proofs.books.Books.registrations.Goals as goal

pub returns : goal.returns
returns c = listed Kind.Registrations c.self.inside c.self.view_is c.self.inside.registrations.entries refl c.values.ensures.ordered c.values.ensures.rest
