use Rattle.std.proofs.Common.{refl, subst}
use Rattle.dh_model.specs.Books.{State}
use Rattle.dh_model.specs.BatchLaws.{AreNumbered}
use Rattle.dh_model.specs.Kinds.{Kind}
use Rattle.dh_books.proofs.OfKind.{got}
use Rattle.dh_books.proofs.books.Books.lease.Goals as goal

pub returns-clause-value : goal.returns-clause-value
returns-clause-value c = got Kind.Leases c.self.inside c.self.view_is c.self.inside.leases.entries refl c.args.key.now c.get.ensures.value

pub returns-clause-numbered : goal.returns-clause-numbered
returns-clause-numbered c = subst (λ (s : State). AreNumbered s.books) c.self.view_is c.self.invariant.numbered
