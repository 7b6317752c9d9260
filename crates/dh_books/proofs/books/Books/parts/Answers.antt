use Rattle.std.proofs.Common.{refl, subst}
use Rattle.dh_model.specs.BatchLaws.{AreNumbered}
use Rattle.dh_model.specs.Books.{StandUnder, State}
use Rattle.dh_model.specs.Kinds.{Kind}
use Rattle.dh_model.specs.Runs.{part_key}
use Rattle.dh_books.proofs.OfKind.{listed}
use Rattle.dh_books.proofs.books.Books.parts.Goals as goal

pub returns-clause-rows : goal.returns-clause-rows
returns-clause-rows c = listed Kind.Parts c.self.inside c.self.view_is c.self.inside.parts.entries refl c.values.ensures.ordered c.values.ensures.rest

pub returns-clause-keyed : goal.returns-clause-keyed
returns-clause-keyed c = subst (λ (s : State). StandUnder part_key s.books.parts) c.self.view_is c.self.invariant.parted

pub returns-clause-numbered : goal.returns-clause-numbered
returns-clause-numbered c = subst (λ (s : State). AreNumbered s.books) c.self.view_is c.self.invariant.numbered
