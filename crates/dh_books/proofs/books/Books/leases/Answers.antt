use Rattle.std.proofs.Common.{refl, subst, length, ◌≤◌}
use Rattle.std.specs.FinMap as fin
use Rattle.dh_model.specs.Books.{State}
use Rattle.dh_model.specs.BatchLaws.{AreNumbered}
use Rattle.dh_model.specs.Kinds.{Kind}
use Rattle.dh_books.specs.Seen.{state_of}
use Rattle.dh_books.proofs.Numbers.{few_leases}
use Rattle.dh_books.proofs.OfKind.{listed}
use Rattle.dh_books.proofs.books.Books.leases.Goals as goal

pub returns-clause-rows : goal.returns-clause-rows
returns-clause-rows c = listed Kind.Leases c.self.inside c.self.view_is c.self.inside.leases.entries refl c.values.ensures.ordered c.values.ensures.rest

pub returns-clause-numbered : goal.returns-clause-numbered
returns-clause-numbered c = subst (λ (s : State). AreNumbered s.books) c.self.view_is c.self.invariant.numbered

pub returns-clause-few : goal.returns-clause-few
returns-clause-few c =
    subst (λ (s : State). length (fin.values s.books.leases) ≤ 99999999) c.self.view_is (few_leases (state_of c.self.inside).books c.self.invariant)
