use Rattle.std.proofs.Common.{◌∙◌, refl}
use Rattle.dh_model.specs.Kinds.{Kind}
use Rattle.dh_books.proofs.OfKind.{entries_are}
use Rattle.dh_books.proofs.books.Books.into_branches.Goals as goal

pub returns : goal.returns
returns c =
    c.into_iter.ensures.into_iter_gives.0 ∙ entries_are Kind.Branches c.self.inside c.self.view_is c.self.inside.branches.entries refl
    c.into_iter.ensures.into_iter_gives.5
