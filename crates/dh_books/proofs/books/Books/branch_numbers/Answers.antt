use Rattle.std.proofs.Common.{◌∙◌, refl, ap, map}
use Rattle.dh_model.specs.Kinds.{Kind}
use Rattle.dh_books.proofs.OfKind.{entries_are}
use Rattle.dh_books.proofs.books.Books.branch_numbers.Goals as goal

pub returns : goal.returns
returns c =
    c.keys.ensures.rest ∙ ap (map (λ e. e.0)) (entries_are Kind.Branches c.self.inside c.self.view_is c.self.inside.branches.entries refl
    c.keys.ensures.ordered)
