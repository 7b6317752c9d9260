use Rattle.std.proofs.Common.{◌∙◌, refl, ap, map}
use Rattle.dh_model.specs.Kinds.{Kind}
use Rattle.dh_books.proofs.OfKind.{entries_are}
use Rattle.dh_books.proofs.books.Books.run_months.Goals as goal

pub returns : goal.returns
returns c =
    c.keys.ensures.rest ∙ ap (map (λ e. e.0)) (entries_are Kind.Runs c.self.inside c.self.view_is c.self.inside.runs.entries refl c.keys.ensures.ordered)
