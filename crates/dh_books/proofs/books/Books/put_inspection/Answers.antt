use Rattle.std.proofs.Common.{refl}
use Rattle.dh_model.specs.Kinds.{Kind}
use Rattle.dh_books.proofs.OfKind.{put}
use Rattle.dh_books.proofs.books.Books.put_inspection.Goals as goal

pub returns-clause-ok : goal.returns-clause-ok
returns-clause-ok c =
    put Kind.Inspections c.self.inside c.self.view_is c.self.inside.inspections.entries refl
    (c.args.row.property, c.args.row.day) c.args.row c.insert.new.self.entries c.in_ok-_before.ensures.updates.0
