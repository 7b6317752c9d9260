use Rattle.std.proofs.Common.{◌∙◌, refl, sym, ap, length}
use Rattle.std.specs.FinMap.{len-entries}
use Rattle.dh_model.specs.Kinds.{Kind}
use Rattle.dh_books.proofs.OfKind.{entries_are}
use Rattle.dh_books.proofs.books.Books.receipt_count.Goals as goal

pub returns : goal.returns
returns c =
    c.len.ensures.len ∙ ap length (entries_are Kind.Receipts c.self.inside c.self.view_is c.self.inside.receipts.entries refl c.len.ensures.ordered)
    ∙ sym (len-entries c.args.self.now.books.receipts)
