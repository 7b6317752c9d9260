use Rattle.std.proofs.Common.{◌∙◌, refl, sym, ap, rules, Some}
use Rattle.std.specs.FinMap.{from_entries}
use Rattle.std.specs.Option.{option_copied_mut}
use Rattle.dh_model.specs.Kinds.{Kind}
use Rattle.dh_books.specs.Seen.{state_of}
use Rattle.dh_books.proofs.OfKind.{none_there, put_for, with_rows}
use Rattle.dh_books.proofs.books.Books.set_comment.Goals as goal

pub returns-in_default : goal.returns-in_default
returns-in_default c =
    ap (λ m. with_rows Kind.Viewings c.self.inside c.self.view_is c.self.inside.viewings.entries refl
    (from_entries m.entries) (state_of c.self.inside)) c.get_mut.follows.holds-at-none
    ∙ none_there Kind.Viewings c.self.inside c.self.view_is c.self.inside.viewings.entries refl
    (c.args.it.client, c.args.it.property) (λ row. record row { comment = Some c.args.it.comment })
    (ap option_copied_mut (sym c.in_default.is) ∙ c.get_mut.ensures.value)

pub returns : goal.returns
returns c =
    let row = c.put_comment.new.viewing in
    let writes = (c.get_mut.follows.holds row).3 (search rules) in
    put_for Kind.Viewings c.self.inside c.self.view_is c.self.inside.viewings.entries refl
    (c.args.it.client, c.args.it.property) row (c.get_mut.follows.lender row).entries writes.0
    (λ row. record row { comment = Some c.args.it.comment }) (ap option_copied_mut (sym c.in-Some.is) ∙ c.get_mut.ensures.value) c.put_comment.ensures
