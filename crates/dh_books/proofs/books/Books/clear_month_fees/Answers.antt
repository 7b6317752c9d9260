use Rattle.std.proofs.Common.{refl, not, nat_eq, rules}
use Rattle.std.proofs.lemmas.Map.Made.{filter_same_pairs}
use Rattle.dh_model.specs.Kinds.{Kind, key_of, record_of}
use Rattle.dh_books.proofs.OfKind.{kept_where}
use Rattle.dh_books.proofs.books.Books.clear_month_fees.Goals as goal

pub returns : goal.returns
returns c =
    kept_where Kind.PartFees c.self.inside c.self.view_is c.self.inside.part_fees.entries refl
    (λ row. not (nat_eq row.month c.args.month)) c.retain.ensures.was_ordered
    (filter_same_pairs _ (λ (e : key_of Kind.PartFees × record_of Kind.PartFees). not (nat_eq e.1.month c.args.month)) _ (λ k v t w f h. search rules) _ _
    c.retain.ensures.filtered)
