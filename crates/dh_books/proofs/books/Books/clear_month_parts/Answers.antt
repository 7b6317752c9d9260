use Rattle.std.proofs.Common.{refl, sym, subst, not, nat_eq, rules}
use Rattle.std.specs.FinMap as fin
use Rattle.std.proofs.lemmas.Map.Made.{filter_same_pairs}
use Rattle.dh_types.specs.declared.run.Part.{Part}
use Rattle.dh_model.specs.Kinds.{Kind, key_of, record_of}
use Rattle.dh_books.specs.Seen.{AreKept}
use Rattle.dh_books.proofs.Numbers.{parts_kept}
use Rattle.dh_books.proofs.OfKind.{kept_where, passing}
use Rattle.dh_books.proofs.books.Books.clear_month_parts.Goals as goal

pub returns : goal.returns
returns c =
    kept_where Kind.Parts c.self.inside c.self.view_is c.self.inside.parts.entries refl
    (λ row. not (nat_eq row.month c.args.month)) c.retain.ensures.was_ordered
    (filter_same_pairs _ (λ (e : key_of Kind.Parts × record_of Kind.Parts). not (nat_eq e.1.month c.args.month)) _ (λ k v t w f h. search rules) _ _
    c.retain.ensures.filtered)

pub invariant_of-self : goal.invariant_of-self
invariant_of-self c =
    let b = c.self.inside in
    let leases = fin.from_entries b.leases.entries in
    let stays = λ (row : Part). not (nat_eq row.month c.args.month) in
    let made = passing Kind.Parts b c.self.view_is b.parts.entries refl stays c.retain.ensures.was_ordered
    (filter_same_pairs _ (λ (e : key_of Kind.Parts × record_of Kind.Parts). not (nat_eq e.1.month c.args.month)) _ (λ k v t w f h. search rules) _ _
    c.retain.ensures.filtered) in
    subst (AreKept leases) (sym made) (parts_kept leases (fin.from_entries b.parts.entries) c.self.invariant stays)
