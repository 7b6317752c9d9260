use Rattle.std.proofs.Common.{refl, sym, subst}
use Rattle.std.specs.FinMap as fin
use Rattle.dh_model.specs.Kinds.{Kind}
use Rattle.dh_model.proofs.KeyOrders.{nat_text_ties, nat_text_total}
use Rattle.dh_model.proofs.MapLemmas.{one-given}
use Rattle.dh_books.specs.Seen.{AreKept}
use Rattle.dh_books.proofs.Numbers.{part_kept}
use Rattle.dh_books.proofs.OfKind.{put}
use Rattle.dh_books.proofs.books.Books.put_part.Goals as goal

pub returns-clause-ok : goal.returns-clause-ok
returns-clause-ok c =
    put Kind.Parts c.self.inside c.self.view_is c.self.inside.parts.entries refl
    (c.args.row.month, c.args.row.branch) c.args.row c.insert.new.self.entries c.in_ok-_before.ensures.updates.0

pub invariant_of-self-2 : goal.invariant_of-self-2
invariant_of-self-2 c =
    let b = c.self.inside in
    let leases = fin.from_entries b.leases.entries in
    let made = one-given nat_text_total nat_text_ties b.parts.entries c.insert.new.self.entries (c.args.row.month, c.args.row.branch) c.args.row
    c.in_ok-_before.ensures.updates.0 in
    subst (AreKept leases) (sym made) (part_kept leases (fin.from_entries b.parts.entries) c.self.invariant c.args.row)
