use Rattle.std.proofs.Common.{refl, sym, subst, arith}
use Rattle.std.specs.FinMap as fin
use Rattle.dh_values.specs.Counts.{IsLeaseNo}
use Rattle.dh_model.specs.Kinds.{Kind}
use Rattle.dh_model.proofs.KeyOrders.{nat_ties, nat_total}
use Rattle.dh_model.proofs.MapLemmas.{one-given}
use Rattle.dh_books.specs.Seen.{AreKept}
use Rattle.dh_books.proofs.Numbers.{put_kept}
use Rattle.dh_books.proofs.OfKind.{put}
use Rattle.dh_books.proofs.books.Books.put_lease.Goals as goal

pub returns-clause-ok : goal.returns-clause-ok
returns-clause-ok c =
    put Kind.Leases c.self.inside c.self.view_is c.self.inside.leases.entries refl
    c.args.row.terms.number c.args.row c.insert.new.self.entries (rw c.key-number.ensures at c.in_ok-_before.ensures.updates.0)

pub invariant_of-self-2 : goal.invariant_of-self-2
invariant_of-self-2 c =
    let b = c.self.inside in
    let made = one-given nat_total nat_ties b.leases.entries c.insert.new.self.entries c.args.row.terms.number c.args.row
    (rw c.key-number.ensures at c.in_ok-_before.ensures.updates.0) in
    let is : IsLeaseNo c.args.row.terms.number = subst IsLeaseNo c.key-number.ensures (omega arith, omega arith) in
    let parts = fin.from_entries b.parts.entries in
    subst (λ leases. AreKept leases parts) (sym made) (put_kept (fin.from_entries b.leases.entries) parts c.self.invariant c.args.row is)
