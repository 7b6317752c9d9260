-- Leases stand under their numbers, and part rows under their keys, as they are put; and leases are no more than numbers.
use Rattle.std.proofs.Common.{◌≡◌, ℕ, ◌+◌, ◌<◌, ◌≤◌, Bool, List, [], ◌∷◌, length, nat_cmp, refl, sym, subst, inl, inr, arith}
use Rattle.std.specs.FinMap.{FinMap, from_entries, insert, values}
use Rattle.dh_values.specs.Counts.{IsLeaseNo}
use Rattle.dh_types.specs.declared.lease.Lease.{Lease}
use Rattle.dh_types.specs.declared.run.Part.{Part}
use Rattle.dh_model.specs.Books.{Books, pair_cmp, text_cmp}
use Rattle.dh_model.specs.Runs.{part_key}
use Rattle.dh_model.specs.Whole.{rows_where}
use Rattle.dh_model.proofs.Among.{Among}
use Rattle.dh_model.proofs.BranchDues.{leases_rise, number_of}
use Rattle.dh_model.proofs.KeyOrders.{nat_text_ties, nat_text_total, nat_ties, nat_total}
use Rattle.dh_model.proofs.MapRows.{got_after, row_of}
use Rattle.dh_model.proofs.Rising.{Lesser, Rises}
use Rattle.dh_model.proofs.UnderKeys.{insert_keyed, none_got, rows_where_keyed}
use Rattle.dh_books.specs.Seen.{AreKept}

-- where there is none
pub none_kept : (leases : List (ℕ × Lease)) (parts : List ((ℕ × List ℕ) × Part)) → leases ≡ [] → parts ≡ []
    → AreKept (from_entries {R = nat_cmp} leases) (from_entries {R = pair_cmp nat_cmp text_cmp} parts)
none_kept leases parts no_lease no_part = record {
  numbered = λ number lease found. absurd (none_got nat_total leases no_lease number lease found);
  in_range = λ number lease found. absurd (none_got nat_total leases no_lease number lease found);
  parted = λ key part found. absurd (none_got nat_text_total parts no_part key part found);
}

module _ (leases : FinMap nat_cmp Lease) (parts : FinMap (pair_cmp nat_cmp text_cmp) Part) (kept : AreKept leases parts) where
  -- one more lease, or another in its place
  pub put_kept : (row : Lease) → IsLeaseNo row.terms.number → AreKept (insert leases row.terms.number row) parts
  put_kept row is = record {
    numbered = insert_keyed nat_total nat_ties number_of leases row.terms.number row refl kept.numbered;
    in_range = λ number lease found. elim (got_after nat_total nat_ties leases row.terms.number row number lease found) [
      | inl new ↦ subst (λ (l : Lease). IsLeaseNo l.terms.number) (sym new.1) is
      | inr old ↦ kept.in_range number lease old.1
    ];
    parted = kept.parted;
  }

  -- one more part row, or another in its place
  pub part_kept : (row : Part) → AreKept leases (insert parts (part_key row) row)
  part_kept row = record {
    numbered = kept.numbered;
    in_range = kept.in_range;
    parted = insert_keyed nat_text_total nat_text_ties part_key parts (part_key row) row refl kept.parted;
  }

  -- the part rows that pass a test
  pub parts_kept : (test : Part → Bool) → AreKept leases (rows_where test parts)
  parts_kept test = record {
    numbered = kept.numbered;
    in_range = kept.in_range;
    parted = rows_where_keyed nat_text_total nat_text_ties part_key test parts kept.parted;
  }

-- numbers from low to top that rise
no_more : (low top : ℕ) (leases : List Lease) → low ≤ top + 1 → Rises (Lesser number_of) leases
    → ((lease : Lease) → Among leases lease → low ≤ lease.terms.number) → ((lease : Lease) → Among leases lease → lease.terms.number ≤ top)
    → low + length leases ≤ top + 1
no_more low top [] within rise above below = omega (arith, within)
no_more low top (lease ∷ leases) within rise above below =
    let first = above lease (inl refl) in
    let last = below lease (inl refl) in
    let rest = no_more (low + 1) top leases (omega (arith, first, last)) rise.1
    (λ other a. let less : lease.terms.number < other.terms.number = rise.0 other a in omega (arith, first, less)) (λ other a. below other (inr a)) in
    omega (arith, rest)

pub few_leases : (books : Books) → AreKept books.leases books.parts → length (values books.leases) ≤ 99999999
few_leases books kept =
    let is_one : (lease : Lease) → Among (values books.leases) lease → IsLeaseNo lease.terms.number
    = λ lease a. let row = row_of nat_total nat_ties books.leases lease a in kept.in_range row.0 lease row.1 in
    let all = no_more 1 99999999 (values books.leases) (omega arith) (leases_rise books kept.numbered) (λ lease a. (is_one lease a).0)
    (λ lease a. (is_one lease a).1) in
    omega (arith, all)
