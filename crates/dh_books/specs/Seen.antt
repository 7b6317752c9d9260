-- What a clause sees of the books in memory, and what they keep of themselves.
use Rattle.std.specs.Prelude.{◌≡◌, ℕ, Some}
use Rattle.std.specs.Ordering.{nat_cmp}
use Rattle.std.specs.FinMap.{FinMap, from_entries, get}
use Rattle.dh_values.specs.Counts.{IsLeaseNo}
use Rattle.dh_types.specs.declared.lease.Lease.{Lease}
use Rattle.dh_types.specs.declared.run.Part.{Part}
use Rattle.dh_model.specs.Books.{StandUnder, StandUnderTheirNumbers, State, pair_cmp, text_cmp}
use Rattle.dh_model.specs.Runs.{part_key}
use Rattle.dh_books.specs.declared.books.Books.TheInside.{Inside}

-- the machine's state
abbrev pub state_of : Inside → State
state_of b = record {
  books = record {
    branches = from_entries b.branches.entries;
    staff = from_entries b.staff.entries;
    owners = from_entries b.owners.entries;
    properties = from_entries b.properties.entries;
    clients = from_entries b.clients.entries;
    registrations = from_entries b.registrations.entries;
    viewings = from_entries b.viewings.entries;
    inspections = from_entries b.inspections.entries;
    leases = from_entries b.leases.entries;
    charges = from_entries b.charges.entries;
    receipts = from_entries b.receipts.entries;
    runs = from_entries b.runs.entries;
    parts = from_entries b.parts.entries;
    branch_fees = from_entries b.branch_fees.entries;
    part_fees = from_entries b.part_fees.entries;
    endings = from_entries b.endings.entries;
    first = b.first;
    next = b.next;
    version = b.version;
  };
  open_run = b.open_run;
}

-- each lease stands under its number, which is a lease's, and each part row under its month and branch
pub record AreKept (leases : FinMap nat_cmp Lease) (parts : FinMap (pair_cmp nat_cmp text_cmp) Part) : Type 0 where
  pub numbered : StandUnderTheirNumbers leases
  pub in_range : (number : ℕ) (lease : Lease) → get leases number ≡ Some lease → IsLeaseNo lease.terms.number
  pub parted : StandUnder part_key parts
