-- What the definitions owe each other.
use Rattle.std.specs.Prelude.{◌≡◌, ◌↔◌, ◌<◌, ◌≤◌, ℕ, true, List, length}
use Rattle.std.specs.List.{IsAmong}
use Rattle.std.specs.FinMap.{values}
use Rattle.dh_values.specs.declared.limits.TheConstants.{MOST_FEE}
use Rattle.dh_days.specs.Days.{IsDay, month_of_day}
use Rattle.dh_types.specs.declared.lease.LeaseTerms.{LeaseTerms}
use Rattle.dh_types.specs.declared.lease.Lease.{Lease}
use Rattle.dh_types.specs.declared.lease.Charge.{Charge}
use Rattle.dh_model.specs.Books.{Books, Endings}
use Rattle.dh_model.specs.Runs.{fees_over, total_of}
use Rattle.dh_model.specs.Leases.{Covers, due, dues, dues_of, end_of, length_of, overlap, running}

-- leases overlap exactly where they are of one property and cover a common day
abbrev pub OverlapIsCommonDay : Type 0
OverlapIsCommonDay = (lease other : LeaseTerms) → IsDay lease.start → IsDay (end_of lease)
    → (overlap lease other ≡ true) ↔ ((lease.property ≡ other.property) × ((day : ℕ) × IsDay day × Covers lease day × Covers other day))

-- and this goes both ways
abbrev pub OverlapGoesBothWays : Type 0
OverlapGoesBothWays = (lease other : LeaseTerms) → overlap lease other ≡ overlap other lease

-- of one property, each starts before the other's end
abbrev pub OverlapIsByEnds : Type 0
OverlapIsByEnds = (lease other : LeaseTerms) → IsDay lease.start → IsDay other.start → lease.start < end_of lease → other.start < end_of other
    → (overlap lease other ≡ true) ↔ ((lease.property ≡ other.property) × (lease.start < end_of other) × (other.start < end_of lease))

-- a charge falls due in a month exactly where it is some lease's, of an index below its months, and of that month
abbrev pub DuesAreThoseOfLeases : Type 0
DuesAreThoseOfLeases = (books : Books) (month : ℕ) (charge : Charge)
    → IsAmong (dues books month) charge ↔ ((lease : Lease) × (k : ℕ) × IsAmong (values books.leases) lease × (k < length_of books.endings lease)
    × (charge ≡ due lease k)
    × (charge.month ≡ month))

-- a charge that falls due in two months does so in one
abbrev pub MonthsShareNoDue : Type 0
MonthsShareNoDue = (books : Books) (m n : ℕ) (charge : Charge) → IsAmong (dues books m) charge → IsAmong (dues books n) charge → m ≡ n

-- a lease has as many dues as months that it runs
abbrev pub DuesNumberTheMonths : Type 0
DuesNumberTheMonths = (endings : Endings) (lease : Lease) → length (dues_of endings lease) ≡ length_of endings lease

-- a due's day lies in its month
abbrev pub DuesLieInTheirMonth : Type 0
DuesLieInTheirMonth = (lease : Lease) (k : ℕ) → month_of_day (due lease k).day ≡ (due lease k).month

-- a lease has one due in a month
abbrev pub OneDueInAMonth : Type 0
OneDueInAMonth = (lease : Lease) (j k : ℕ) → (due lease j).month ≡ (due lease k).month → j ≡ k

-- each due lies on a day that the lease covers
abbrev pub DuesAreCovered : Type 0
DuesAreCovered = (endings : Endings) (lease : Lease) (k : ℕ) → IsDay lease.terms.start → k < length_of endings lease
    → Covers (running endings lease) (due lease k).day

-- no fee takes more than the rents
abbrev pub FeesAreNoMore : Type 0
FeesAreNoMore = (fee : ℕ) (charges : List Charge) → fee ≤ MOST_FEE → fees_over fee charges ≤ total_of charges
