-- What leases cover of their properties, as long as they run.
use Rattle.std.specs.Prelude.{ℕ, ◌<◌, ◌||◌, not, nat_le, Bool, List, map}
use Rattle.std.specs.FinMap.{values}
use Rattle.dh_days.specs.Days.{IsDay}
use Rattle.dh_types.specs.declared.lease.Lease.{Lease}
use Rattle.dh_types.specs.declared.lease.LeaseTerms.{LeaseTerms}
use Rattle.dh_model.specs.Books.{Books, Endings}
use Rattle.dh_model.specs.Leases.{end_of, running}
use Rattle.dh_model.specs.Checks.{is_same_text}
use Rattle.dh_audit_rules.specs.declared.occupancies.Occupancy.{Occupancy}

abbrev pub stay_of : LeaseTerms → Occupancy
stay_of terms = record { property = terms.property; start = terms.start; end = end_of terms }

-- what the lease covers, as long as it runs
abbrev pub stay_on : Endings → Lease → Occupancy
stay_on endings lease = stay_of (running endings lease)

-- what all leases cover
abbrev pub stays_on : Books → List Occupancy
stays_on books = map (stay_on books.endings) (values books.leases)

-- the stays are in the order of these
abbrev pub stay_key : Occupancy → List ℕ × ℕ
stay_key stay = (stay.property, stay.start)

-- it starts on a day, and ends later
pub record IsSound (stay : Occupancy) : Type 0 where
  pub day : IsDay stay.start
  pub later : stay.start < stay.end

-- it is of another property than the next, or ends before that starts
abbrev pub makes_way : Occupancy → Occupancy → Bool
makes_way stay next = not (is_same_text stay.property next.property) || nat_le stay.end next.start
