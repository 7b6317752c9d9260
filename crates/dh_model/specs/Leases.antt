-- What a lease covers, and what falls due on it.
use Rattle.std.specs.Prelude.{ℕ, ◌+◌, ◌-◌, ◌≤◌, ◌<◌, Bool, ◌&&◌, nat_eq, nat_le, nat_lt, List, map, Option, Some, None}
use Rattle.std.specs.List.{filter, flat_map, list_any, range_with_len}
use Rattle.std.specs.Cmp.Lexicographic.{pointwise}
use Rattle.std.specs.FinMap.{get, values}
use Rattle.dh_days.specs.Days.{days_in, month_of_day, number_in_month, plus_months}
use Rattle.dh_types.specs.declared.lease.LeaseTerms.{LeaseTerms}
use Rattle.dh_types.specs.declared.lease.Lease.{Lease}
use Rattle.dh_types.specs.declared.lease.Charge.{Charge}
use Rattle.dh_types.specs.declared.lease.Ending.{Ending}
use Rattle.dh_model.specs.Books.{Books, Endings}

-- the first day that the lease covers no more
abbrev pub end_of : LeaseTerms → ℕ
end_of lease = plus_months lease.start lease.months

-- from the start on, and before the end
abbrev pub covers : LeaseTerms → ℕ → Bool
covers lease day = nat_le lease.start day && nat_lt day (end_of lease)

abbrev pub Covers : LeaseTerms → ℕ → Type 0
Covers lease day = (lease.start ≤ day) × (day < end_of lease)

-- a place of the calendar that is no empty one
abbrev pub is_day : ℕ → Bool
is_day place = nat_le (number_in_month place) (days_in (month_of_day place))

-- the days that the lease covers
abbrev pub days_of : LeaseTerms → List ℕ
days_of lease = filter is_day (range_with_len lease.start (end_of lease - lease.start))

-- of one property, with some day that both cover
abbrev pub overlap : LeaseTerms → LeaseTerms → Bool
overlap lease other = pointwise nat_eq lease.property other.property && list_any (covers other) (days_of lease)

-- how many months the lease runs: those of its ending, where it has one, else its own
abbrev pub months_in : ℕ → Option Ending → ℕ
months_in own None = own
months_in own (Some ending) = ending.months

abbrev pub length_of : Endings → Lease → ℕ
length_of endings lease = months_in lease.terms.months (get endings lease.terms.number)

-- the terms as the lease runs
abbrev pub running : Endings → Lease → LeaseTerms
running endings lease = record lease.terms { months = length_of endings lease }

-- the charge of the lease and this index: in its month the whole of its own rent, counted from the start each time
abbrev pub due : Lease → ℕ → Charge
due lease k = record {
  lease = lease.terms.number;
  index = k;
  month = month_of_day lease.terms.start + k;
  day = plus_months lease.terms.start k;
  amount = lease.rent;
}

-- all that ever falls due on the lease
abbrev pub dues_of : Endings → Lease → List Charge
dues_of endings lease = map (due lease) (range_with_len 0 (length_of endings lease))

-- what falls due on these leases in the month
abbrev pub dues_among : Endings → List Lease → ℕ → List Charge
dues_among endings leases month = filter (λ charge. nat_eq charge.month month) (flat_map (dues_of endings) leases)

-- what falls due in the month
abbrev pub dues : Books → ℕ → List Charge
dues books month = dues_among books.endings (values books.leases) month
