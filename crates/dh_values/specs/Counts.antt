-- Which numbers are numbers of leases, rooms and the like, and which texts spell them.
use Rattle.std.specs.Prelude.{ℕ, ◌≤◌, Option, List}
use Rattle.dh_values.specs.Numbers.{numeral_of, within}
use Rattle.dh_values.specs.declared.limits.TheConstants.{LEAST_LEASE_MONTHS, MOST_BATCHES, MOST_LEASE_MONTHS, MOST_NUMBER}
use Rattle.dh_values.specs.declared.limits.TheConstants.{MOST_FEE, MOST_ROOMS}

abbrev pub IsLeaseNo : ℕ → Type 0
IsLeaseNo n = (1 ≤ n) × (n ≤ MOST_NUMBER)

abbrev pub lease_no_of : List ℕ → Option ℕ
lease_no_of text = within 1 MOST_NUMBER (numeral_of text)

abbrev pub IsReceiptNo : ℕ → Type 0
IsReceiptNo n = (1 ≤ n) × (n ≤ MOST_NUMBER)

abbrev pub IsRooms : ℕ → Type 0
IsRooms n = (1 ≤ n) × (n ≤ MOST_ROOMS)

abbrev pub rooms_of : List ℕ → Option ℕ
rooms_of text = within 1 MOST_ROOMS (numeral_of text)

-- how many months a lease runs
abbrev pub IsLeaseMonths : ℕ → Type 0
IsLeaseMonths n = (LEAST_LEASE_MONTHS ≤ n) × (n ≤ MOST_LEASE_MONTHS)

abbrev pub lease_months_of : List ℕ → Option ℕ
lease_months_of text = within LEAST_LEASE_MONTHS MOST_LEASE_MONTHS (numeral_of text)

-- how many batches at most
abbrev pub IsBatchCount : ℕ → Type 0
IsBatchCount n = (1 ≤ n) × (n ≤ MOST_BATCHES)

abbrev pub batch_count_of : List ℕ → Option ℕ
batch_count_of text = within 1 MOST_BATCHES (numeral_of text)

-- hundredths of a percent
abbrev pub IsFee : ℕ → Type 0
IsFee n = n ≤ MOST_FEE

abbrev pub fee_of : List ℕ → Option ℕ
fee_of text = within 0 MOST_FEE (numeral_of text)
