-- What charges come to.
use Rattle.std.specs.Prelude.{ℕ, List, length}
use Rattle.dh_types.specs.declared.lease.Charge.{Charge}
use Rattle.dh_model.specs.Runs.{fees_over, greatest_lease, total_of}
use Rattle.dh_leases.specs.declared.sums.Sum.{Sum}

-- and what a fee takes of them
abbrev pub sum_of : ℕ → List Charge → Sum
sum_of fee charges = record { fee = fee; through = greatest_lease charges; count = length charges; total = total_of charges; fees = fees_over fee charges }
