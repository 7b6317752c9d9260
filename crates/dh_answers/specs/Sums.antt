-- Pence by lease.
use Rattle.std.specs.Prelude.{ℕ}
use Rattle.std.specs.Option.{unwrap_or}
use Rattle.std.specs.Ordering.{nat_cmp}
use Rattle.std.specs.BTreeMap.{BTreeMap, get}

-- the pence under the lease, 0 where there are none
abbrev pub sum_at : BTreeMap ℕ ℕ → ℕ → ℕ
sum_at sums lease = unwrap_or (get nat_cmp sums lease) 0
