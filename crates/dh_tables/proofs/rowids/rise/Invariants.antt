use Rattle.std.proofs.Common.{◌<ℤ◌, ◌<◌, ◌+◌, ℕ, pos, get_or}
use Rattle.dh_tables.proofs.rowids.rise.Given as goal

abbrev pub invariant-loop-at : goal.invariant-loop-at
invariant-loop-at l = (k : ℕ) → k + 1 < l.at → get_or l.numbers k (pos 0) <ℤ get_or l.numbers (k + 1) (pos 0)
