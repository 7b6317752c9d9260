use Rattle.std.proofs.Common.{◌≡◌, ◌<◌, ℕ, All, true, flat_map, get_or, take}
use Rattle.sqlite.specs.Values.{bound}
use Rattle.dh_tables.proofs.bulk.columns_of.Given as goal

abbrev pub invariant-loop-at : goal.invariant-loop-at
invariant-loop-at g l = record {
  columns : bound l.values.items ≡ flat_map g.R.Record.row (take l.at l.rows);
  grammar : All g.R.Record.can_keep l.rows → (k : ℕ) (d : g.row.R.Denot) → k < l.at → g.R.Record.is_row (g.R.Record.row (get_or l.rows k d)) ≡ true;
}
