use Rattle.std.proofs.Common.{◌≡◌, map, take}
use Rattle.dh_tables.proofs.bulk.day_texts.Given as goal

abbrev pub invariant-loop-row : goal.invariant-loop-row
invariant-loop-row g l = map (λ day. day.items) l.days.items ≡ map g.R.Record.day_column (take l.row-index l.rows)
