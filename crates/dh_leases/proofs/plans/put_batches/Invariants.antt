use Rattle.std.proofs.Common.{◌≡◌, ◌-◌, ◌*◌, ◌≤◌, ◌++◌, map, max, take}
use Rattle.std.specs.List.{range_with_len}
use Rattle.dh_model.specs.Runs.{batch_size}
use Rattle.dh_leases.specs.Sums.{sum_of}
use Rattle.dh_leases.specs.Rows.{rows_at, rows_of}
use Rattle.dh_leases.proofs.plans.put_batches.Given as goal

abbrev pub invariant-loop-number : goal.invariant-loop-number
invariant-loop-number l = record {
  rows : map rows_of l.batches.items
      ≡ map rows_of l.fn.batches.items ++ map (rows_at batch_size l.run l.dues) (range_with_len l.done (l.number - l.done));
  sum : l.sum ≡ sum_of l.run.fee (take (l.number * batch_size) l.dues);
  small : l.sum.total ≤ 999999 * l.sum.count;
  less : l.sum.fees ≤ l.sum.total;
  until : l.number ≤ max l.done l.number-end;
}
