use Rattle.std.proofs.Common.{◌≡◌, ◌+◌, ◌*◌, ◌≤◌, length}
use Rattle.std.specs.List.{filter, sum_by}
use Rattle.std.specs.Prelude.{nat_eq}
use Rattle.dh_model.specs.Runs.{batch_size, batches_for}
use Rattle.dh_model.specs.Whole.{batches_shown}
use Rattle.dh_leases.proofs.batch_counts.batches_shown.Given as goal

abbrev pub invariant-loop-part : goal.invariant-loop-part
invariant-loop-part l = record {
  value : l.done + sum_by (λ part. batches_for batch_size part.count) (filter (λ part. nat_eq part.month l.fn.month) l.part-iterator)
      ≡ batches_shown batch_size l.books.books l.fn.month;
  range : l.done + 18446744073709551616 * length l.part-iterator ≤ 18446744073709551616 * l._count;
}
