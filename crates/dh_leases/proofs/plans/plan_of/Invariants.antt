use Rattle.std.proofs.Common.{◌≡◌, map}
use Rattle.std.specs.List.{flat_map}
use Rattle.std.specs.Map.Iter.{deref}
use Rattle.dh_model.specs.Runs.{batch_size}
use Rattle.dh_leases.proofs.PostedLemmas.{left_after}
use Rattle.dh_leases.specs.Rows.{rows_left, rows_of}
use Rattle.dh_leases.proofs.plans.plan_of.Given as goal

abbrev pub invariant-loop-branch : goal.invariant-loop-branch
invariant-loop-branch l = record {
  rows : map rows_of l.batches.items ≡ flat_map (rows_left batch_size l.books.books l.run.month l.run.done) (map deref l.yielded);
  left : l.left ≡ left_after batch_size l.books.books l.run.month l.run.done (map deref l.yielded);
}
