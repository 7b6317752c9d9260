use Rattle.std.proofs.Common.{◌≡◌, ◌+◌}
use Rattle.std.specs.List.{sum_by}
use Rattle.std.specs.FinMap.{values}
use Rattle.dh_runs.proofs.run_end.sum_of.Given as goal

abbrev pub invariant-loop-part : goal.invariant-loop-part
invariant-loop-part l = record {
  count : l.count + sum_by (λ part. part.count) l.part-iterator ≡ sum_by (λ part. part.count) (values l.books.books.parts);
  total : l.total + sum_by (λ part. part.total) l.part-iterator ≡ sum_by (λ part. part.total) (values l.books.books.parts);
}
