use Rattle.std.proofs.Common.{◌≡◌, map}
use Rattle.std.specs.List.{filter, flat_map}
use Rattle.std.specs.Map.Iter.{deref}
use Rattle.dh_model.specs.Runs.{batch_size, posted_of_branch}
use Rattle.dh_leases.proofs.PostedLemmas.{fee_row_after, has_begun, left_after, part_after}
use Rattle.dh_leases.proofs.posted.posted.Given as goal

abbrev pub invariant-loop-branch : goal.invariant-loop-branch
invariant-loop-branch l = record {
  charges : l.charges.items ≡ flat_map (posted_of_branch batch_size l.books.books l.fn.month l.done) (map deref l.yielded);
  parts : l.parts.items ≡ map (part_after batch_size l.books.books l.fn.month l.done)
      (filter (has_begun batch_size l.books.books l.fn.month l.done) (map deref l.yielded));
  fees : l.fees.items ≡ map (fee_row_after batch_size l.books.books l.fn.month l.done)
      (filter (has_begun batch_size l.books.books l.fn.month l.done) (map deref l.yielded));
  left : l.left ≡ left_after batch_size l.books.books l.fn.month l.done (map deref l.yielded);
}
