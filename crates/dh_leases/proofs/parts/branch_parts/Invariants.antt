use Rattle.std.proofs.Common.{◌≡◌, map}
use Rattle.std.specs.Map.Iter.{deref}
use Rattle.dh_model.specs.Runs.{dues_of_branch, part_of}
use Rattle.dh_leases.proofs.parts.branch_parts.Given as goal

abbrev pub invariant-loop-branch : goal.invariant-loop-branch
invariant-loop-branch l = l.parts.items ≡ map (λ branch. part_of l.month branch (dues_of_branch l.books.books l.month branch)) (map deref l.yielded)
