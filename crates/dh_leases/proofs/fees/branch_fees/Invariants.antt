use Rattle.std.proofs.Common.{◌≡◌, map}
use Rattle.std.specs.Map.Iter.{deref}
use Rattle.dh_leases.proofs.RunLemmas.{fee_of_all}
use Rattle.dh_leases.proofs.fees.branch_fees.Given as goal

abbrev pub invariant-loop-branch : goal.invariant-loop-branch
invariant-loop-branch l = l.fees.items ≡ map (fee_of_all l.books.books l.month) (map deref l.yielded)
