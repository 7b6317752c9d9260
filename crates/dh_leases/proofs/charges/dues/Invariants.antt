use Rattle.std.proofs.Common.{◌≡◌, map}
use Rattle.std.specs.Map.Iter.{deref}
use Rattle.dh_model.specs.Leases.{dues_among}
use Rattle.dh_leases.proofs.charges.dues.Given as goal

abbrev pub invariant-loop-lease : goal.invariant-loop-lease
invariant-loop-lease l = l.charges.items ≡ dues_among l.books.books.endings (map deref l.yielded) l.month
