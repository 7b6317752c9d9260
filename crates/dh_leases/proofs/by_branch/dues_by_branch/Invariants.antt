use Rattle.std.proofs.Common.{◌≡◌, ℕ, List, map}
use Rattle.std.specs.List.{filter}
use Rattle.std.specs.Map.Iter.{deref}
use Rattle.dh_model.specs.Leases.{dues_among}
use Rattle.dh_leases.specs.Dues.{charges_at}
use Rattle.dh_leases.proofs.PartLemmas.{of_branch}
use Rattle.dh_leases.proofs.by_branch.dues_by_branch.Given as goal

abbrev pub invariant-loop-lease : goal.invariant-loop-lease
invariant-loop-lease l =
    (branch : List ℕ) → charges_at l.dues branch ≡ dues_among l.books.books.endings
    (filter (of_branch l.books.books.properties branch) (map deref l.yielded)) l.month
