-- What the definitions of rent runs owe each other.
use Rattle.std.specs.Prelude.{◌≡◌, ◌≤◌, ◌<◌, ℕ, ◌+◌, List, nat_eq}
use Rattle.std.specs.List.{IsAmong, count_by}
use Rattle.std.specs.FinMap.{keys}
use Rattle.dh_types.specs.declared.lease.Charge.{Charge}
use Rattle.dh_model.specs.Books.{Books, StandUnderTheirNumbers}
use Rattle.dh_model.specs.Runs.{batch_of, batches, batches_before, batches_of_branch, begun_branches, dues_of_branch, posted_of_branch}
use Rattle.dh_model.specs.Rules.{ArePosted}

-- the books' leases stand under their numbers
abbrev pub AreNumbered : Books → Type 0
AreNumbered books = StandUnderTheirNumbers books.leases

module _ (size : ℕ) where
  -- no batch has more charges than the size
  abbrev pub NoBatchIsTooLarge : Type 0
  NoBatchIsTooLarge = (books : Books) (month : ℕ) (branch : List ℕ) (number : ℕ) → 1 ≤ size → AreNumbered books
      → count_by (λ charge. nat_eq (batch_of size books month branch charge) number) (dues_of_branch books month branch) ≤ size

  -- each due of a branch belongs to one of the branch's batches
  abbrev pub EachDueHasItsBatch : Type 0
  EachDueHasItsBatch = (books : Books) (month : ℕ) (branch : List ℕ) (charge : Charge) → 1 ≤ size → AreNumbered books
      → IsAmong (dues_of_branch books month branch) charge
      → batch_of size books month branch charge < batches_before size books month branch + batches_of_branch size books month branch

  -- and these are among all batches
  abbrev pub BatchesOfBranchesAreAmongAll : Type 0
  BatchesOfBranchesAreAmongAll = (books : Books) (month : ℕ) (branch : List ℕ) → IsAmong (keys books.branches) branch
      → batches_before size books month branch + batches_of_branch size books month branch ≤ batches size books month

  -- after the last batch all dues of each branch are posted, and each branch has begun
  abbrev pub LastBatchPostsAll : Type 0
  LastBatchPostsAll = (books : Books) (month : ℕ) → 1 ≤ size → AreNumbered books
      → ((branch : List ℕ) → IsAmong (keys books.branches) branch
      → posted_of_branch size books month (batches size books month) branch ≡ dues_of_branch books month branch)
      × (begun_branches size books month (batches size books month) ≡ keys books.branches)

  -- an open run stands at one number of batches
  abbrev pub OneNumberOfBatches : Type 0
  OneNumberOfBatches = (books : Books) (month j k : ℕ) → 1 ≤ size → AreNumbered books → ArePosted books size month j → ArePosted books size month k → j ≡ k
