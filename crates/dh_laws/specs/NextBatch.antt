-- What the next batch of a run adds: so many of the first charges that are due and not there.
use Rattle.std.specs.Prelude.{◌≡◌, ◌≤◌, ◌<◌, ℕ, ◌+◌, ◌⊎◌, List, Some, None}
use Rattle.std.specs.declared.cmp.Ordering.TheVariants.{Less}
use Rattle.std.specs.List.{IsAmong}
use Rattle.std.specs.FinMap.{get, keys, len, values}
use Rattle.dh_types.specs.declared.lease.Charge.{Charge}
use Rattle.dh_model.specs.Books.{Books, text_cmp}
use Rattle.dh_model.specs.Runs.{batches, dues_of_branch}
use Rattle.dh_model.specs.Whole.{with_posted}
use Rattle.dh_laws.specs.InOrder.{IsInOrder}

abbrev pub IsCharged : Books → Charge → Type 0
IsCharged books charge = IsAmong (values books.charges) charge

-- it falls due in the month on the branch's properties
abbrev pub IsDueOn : Books → ℕ → List ℕ → Charge → Type 0
IsDueOn books month branch charge = IsAmong (dues_of_branch books month branch) charge

-- from the one books to the other a batch of the month is posted, which is this branch's
pub record IsNextBatch (size : ℕ) (books after : Books) (month : ℕ) (branch : List ℕ) : Type 0 where
  pub there : IsAmong (keys books.branches) branch
  -- what was charged stays, and what is new falls due on the branch
  pub stays : (charge : Charge) → IsCharged books charge → IsCharged after charge
  pub new : (charge : Charge) → IsCharged after charge → IsCharged books charge ⊎ IsDueOn books month branch charge
  -- no more charges than the size are new
  pub few : len after.charges ≤ len books.charges + size
  -- all dues of branches of lesser number were charged, and the branch wasn't done: it lacked its part row, or a due
  pub lesser_done : (other : List ℕ) (charge : Charge) → IsAmong (keys books.branches) other → text_cmp other branch ≡ Less
      → IsDueOn books month other charge → IsCharged books charge
  pub unfinished : (get books.parts (month, branch) ≡ None) ⊎ ((charge : Charge) × IsDueOn books month branch charge × ¬ IsCharged books charge)
  -- of the branch's dues those of lesser leases come first
  pub by_lease : (charge later : Charge) → IsDueOn books month branch charge → IsDueOn books month branch later → charge.lease < later.lease
      → IsCharged after later → IsCharged after charge

-- the next batch adds the next charges
abbrev pub NextBatchAddsTheNext : ℕ → Type 0
NextBatchAddsTheNext size =
    (books : Books) (month done : ℕ) → 1 ≤ size → IsInOrder size books (Some (record { month = month; done = done })) → done < batches size books month
    → (branch : List ℕ) × IsNextBatch size books (with_posted size books month (done + 1)) month branch
