-- Rent runs: a month's dues, branch by branch, in batches.
use Rattle.std.specs.Prelude.{ℕ, ◌+◌, ◌-◌, ◌*◌, ◌/◌, max, Bool, true, false, nat_eq, nat_lt, List, [], map, length, Option, Some, None}
use Rattle.std.specs.List.{count_by, filter, flat_map, fold, sum_by}
use Rattle.std.specs.Ordering.{is_lt}
use Rattle.std.specs.Cmp.Lexicographic.{pointwise}
use Rattle.std.specs.FinMap.{get, insert, keys, values}
use Rattle.dh_types.specs.declared.property.Property.{Property}
use Rattle.dh_types.specs.declared.lease.Lease.{Lease}
use Rattle.dh_types.specs.declared.lease.Charge.{Charge}
use Rattle.dh_types.specs.declared.run.Run.{Run}
use Rattle.dh_types.specs.declared.run.Part.{Part}
use Rattle.dh_types.specs.declared.run.RunSum.{RunSum}
use Rattle.dh_types.specs.declared.fee.BranchFee.{BranchFee}
use Rattle.dh_types.specs.declared.fee.PartFee.{PartFee}
use Rattle.dh_types.specs.declared.version.Version.{Version}
use Rattle.dh_types.specs.declared.version.Version.TheVariants.{First, Second}
use Rattle.dh_model.specs.declared.limits.TheConstants.{BATCH_SIZE}
use Rattle.dh_model.specs.Books.{Books, text_cmp, with_rows}
use Rattle.dh_model.specs.Leases.{dues, dues_among}

-- how many charges one transaction has at most
abbrev pub batch_size : ℕ
batch_size = BATCH_SIZE

abbrev pub is_property_of : List ℕ → Option Property → Bool
is_property_of branch None = false
is_property_of branch (Some property) = pointwise nat_eq property.branch branch

-- the leases of the branch's properties
abbrev pub leases_of_branch : Books → List ℕ → List Lease
leases_of_branch books branch = filter (λ lease. is_property_of branch (get books.properties lease.terms.property)) (values books.leases)

-- what falls due in the month on the branch's properties
abbrev pub dues_of_branch : Books → ℕ → List ℕ → List Charge
dues_of_branch books month branch = dues_among books.endings (leases_of_branch books branch) month

-- the sum of the amounts
abbrev pub total_of : List Charge → ℕ
total_of charges = sum_by (λ charge. charge.amount) charges

module _ (size : ℕ) where
  -- so many dues take so many batches: one at least, each as full as can be but the last
  abbrev pub batches_for : ℕ → ℕ
  batches_for count = max 1 ((count + (size - 1)) / size)

  abbrev pub batches_of_branch : Books → ℕ → List ℕ → ℕ
  batches_of_branch books month branch = batches_for (length (dues_of_branch books month branch))

  -- the batches of all branches
  abbrev pub batches : Books → ℕ → ℕ
  batches books month = sum_by (batches_of_branch books month) (keys books.branches)

  -- the batches of the branches of lesser number
  abbrev pub batches_before : Books → ℕ → List ℕ → ℕ
  batches_before books month branch = sum_by (batches_of_branch books month) (filter (λ other. is_lt (text_cmp other branch)) (keys books.branches))

  -- how many of the charges are of leases of lesser number
  abbrev pub place_among : List Charge → Charge → ℕ
  place_among charges charge = count_by (λ other. nat_lt other.lease charge.lease) charges

  -- the number of the batch that a due of the branch belongs to, from 0
  abbrev pub batch_of : Books → ℕ → List ℕ → Charge → ℕ
  batch_of books month branch charge = batches_before books month branch + place_among (dues_of_branch books month branch) charge / size

  -- the branch's charges after so many batches
  abbrev pub posted_of_branch : Books → ℕ → ℕ → List ℕ → List Charge
  posted_of_branch books month done branch = filter (λ charge. nat_lt (batch_of books month branch charge) done) (dues_of_branch books month branch)

  -- all charges after so many batches
  abbrev pub posted_charges : Books → ℕ → ℕ → List Charge
  posted_charges books month done = flat_map (posted_of_branch books month done) (keys books.branches)

  -- the branches whose first batch is done
  abbrev pub begun_branches : Books → ℕ → ℕ → List (List ℕ)
  begun_branches books month done = filter (λ branch. nat_lt (batches_before books month branch) done) (keys books.branches)

abbrev pub at_least : Option ℕ → ℕ → ℕ
at_least None n = n
at_least (Some m) n = max m n

-- the greatest lease among the charges
abbrev pub greatest_lease : List Charge → Option ℕ
greatest_lease charges = fold (λ most charge. Some (at_least most charge.lease)) None charges

-- what a branch has of the run, where these are its charges
abbrev pub part_of : ℕ → List ℕ → List Charge → Part
part_of month branch charges = record { month = month; branch = branch; through = greatest_lease charges; count = length charges; total = total_of charges }

-- the part rows after so many batches
abbrev pub posted_parts : ℕ → Books → ℕ → ℕ → List Part
posted_parts size books month done = map (λ branch. part_of month branch (posted_of_branch size books month done branch)) (begun_branches size books month done)

-- the fee of a branch: nothing where it has no row
abbrev pub fee_in : Option BranchFee → ℕ
fee_in None = 0
fee_in (Some it) = it.fee

-- the present fee of a branch, in hundredths of a percent
abbrev pub fee_at : Books → List ℕ → ℕ
fee_at books branch = fee_in (get books.branch_fees branch)

-- the fee of one charge, in whole pence
abbrev pub charge_fee : ℕ → Charge → ℕ
charge_fee fee charge = charge.amount * fee / 10000

-- the sum of the charges' fees
abbrev pub fees_over : ℕ → List Charge → ℕ
fees_over fee charges = sum_by (charge_fee fee) charges

-- what a branch takes of the run by this fee, where these are its charges
abbrev pub part_fee_of : ℕ → List ℕ → ℕ → List Charge → PartFee
part_fee_of month branch fee charges = record { month = month; branch = branch; fee = fee; total = fees_over fee charges }

-- what came with the second version; books of the first have nothing of it
abbrev pub since_second : {X : Type 0} → Version → List X → List X
since_second First rows = []
since_second Second rows = rows

-- a fee row with each part row after so many batches, by the branch's present fee
abbrev pub fees_of_parts : ℕ → Books → ℕ → ℕ → List PartFee
fees_of_parts size books month done =
    map (λ branch. part_fee_of month branch (fee_at books branch) (posted_of_branch size books month done branch)) (begun_branches size books month done)

-- the fee rows after so many batches
abbrev pub posted_fees : ℕ → Books → ℕ → ℕ → List PartFee
posted_fees size books month done = since_second books.version (fees_of_parts size books month done)

abbrev pub part_fee_key : PartFee → ℕ × List ℕ
part_fee_key it = (it.month, it.branch)

abbrev pub charge_key : Charge → ℕ × ℕ
charge_key charge = (charge.lease, charge.index)

abbrev pub part_key : Part → ℕ × List ℕ
part_key part = (part.month, part.branch)

-- the run row of a month whose dues are all charged
abbrev pub closed_run : ℕ → List ℕ → List Charge → Run
closed_run month key charges = record { month = month; key = key; count = length charges; total = total_of charges; is_closed = true }

-- The books with the next month's rent run made under this key, in one step: its dues charged, a part row a branch and
-- its fee row, the run closed with its count and total, and the next month moved on.
abbrev pub ran : ℕ → Books → List ℕ → Books
ran size books key =
    let month = books.next in
    let charges = dues books month in
    record books {
      charges = with_rows charge_key charges books.charges;
      parts = with_rows part_key (posted_parts size books month (batches size books month)) books.parts;
      part_fees = with_rows part_fee_key (posted_fees size books month (batches size books month)) books.part_fees;
      runs = insert books.runs month (closed_run month key charges);
      next = month + 1;
    }

-- what the run of a month comes to
abbrev pub sum_of : Run → RunSum
sum_of run = record { month = run.month; count = run.count; total = run.total }
