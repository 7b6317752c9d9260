-- The rows of a run's batches, and the tables that they lead to.
use Rattle.std.specs.Prelude.{◌≡◌, ◌≤◌, ℕ, ◌+◌, Bool, All, List, [], ◌∷◌, is_some, Option, Some, None, IfSome}
use Rattle.std.specs.FinMap.{FinMap, get, insert}
use Rattle.std.specs.Ordering.{nat_cmp}
use Rattle.dh_days.specs.Days.{month_of_day}
use Rattle.dh_days.specs.declared.limits.TheConstants.{LAST_ENTRY_MONTH}
use Rattle.dh_types.specs.declared.lease.Charge.{Charge}
use Rattle.dh_types.specs.declared.fee.PartFee.{PartFee}
use Rattle.dh_types.specs.declared.version.Version.TheVariants.{Second}
use Rattle.dh_model.specs.declared.open_run.OpenRun.{OpenRun}
use Rattle.dh_model.specs.Books.{Books, State, pair_cmp, with_rows}
use Rattle.dh_model.specs.Runs.{batch_size, batches, charge_key, part_fee_key, part_key}
use Rattle.dh_model.specs.Whole.{with_posted}
use Rattle.dh_leases.specs.declared.plans.BatchRows.{BatchRows}
use Rattle.dh_leases.specs.declared.plans.Plan.{Plan}

abbrev pub one_more : Option OpenRun → Option OpenRun
one_more None = None
one_more (Some run) = Some (record { month = run.month; done = run.done + 1 })

-- the row, if there is one
abbrev pub some_row : {X : Type 0} → Option X → List X
some_row None = []
some_row (Some row) = row ∷ []

-- the tables with the rows of a batch, which is then done
abbrev pub with_batch_rows : BatchRows → State → State
with_batch_rows rows s = record {
  books = record s.books {
    charges = with_rows charge_key rows.charges.items s.books.charges;
    parts = with_rows part_key (rows.part ∷ []) s.books.parts;
    part_fees = with_rows part_fee_key (some_row rows.fee) s.books.part_fees;
  };
  open_run = one_more s.open_run;
}

-- each of the charges is new to what is there and to those before it
abbrev pub AreNew : List Charge → FinMap (pair_cmp nat_cmp nat_cmp) Charge → Type 0
AreNew [] held = Unit {0}
AreNew (charge ∷ charges) held = (get held (charge_key charge) ≡ None) × AreNew charges (insert held (charge_key charge) charge)

-- the books are of the second version, and it is known whether the fee row's part has one
pub record HasItsFeeRow (has_part : Bool) (s : State) (fee : PartFee) : Type 0 where
  pub second : s.books.version ≡ Second
  pub known : has_part ≡ is_some (get s.books.part_fees (part_fee_key fee))

-- it is known whether the branch of the batch has its rows of the run: the fee row is there exactly where the part row is
pub record HasItsPart (rows : BatchRows) (s : State) : Type 0 where
  pub part : rows.has_part ≡ is_some (get s.books.parts (part_key rows.part))
  pub fee : IfSome rows.fee (HasItsFeeRow rows.has_part s)

-- each of the charges falls due in a month that lines know
abbrev pub FallsInTime : BatchRows → Type 0
FallsInTime rows = All (λ charge. month_of_day charge.day ≤ LAST_ENTRY_MONTH) rows.charges.items

abbrev pub begins_at : Plan → OpenRun
begins_at plan = record { month = plan.month; done = plan.done }

-- the rows are the batch between these tables: new to the first, they know whether their branch has a part row there, and lead to the second
pub record IsBatchBetween (rows : BatchRows) (before after : State) : Type 0 where
  pub new : AreNew rows.charges.items before.books.charges
  pub begun : HasItsPart rows before
  pub goes : with_batch_rows rows before ≡ after

-- the tables where so many batches of the month are done
abbrev pub stage : Books → ℕ → ℕ → State
stage books month done = record {
  books = with_posted batch_size books month done;
  open_run = Some (record { month = month; done = done });
}

-- Where so many batches of the month are done, these are all others, in their order: none, and all are done; or the first is the
-- batch that comes next, and the rest lead on from there.
abbrev pub LeadOn : Books → ℕ → ℕ → List BatchRows → Type 0
LeadOn books month done [] = done ≡ batches batch_size books month
LeadOn books month done (rows ∷ rest) = IsBatchBetween rows (stage books month done) (stage books month (done + 1)) × LeadOn books month (done + 1) rest

-- the open run is the plan's, and its batches lead on from there
pub record IsPlanOf (plan : Plan) (s : State) : Type 0 where
  pub shown : s.open_run ≡ Some (begins_at plan)
  pub leads : LeadOn s.books plan.month plan.done plan.batches.items

-- no run is open, or this is the plan of it
abbrev pub IsPlanned : State → Option Plan → Type 0
IsPlanned s None = s.open_run ≡ None
IsPlanned s (Some plan) = IsPlanOf plan s

-- the books have the version, the branches, the fees, the properties, the leases and the endings of others
pub record HaveTheLeases (books others : Books) : Type 0 where
  pub version : books.version ≡ others.version
  pub branches : books.branches ≡ others.branches
  pub fees : books.branch_fees ≡ others.branch_fees
  pub properties : books.properties ≡ others.properties
  pub leases : books.leases ≡ others.leases
  pub endings : books.endings ≡ others.endings
