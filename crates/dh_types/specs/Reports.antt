-- What a question is answered, as contracts see it.
use Rattle.std.specs.Prelude.{ℤ, List, Bool, true, false}
use Rattle.dh_types.specs.declared.branch.Branch.{Branch}
use Rattle.dh_types.specs.declared.property.Property.{Property}
use Rattle.dh_types.specs.declared.lease.Lease.{Lease}
use Rattle.dh_types.specs.declared.lease.Charge.{Charge}
use Rattle.dh_types.specs.declared.lease.Receipt.{Receipt}
use Rattle.dh_types.specs.declared.run.Part.{Part}
use Rattle.dh_types.specs.declared.run.RunSum.{RunSum}
use Rattle.dh_types.specs.declared.reply.Refusal.{Refusal}
use Rattle.dh_types.specs.declared.answer.Debt.{Debt}
use Rattle.dh_types.specs.declared.answer.OwnerLine.{OwnerLine}
use Rattle.dh_types.specs.declared.answer.Answer.{Answer}
use Rattle.dh_types.specs.declared.answer.Answer.TheVariants.{Branches, Vacant, Matching, Statement, Arrears, Run, Owner, Refused}

pub data Report : Type 0 where
  -- the branches, rising by number
  BranchList : List Branch → Report
  -- the properties that no lease covers, rising by number
  VacantList : List Property → Report
  -- the properties that match, rising by rent and then by number
  MatchingList : List Property → Report
  -- a lease, its charges rising by index, its receipts rising by number, and its balance
  LeaseStatement : Lease → List Charge → List Receipt → ℤ → Report
  -- the leases on which rent is owed, rising by number, and the sum of what is owed
  BranchArrears : List Debt → ℤ → Report
  -- the parts of a closed run, rising by branch, and what it comes to
  RunParts : List Part → RunSum → Report
  -- what a month charged on an owner's properties, rising by lease, the sum of it, the sum of the fees, and what is left
  OwnerCharges : List OwnerLine → ℤ → ℤ → ℤ → Report
  NoReport : Refusal → Report

abbrev pub report_of : Answer → Report
report_of (Branches branches) = BranchList branches.items
report_of (Vacant properties) = VacantList properties.items
report_of (Matching properties) = MatchingList properties.items
report_of (Statement it) = LeaseStatement it.lease it.charges.items it.receipts.items it.balance
report_of (Arrears it) = BranchArrears it.debts.items it.total
report_of (Run it) = RunParts it.parts.items it.sum
report_of (Owner it) = OwnerCharges it.lines.items it.total it.fees it.payable
report_of (Refused refusal) = NoReport refusal

-- the question was refused
abbrev pub is_no_report : Report → Bool
is_no_report (NoReport refusal) = true
is_no_report _ = false
