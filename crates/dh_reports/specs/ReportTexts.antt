-- The lines of the reports.
use Rattle.std.specs.Prelude.{ℕ, ◌+◌, ℤ, Option, Some, None, List, [], ◌∷◌, ◌++◌, length, replicate, codes}
use Rattle.std.specs.List.{flat_map}
use Rattle.std.specs.Fmt.{decimal}
use Rattle.dh_values.specs.Kinds.{property_type_text, receipt_kind_text}
use Rattle.dh_values.specs.Money.{money_text, pence_text}
use Rattle.dh_days.specs.Days.{day_text}
use Rattle.dh_days.specs.Months.{month_text}
use Rattle.dh_types.specs.declared.branch.Branch.{Branch}
use Rattle.dh_types.specs.declared.property.Property.{Property}
use Rattle.dh_types.specs.declared.lease.Lease.{Lease}
use Rattle.dh_types.specs.declared.lease.Charge.{Charge}
use Rattle.dh_types.specs.declared.lease.Receipt.{Receipt}
use Rattle.dh_types.specs.declared.run.Part.{Part}
use Rattle.dh_types.specs.declared.run.RunSum.{RunSum}
use Rattle.dh_types.specs.declared.answer.Debt.{Debt}
use Rattle.dh_types.specs.declared.answer.OwnerLine.{OwnerLine}
use Rattle.dh_types.specs.Reports.{Report, BranchList, VacantList, MatchingList, LeaseStatement, BranchArrears, RunParts, OwnerCharges, NoReport}
use Rattle.dh_reports.specs.Columns.{left_aligned, line, right_aligned}

-- the number in 8 columns, the city
abbrev pub branch_line : Branch → List ℕ
branch_line branch = line (left_aligned 8 branch.number ∷ branch.city ∷ [])

-- the number in 8 columns, the type in 5, the rooms in 2, the rent in 12, the city
abbrev pub property_line : Property → List ℕ
property_line property =
    line (left_aligned 8 property.number ∷ left_aligned 5 (property_type_text property.property_type) ∷ right_aligned 2 (decimal property.rooms)
    ∷ right_aligned 12 (pence_text property.rent) ∷ property.city ∷ [])

-- the number, the client and the property in 8 columns each, the lease's rent in 12
abbrev pub lease_line : Lease → List ℕ
lease_line lease =
    line
    (right_aligned 8 (decimal lease.terms.number) ∷ left_aligned 8 lease.terms.client ∷ left_aligned 8 lease.terms.property
    ∷ right_aligned 12 (pence_text lease.rent) ∷ [])

-- what was charged or paid on a day: a word in 8 columns, the day, the amount in 12
abbrev pub entry_line : List ℕ → ℕ → ℕ → List ℕ
entry_line word day amount = line (left_aligned 8 word ∷ day_text day ∷ right_aligned 12 (pence_text amount) ∷ [])

abbrev pub charge_line : Charge → List ℕ
charge_line charge = entry_line (codes "charge") charge.day charge.amount

abbrev pub receipt_line : Receipt → List ℕ
receipt_line receipt = entry_line (receipt_kind_text receipt.payment.kind) receipt.payment.day receipt.payment.amount

-- a word in 8 columns, so many spaces where other lines have a column, the money in 12
abbrev pub sum_line : List ℕ → ℕ → ℤ → List ℕ
sum_line word width money = line (left_aligned 8 word ∷ replicate width 32 ∷ right_aligned 12 (money_text money) ∷ [])

abbrev pub statement_text : Lease → List Charge → List Receipt → ℤ → List ℕ
statement_text lease charges receipts balance =
    lease_line lease ++ flat_map charge_line charges ++ flat_map receipt_line receipts ++ sum_line (codes "balance") 10 balance

-- the client's name; nothing where the client is not in the books
abbrev pub name_text : Option (List ℕ) → List ℕ
name_text None = []
name_text (Some name) = name

-- the lease and the client in 8 columns each, the balance in 12, the client's name
abbrev pub debt_line : Debt → List ℕ
debt_line debt =
    line (right_aligned 8 (decimal debt.lease) ∷ left_aligned 8 debt.client ∷ right_aligned 12 (money_text debt.balance) ∷ name_text debt.name ∷ [])

abbrev pub arrears_text : List Debt → ℤ → List ℕ
arrears_text debts total = flat_map debt_line debts ++ sum_line (codes "total") 8 total

-- a branch or a month, and a count, in 8 columns each, the total in 12
abbrev pub count_line : List ℕ → ℕ → ℕ → List ℕ
count_line name count total = line (left_aligned 8 name ∷ right_aligned 8 (decimal count) ∷ right_aligned 12 (pence_text total) ∷ [])

abbrev pub part_line : Part → List ℕ
part_line part = count_line part.branch part.count part.total

abbrev pub run_text : List Part → RunSum → List ℕ
run_text parts sum = flat_map part_line parts ++ count_line (month_text sum.month) sum.count sum.total

-- the lease and the property in 8 columns each, what was charged and what the branch takes of it in 12 each
abbrev pub owner_line : OwnerLine → List ℕ
owner_line it =
    line (right_aligned 8 (decimal it.lease) ∷ left_aligned 8 it.property ∷ right_aligned 12 (pence_text it.amount) ∷ right_aligned 12 (pence_text it.fee) ∷ [])

-- a word in 8 columns, 8 spaces, two sums in 12 each
abbrev pub sums_line : List ℕ → ℤ → ℤ → List ℕ
sums_line word total fees = line (left_aligned 8 word ∷ replicate 8 32 ∷ right_aligned 12 (money_text total) ∷ right_aligned 12 (money_text fees) ∷ [])

abbrev pub owner_text : List OwnerLine → ℤ → ℤ → ℤ → List ℕ
owner_text lines total fees payable = flat_map owner_line lines ++ sums_line (codes "total") total fees ++ sum_line (codes "payable") 8 payable

-- a refusal has no line
abbrev pub report_text : Report → List ℕ
report_text (BranchList branches) = flat_map branch_line branches
report_text (VacantList properties) = flat_map property_line properties
report_text (MatchingList properties) = flat_map property_line properties
report_text (LeaseStatement lease charges receipts balance) = statement_text lease charges receipts balance
report_text (BranchArrears debts total) = arrears_text debts total
report_text (RunParts parts sum) = run_text parts sum
report_text (OwnerCharges lines total fees payable) = owner_text lines total fees payable
report_text (NoReport refusal) = []

-- the lease, its charges, its receipts and its balance have a line each, and so have a total, a run, and what is left for an owner
abbrev pub line_count : Report → ℕ
line_count (BranchList branches) = length branches
line_count (VacantList properties) = length properties
line_count (MatchingList properties) = length properties
line_count (LeaseStatement lease charges receipts balance) = length charges + length receipts + 2
line_count (BranchArrears debts total) = length debts + 1
line_count (RunParts parts sum) = length parts + 1
line_count (OwnerCharges lines total fees payable) = length lines + 2
line_count (NoReport refusal) = 0
