-- How many line feeds the reports have.
use Rattle.std.proofs.Common.{◌≡◌, refl, true, ℕ, ◌+◌, ℤ, Option, Some, None, List, [], ◌∷◌, ◌++◌, length, replicate, codes, arith}
use Rattle.std.specs.Fmt.{decimal}
use Rattle.std.specs.List.{flat_map}
use Rattle.dh_values.specs.Kinds.{property_type_text, receipt_kind_text}
use Rattle.dh_values.specs.Money.{money_text, pence_text}
use Rattle.dh_values.specs.Texts.{is_id, is_text}
use Rattle.dh_days.specs.Days.{day_text}
use Rattle.dh_days.specs.Months.{month_text}
use Rattle.dh_types.specs.declared.branch.Branch.{Branch}
use Rattle.dh_types.specs.declared.property.Property.{Property}
use Rattle.dh_types.specs.declared.lease.Lease.{Lease}
use Rattle.dh_types.specs.declared.lease.Charge.{Charge}
use Rattle.dh_types.specs.declared.lease.Receipt.{Receipt}
use Rattle.dh_types.specs.declared.run.Part.{Part}
use Rattle.dh_types.specs.declared.run.RunSum.{RunSum}
use Rattle.dh_types.specs.declared.answer.Debt.{Debt}
use Rattle.dh_types.specs.declared.answer.OwnerLine.{OwnerLine}
use Rattle.dh_reports.specs.Columns.{left_aligned, line_feeds, right_aligned}
use Rattle.dh_reports.specs.ReportTexts.{arrears_text, branch_line, charge_line, count_line, debt_line, entry_line, lease_line, name_text, part_line}
use Rattle.dh_reports.specs.ReportTexts.{owner_line, owner_text, property_line, receipt_line, run_text, statement_text, sum_line, sums_line}
use Rattle.dh_reports.proofs.FeedLemmas.{code_none, day_none, decimal_none, joined, left_none, money_none, month_none, one_line, pence_none}
use Rattle.dh_reports.proofs.FeedLemmas.{property_type_none, receipt_kind_none, right_none, spaces_none, text_none}

pub branch_feeds : (branch : Branch) → is_id branch.number ≡ true → is_text 60 branch.city ≡ true → line_feeds (branch_line branch) ≡ 1
branch_feeds branch number city =
    one_line (left_aligned 8 branch.number ∷ branch.city ∷ []) (left_none 8 branch.number (code_none branch.number number), (text_none 60 branch.city city, tt))

pub property_feeds : (property : Property) → is_id property.number ≡ true → is_text 60 property.city ≡ true → line_feeds (property_line property) ≡ 1
property_feeds property number city =
    let kind = property_type_text property.property_type in
    one_line
    (left_aligned 8 property.number ∷ left_aligned 5 kind ∷ right_aligned 2 (decimal property.rooms) ∷ right_aligned 12 (pence_text property.rent)
    ∷ property.city ∷ []) (
      left_none 8 property.number (code_none property.number number),
      (
        left_none 5 kind (property_type_none property.property_type),
        (
          right_none 2 (decimal property.rooms) (decimal_none property.rooms),
          (
            right_none 12 (pence_text property.rent) (pence_none property.rent),
            (text_none 60 property.city city, tt),
          ),
        ),
      ),
    )

pub lease_feeds : (lease : Lease) → is_id lease.terms.client ≡ true → is_id lease.terms.property ≡ true → line_feeds (lease_line lease) ≡ 1
lease_feeds lease client property =
    one_line
    (right_aligned 8 (decimal lease.terms.number) ∷ left_aligned 8 lease.terms.client ∷ left_aligned 8 lease.terms.property
    ∷ right_aligned 12 (pence_text lease.rent) ∷ []) (
      right_none 8 (decimal lease.terms.number) (decimal_none lease.terms.number),
      (
        left_none 8 lease.terms.client (code_none lease.terms.client client),
        (left_none 8 lease.terms.property (code_none lease.terms.property property), (right_none 12 (pence_text lease.rent) (pence_none lease.rent), tt)),
      ),
    )

entry_feeds : (word : List ℕ) (day amount : ℕ) → line_feeds word ≡ 0 → line_feeds (entry_line word day amount) ≡ 1
entry_feeds word day amount h =
    one_line (left_aligned 8 word ∷ day_text day ∷ right_aligned 12 (pence_text amount) ∷ [])
    (left_none 8 word h, (day_none day, (right_none 12 (pence_text amount) (pence_none amount), tt)))

pub charge_feeds : (charge : Charge) → line_feeds (charge_line charge) ≡ 1
charge_feeds charge = entry_feeds (codes "charge") charge.day charge.amount refl

pub receipt_feeds : (receipt : Receipt) → line_feeds (receipt_line receipt) ≡ 1
receipt_feeds receipt =
    entry_feeds (receipt_kind_text receipt.payment.kind) receipt.payment.day receipt.payment.amount (receipt_kind_none receipt.payment.kind)

sum_feeds : (word : List ℕ) (width : ℕ) (money : ℤ) → line_feeds word ≡ 0 → line_feeds (sum_line word width money) ≡ 1
sum_feeds word width money h =
    one_line (left_aligned 8 word ∷ replicate width 32 ∷ right_aligned 12 (money_text money) ∷ [])
    (left_none 8 word h, (spaces_none width, (right_none 12 (money_text money) (money_none money), tt)))

-- the client has no name in the books, or one that is a text
abbrev pub IsName : Option (List ℕ) → Type 0
IsName None = Unit {0}
IsName (Some name) = is_text 60 name ≡ true

name_none : (name : Option (List ℕ)) → IsName name → line_feeds (name_text name) ≡ 0
name_none None h = refl
name_none (Some name) h = text_none 60 name h

pub debt_feeds : (debt : Debt) → is_id debt.client ≡ true → IsName debt.name → line_feeds (debt_line debt) ≡ 1
debt_feeds debt client name =
    one_line (right_aligned 8 (decimal debt.lease) ∷ left_aligned 8 debt.client ∷ right_aligned 12 (money_text debt.balance) ∷ name_text debt.name ∷ []) (
      right_none 8 (decimal debt.lease) (decimal_none debt.lease),
      (
        left_none 8 debt.client (code_none debt.client client),
        (right_none 12 (money_text debt.balance) (money_none debt.balance), (name_none debt.name name, tt)),
      ),
    )

count_feeds : (name : List ℕ) (count total : ℕ) → line_feeds name ≡ 0 → line_feeds (count_line name count total) ≡ 1
count_feeds name count total h =
    one_line (left_aligned 8 name ∷ right_aligned 8 (decimal count) ∷ right_aligned 12 (pence_text total) ∷ [])
    (left_none 8 name h, (right_none 8 (decimal count) (decimal_none count), (right_none 12 (pence_text total) (pence_none total), tt)))

pub part_feeds : (part : Part) → is_id part.branch ≡ true → line_feeds (part_line part) ≡ 1
part_feeds part branch = count_feeds part.branch part.count part.total (code_none part.branch branch)

pub statement_feeds : (lease : Lease) (charges : List Charge) (receipts : List Receipt) (balance : ℤ) → line_feeds (lease_line lease) ≡ 1
    → line_feeds (flat_map charge_line charges) ≡ length charges → line_feeds (flat_map receipt_line receipts) ≡ length receipts
    → length charges + length receipts + 2 ≡ line_feeds (statement_text lease charges receipts balance)
statement_feeds lease charges receipts balance one each other =
    let last = sum_line (codes "balance") 10 balance in
    omega (
      arith,
      one,
      each,
      other,
      joined (lease_line lease) (flat_map charge_line charges),
      joined (lease_line lease ++ flat_map charge_line charges) (flat_map receipt_line receipts),
      joined (lease_line lease ++ flat_map charge_line charges ++ flat_map receipt_line receipts) last,
      sum_feeds (codes "balance") 10 balance refl,
    )

pub arrears_feeds : (debts : List Debt) (total : ℤ) → line_feeds (flat_map debt_line debts) ≡ length debts
    → length debts + 1 ≡ line_feeds (arrears_text debts total)
arrears_feeds debts total each =
    omega (arith, each, joined (flat_map debt_line debts) (sum_line (codes "total") 8 total), sum_feeds (codes "total") 8 total refl)

pub run_feeds : (parts : List Part) (sum : RunSum) → line_feeds (flat_map part_line parts) ≡ length parts
    → length parts + 1 ≡ line_feeds (run_text parts sum)
run_feeds parts sum each =
    omega (
      arith,
      each,
      joined (flat_map part_line parts) (count_line (month_text sum.month) sum.count sum.total),
      count_feeds (month_text sum.month) sum.count sum.total (month_none sum.month),
    )

pub owner_feeds : (it : OwnerLine) → is_id it.property ≡ true → line_feeds (owner_line it) ≡ 1
owner_feeds it property =
    one_line
    (right_aligned 8 (decimal it.lease) ∷ left_aligned 8 it.property ∷ right_aligned 12 (pence_text it.amount) ∷ right_aligned 12 (pence_text it.fee) ∷ []) (
      right_none 8 (decimal it.lease) (decimal_none it.lease),
      (
        left_none 8 it.property (code_none it.property property),
        (right_none 12 (pence_text it.amount) (pence_none it.amount), (right_none 12 (pence_text it.fee) (pence_none it.fee), tt)),
      ),
    )

sums_feeds : (word : List ℕ) (total fees : ℤ) → line_feeds word ≡ 0 → line_feeds (sums_line word total fees) ≡ 1
sums_feeds word total fees h =
    one_line (left_aligned 8 word ∷ replicate 8 32 ∷ right_aligned 12 (money_text total) ∷ right_aligned 12 (money_text fees) ∷ [])
    (left_none 8 word h, (spaces_none 8, (right_none 12 (money_text total) (money_none total), (right_none 12 (money_text fees) (money_none fees), tt))))

pub owner_text_feeds : (lines : List OwnerLine) (total fees payable : ℤ) → line_feeds (flat_map owner_line lines) ≡ length lines
    → length lines + 2 ≡ line_feeds (owner_text lines total fees payable)
owner_text_feeds lines total fees payable each =
    omega (
      arith,
      each,
      joined (flat_map owner_line lines) (sums_line (codes "total") total fees),
      joined (flat_map owner_line lines ++ sums_line (codes "total") total fees) (sum_line (codes "payable") 8 payable),
      sums_feeds (codes "total") total fees refl,
      sum_feeds (codes "payable") 8 payable refl,
    )
