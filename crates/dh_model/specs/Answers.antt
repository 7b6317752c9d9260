-- What each question is answered. A question changes nothing.
use Rattle.std.specs.Prelude.{ℕ, ℤ, pos, ◌-ℤ◌, ◌+ℤ◌, int_lt, Bool, true, false, not, ◌&&◌, nat_eq, nat_le, if◌then◌else◌, List, map, Option, Some, None}
use Rattle.std.specs.Prelude.{option_map}
use Rattle.std.specs.List.{filter, filter_map, fold, list_any, sum_by}
use Rattle.std.specs.Ordering.{nat_cmp}
use Rattle.std.specs.FinMap.{FinMap, contains_key, from_entries, get, values}
use Rattle.dh_values.specs.declared.receipt_kind.ReceiptKind.TheVariants.{Rent}
use Rattle.dh_types.specs.declared.field.TheConstants.{ASKED_ABOUT}
use Rattle.dh_types.specs.declared.property.Property.{Property}
use Rattle.dh_types.specs.declared.client.Client.{Client}
use Rattle.dh_types.specs.declared.lease.Lease.{Lease}
use Rattle.dh_types.specs.declared.lease.Charge.{Charge}
use Rattle.dh_types.specs.declared.lease.Receipt.{Receipt}
use Rattle.dh_types.specs.declared.owner.Owner.{Owner}
use Rattle.dh_types.specs.declared.fee.PartFee.{PartFee}
use Rattle.dh_types.specs.declared.run.Run.{Run}
use Rattle.dh_types.specs.declared.question.Question.{Question}
use Rattle.dh_types.specs.declared.question.Question.TheVariants as asked
use Rattle.dh_types.specs.declared.question.OwnerMonth.{OwnerMonth}
use Rattle.dh_types.specs.declared.answer.Debt.{Debt}
use Rattle.dh_types.specs.declared.answer.OwnerLine.{OwnerLine}
use Rattle.dh_types.specs.declared.reply.Refusal.TheVariants as refusal
use Rattle.dh_types.specs.Records.{is_same_property_type, is_same_receipt_kind}
use Rattle.dh_types.specs.Reports.{Report, BranchList, VacantList, MatchingList, LeaseStatement, BranchArrears, RunParts, OwnerCharges, NoReport}
use Rattle.dh_model.specs.declared.open_run.OpenRun.{OpenRun}
use Rattle.dh_model.specs.Books.{Books, State, pair_cmp, text_cmp}
use Rattle.dh_model.specs.Leases.{covers, running}
use Rattle.dh_model.specs.Runs.{charge_fee, leases_of_branch, sum_of, total_of}
use Rattle.dh_model.specs.Checks.{is_same_text}

-- the fee of a part, by its fee row: nothing where there is none
abbrev pub fee_of_part : Option PartFee → ℕ
fee_of_part None = 0
fee_of_part (Some it) = it.fee

-- the lines with both sums, and what is left
abbrev pub owner_charges : List OwnerLine → Report
owner_charges lines =
    let total = pos (sum_by (λ line. line.amount) lines) in
    let fees = pos (sum_by (λ line. line.fee) lines) in
    OwnerCharges lines total fees (total -ℤ fees)

module _ (books : Books) where
  -- no lease of the property covers the day
  abbrev pub is_vacant : ℕ → Property → Bool
  is_vacant day property = not (list_any (λ lease. is_same_text lease.terms.property property.number && covers (running books.endings lease) day)
      (values books.leases))

  -- rising by number
  abbrev pub vacant : ℕ → List Property
  vacant day = filter (is_vacant day) (values books.properties)

  -- of the preferred type, at no more than the greatest rent, and vacant
  abbrev pub matches : Client → ℕ → Property → Bool
  matches client day property =
      is_same_property_type property.property_type client.preferred_type && nat_le property.rent client.greatest_rent && is_vacant day property

  -- rising by rent, and then by number
  abbrev pub by_rent : List Property → FinMap (pair_cmp nat_cmp text_cmp) Property
  by_rent properties = from_entries (map (λ property. ((property.rent, property.number), property)) properties)

  abbrev pub matching : Client → ℕ → List Property
  matching client day = values (by_rent (filter (matches client day) (values books.properties)))

  abbrev pub charges_of : ℕ → List Charge
  charges_of lease = filter (λ charge. nat_eq charge.lease lease) (values books.charges)

  abbrev pub receipts_of : ℕ → List Receipt
  receipts_of lease = filter (λ receipt. nat_eq receipt.payment.lease lease) (values books.receipts)

  abbrev pub rent_paid : ℕ → ℕ
  rent_paid lease = sum_by (λ receipt. receipt.payment.amount) (filter (λ receipt. is_same_receipt_kind receipt.payment.kind Rent) (receipts_of lease))

  -- what was charged on the lease, less the rent that was paid
  abbrev pub balance : ℕ → ℤ
  balance lease = pos (total_of (charges_of lease)) -ℤ pos (rent_paid lease)

  abbrev pub debt : Lease → Debt
  debt lease = record {
    lease = lease.terms.number;
    client = lease.terms.client;
    balance = balance lease.terms.number;
    name = option_map (λ client. client.name) (get books.clients lease.terms.client);
  }

  -- the leases of the branch's properties on which rent is owed, rising by number
  abbrev pub debts : List ℕ → List Debt
  debts branch = map debt (filter (λ lease. int_lt (pos 0) (balance lease.terms.number)) (leases_of_branch books branch))

  abbrev pub owed : List Debt → ℤ
  owed owing = fold (λ sum it. sum +ℤ it.balance) (pos 0) owing

  -- the line of a charge on a lease of this property, where that is the owner's
  abbrev pub line_of_property : List ℕ → Charge → Option Property → Option OwnerLine
  line_of_property owner charge None = None
  line_of_property owner charge (Some property) =
      if is_same_text property.owner owner then Some (record {
        lease = charge.lease;
        property = property.number;
        amount = charge.amount;
        fee = charge_fee (fee_of_part (get books.part_fees (charge.month, property.branch))) charge;
      }) else None

  abbrev pub line_of_lease : List ℕ → Charge → Option Lease → Option OwnerLine
  line_of_lease owner charge None = None
  line_of_lease owner charge (Some lease) = line_of_property owner charge (get books.properties lease.terms.property)

  -- the line of a charge, where it is of the month and on a property of the owner
  abbrev pub owner_line : OwnerMonth → Charge → Option OwnerLine
  owner_line it charge = if nat_eq charge.month it.month then line_of_lease it.owner charge (get books.leases charge.lease) else None

  -- rising by lease
  abbrev pub owner_lines : OwnerMonth → List OwnerLine
  owner_lines it = filter_map (owner_line it) (values books.charges)

  -- what a closed run charged on the owner's properties
  abbrev pub owner_report : OwnerMonth → Option Owner → Option Run → Report
  owner_report it None run = NoReport (refusal.Unknown ASKED_ABOUT)
  owner_report it (Some owner) None = NoReport refusal.NoRun
  owner_report it (Some owner) (Some run) = if run.is_closed then owner_charges (owner_lines it) else NoReport refusal.NoRun

  abbrev pub matching_report : Option Client → ℕ → Report
  matching_report None day = NoReport (refusal.Unknown ASKED_ABOUT)
  matching_report (Some client) day = MatchingList (matching client day)

  abbrev pub statement : Option Lease → Report
  statement None = NoReport (refusal.Unknown ASKED_ABOUT)
  statement (Some lease) = LeaseStatement lease (charges_of lease.terms.number) (receipts_of lease.terms.number) (balance lease.terms.number)

  abbrev pub arrears : List ℕ → Report
  arrears branch = if contains_key books.branches branch then BranchArrears (debts branch) (owed (debts branch)) else NoReport (refusal.Unknown ASKED_ABOUT)

  abbrev pub run_report : Option Run → Report
  run_report None = NoReport refusal.NoRun
  run_report (Some run) =
      if run.is_closed then RunParts (filter (λ part. nat_eq part.month run.month) (values books.parts)) (sum_of run) else NoReport refusal.NoRun

  -- what books say to a question where no run is open
  abbrev pub answer_of : Question → Report
  answer_of asked.Branches = BranchList (values books.branches)
  answer_of (asked.Vacant day) = VacantList (vacant day)
  answer_of (asked.Matching it) = matching_report (get books.clients it.client) it.day
  answer_of (asked.Statement lease) = statement (get books.leases lease)
  answer_of (asked.Arrears branch) = arrears branch
  answer_of (asked.Run month) = run_report (get books.runs month)
  answer_of (asked.Owner it) = owner_report it (get books.owners it.owner) (get books.runs it.month)

-- the questions whose answers would show a run half made
abbrev pub is_put_off : Question → Bool
is_put_off (asked.Statement lease) = true
is_put_off (asked.Arrears branch) = true
is_put_off (asked.Run month) = true
is_put_off (asked.Owner it) = true
is_put_off _ = false

-- an open run refuses these
abbrev pub unless_open : Option OpenRun → Report → Report
unless_open None report = report
unless_open (Some run) report = NoReport (refusal.RunOpen run.month)

abbrev pub report : State → Question → Report
report s question = if is_put_off question then unless_open s.open_run (answer_of s.books question) else answer_of s.books question
