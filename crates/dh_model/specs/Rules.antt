-- What must hold of the books: the rules of the audit, by their numbers.
use Rattle.std.specs.Prelude.{◌≡◌, ◌≢◌, ◌↔◌, ◌≤◌, ◌<◌, ℕ, ◌+◌, ◌*◌, true, false, ◌&&◌, nat_eq, List, [], ◌++◌, map, length, Bool, Option, Some, None, IfSome}
use Rattle.std.specs.declared.cmp.Ordering.{Ordering}
use Rattle.std.specs.List.{AllPairs, IsAmong, count_by, filter}
use Rattle.std.specs.FinMap.{FinMap, contains_key, get, len, values}
use Rattle.dh_values.specs.declared.limits.TheConstants.{LEAST_LEASE_MONTHS, MOST_LEASE_MONTHS}
use Rattle.dh_values.specs.declared.receipt_kind.ReceiptKind.TheVariants.{Deposit}
use Rattle.dh_days.specs.Days.{month_of_day}
use Rattle.dh_types.specs.declared.property.Property.{Property}
use Rattle.dh_types.specs.declared.client.Registration.{Registration}
use Rattle.dh_types.specs.declared.viewing.Viewing.{Viewing}
use Rattle.dh_types.specs.declared.viewing.Inspection.{Inspection}
use Rattle.dh_types.specs.declared.lease.Lease.{Lease}
use Rattle.dh_types.specs.declared.lease.Ending.{Ending}
use Rattle.dh_types.specs.declared.lease.Charge.{Charge}
use Rattle.dh_types.specs.declared.run.Run.{Run}
use Rattle.dh_types.specs.declared.run.Part.{Part}
use Rattle.dh_types.specs.declared.version.Version.{Version}
use Rattle.dh_types.specs.declared.version.Version.TheVariants.{First, Second}
use Rattle.dh_types.specs.Records.{is_same_optional}
use Rattle.dh_model.specs.declared.limits.TheConstants.{MANAGED_AT_MOST}
use Rattle.dh_model.specs.Books.{Books}
use Rattle.dh_model.specs.Kinds.{Kind, record_of, records_of}
use Rattle.dh_model.specs.Leases.{dues, overlap, running}
use Rattle.dh_model.specs.Runs.{batches, dues_of_branch, fee_at, is_property_of, part_fee_of, part_of, posted_charges, posted_parts, total_of}
use Rattle.dh_model.specs.Checks.{is_registered, is_same_text, works_at}

-- the rules of the audit
pub data Rule : Type 0 where
  References : Rule
  Branches : Rule
  Managers : Rule
  Overlaps : Rule
  Starts : Rule
  Terms : Rule
  Deposits : Rule
  Keys : Rule
  Runs : Rule
  Months : Rule
  Fees : Rule
  Endings : Rule

-- by which a damaged file is refused
abbrev pub rule_number : Rule → ℕ
rule_number References = 1
rule_number Branches = 2
rule_number Managers = 3
rule_number Overlaps = 4
rule_number Starts = 5
rule_number Terms = 6
rule_number Deposits = 7
rule_number Keys = 8
rule_number Runs = 9
rule_number Months = 10
rule_number Fees = 11
rule_number Endings = 12

-- this holds of each row
abbrev pub Each : {K X : Type 0} {R : K → K → Ordering} → FinMap R X → (X → Type 0) → Type 0
Each {X = X} rows P = (row : X) → IsAmong (values rows) row → P row

-- this holds of any two different rows
abbrev pub EachTwo : {K X : Type 0} {R : K → K → Ordering} → FinMap R X → (X → X → Type 0) → Type 0
EachTwo rows P = AllPairs P (values rows)

-- a row is there under the key
abbrev pub IsThere : {K X : Type 0} {R : K → K → Ordering} → FinMap R X → K → Type 0
IsThere rows key = contains_key rows key ≡ true

-- the lists have the same elements
abbrev pub HaveTheSame : {X : Type 0} → List X → List X → Type 0
HaveTheSame {X} xs ys = (x : X) → IsAmong xs x ↔ IsAmong ys x

-- so many months a lease may be signed for
abbrev pub IsLeaseLength : ℕ → Type 0
IsLeaseLength months = (LEAST_LEASE_MONTHS ≤ months) × (months ≤ MOST_LEASE_MONTHS)

-- the lease is so long, and starts in this month or later
abbrev pub IsInTime : ℕ → Lease → Type 0
IsInTime first lease = IsLeaseLength lease.terms.months × (first ≤ month_of_day lease.terms.start)

-- the ending leaves as many months as a lease has at least, and fewer than its lease, if that is there
abbrev pub IsEarly : Ending → Option Lease → Type 0
IsEarly it found = (LEAST_LEASE_MONTHS ≤ it.months) × IfSome found (λ lease. it.months < lease.terms.months)

module _ (books : Books) where
  pub record PropertyRefers (property : Property) : Type 0 where
    pub owner : IsThere books.owners property.owner
    pub staff : IfSome property.staff (λ member. IsThere books.staff member)
    pub branch : IsThere books.branches property.branch

  pub record RegistrationRefers (it : Registration) : Type 0 where
    pub client : IsThere books.clients it.client
    pub branch : IsThere books.branches it.branch
    pub staff : IsThere books.staff it.staff

  pub record ViewingRefers (it : Viewing) : Type 0 where
    pub client : IsThere books.clients it.client
    pub property : IsThere books.properties it.property

  pub record InspectionRefers (it : Inspection) : Type 0 where
    pub property : IsThere books.properties it.property
    pub staff : IsThere books.staff it.staff

  pub record LeaseRefers (lease : Lease) : Type 0 where
    pub client : IsThere books.clients lease.terms.client
    pub property : IsThere books.properties lease.terms.property
    -- the client is registered at the property's branch
    pub registered : is_registered books lease.terms.client (get books.properties lease.terms.property) ≡ true

  pub record PartRefers (part : Part) : Type 0 where
    pub run : IsThere books.runs part.month
    pub branch : IsThere books.branches part.branch

  -- what a row of the kind names is there; branches, owners, clients and runs name nothing
  abbrev pub Refers : (kind : Kind) → record_of kind → Type 0
  Refers Kind.Branches branch = Unit {0}
  Refers Kind.Staff member = IsThere books.branches member.branch
  Refers Kind.Owners owner = Unit {0}
  Refers Kind.Properties property = PropertyRefers property
  Refers Kind.Clients client = Unit {0}
  Refers Kind.Registrations it = RegistrationRefers it
  Refers Kind.Viewings it = ViewingRefers it
  Refers Kind.Inspections it = InspectionRefers it
  Refers Kind.Leases lease = LeaseRefers lease
  Refers Kind.Charges charge = IsThere books.leases charge.lease
  Refers Kind.Receipts receipt = IsThere books.leases receipt.payment.lease
  Refers Kind.Runs run = Unit {0}
  Refers Kind.Parts part = PartRefers part
  Refers Kind.BranchFees it = IsThere books.branches it.branch
  Refers Kind.PartFees it = IsThere books.parts (it.month, it.branch)
  Refers Kind.Endings it = IsThere books.leases it.lease

  -- 1: what a row names is there
  abbrev pub NamesWhatIsThere : Type 0
  NamesWhatIsThere = (kind : Kind) → Each (records_of kind books) (Refers kind)

  -- 2: a manager belongs to the property's branch, and who registers a client to the registration's
  pub record StaffOfTheBranch : Type 0 where
    pub managers : Each books.properties (λ property. IfSome property.staff (λ member. works_at property.branch (get books.staff member) ≡ true))
    pub registrars : Each books.registrations (λ it. works_at it.branch (get books.staff it.staff) ≡ true)

  abbrev pub managed_by : List ℕ → ℕ
  managed_by member = count_by (λ property. is_same_optional is_same_text property.staff (Some member)) (values books.properties)

  -- 3: no member of staff manages more properties than one may
  abbrev pub ManagesAtMostHundred : Type 0
  ManagesAtMostHundred = Each books.staff (λ member. managed_by member.number ≤ MANAGED_AT_MOST)

  -- 4: no two leases of one property cover a common day
  abbrev pub LeasesNeverOverlap : Type 0
  LeasesNeverOverlap = EachTwo books.leases (λ lease other. overlap (running books.endings lease) (running books.endings other) ≡ false)

  -- 5: no two leases of one client start on one day
  abbrev pub OneStartADay : Type 0
  OneStartADay = EachTwo books.leases (λ lease other. (is_same_text lease.terms.client other.terms.client && nat_eq lease.terms.start other.terms.start)
      ≡ false)

  -- 6: a lease has 3 to 12 months and starts in the first month or later
  abbrev pub LeasesInTime : Type 0
  LeasesInTime = Each books.leases (IsInTime books.first)

  -- 7: a deposit is twice its lease's rent, and a lease has one at most
  pub record DepositsInOrder : Type 0 where
    pub amounts : Each books.receipts (λ receipt. receipt.payment.kind ≡ Deposit
        → IfSome (get books.leases receipt.payment.lease) (λ lease. receipt.payment.amount ≡ 2 * lease.rent))
    pub one_each : EachTwo books.receipts (λ receipt other. receipt.payment.kind ≡ Deposit → other.payment.kind ≡ Deposit
        → receipt.payment.lease ≢ other.payment.lease)

  -- 8: no key stands twice over receipts and runs, and receipts are numbered from 1 to their count
  pub record KeysInOrder : Type 0 where
    pub keys : AllPairs (λ key other. is_same_text key other ≡ false) (map (λ receipt. receipt.key) (values books.receipts)
        ++ map (λ run. run.key) (values books.runs))
    pub numbers : Each books.receipts (λ receipt. (1 ≤ receipt.number) × (receipt.number ≤ len books.receipts))

  -- 9: the runs are the months from the first to the one before the next; all but the last are closed
  pub record RunsInOrder : Type 0 where
    pub months : books.first ≤ books.next
    pub run : (month : ℕ) → IsThere books.runs month ↔ ((books.first ≤ month) × (month < books.next))
    pub closed : Each books.runs (λ run. run.month + 1 < books.next → run.is_closed ≡ true)

  abbrev pub charges_in : ℕ → List Charge
  charges_in month = filter (λ charge. nat_eq charge.month month) (values books.charges)

  abbrev pub parts_in : ℕ → List Part
  parts_in month = filter (λ part. nat_eq part.month month) (values books.parts)

  -- A closed month: its charges are its dues, part rows and run row sum them up. A branch without dues, which may have come
  -- later, may lack a part row.
  pub record MonthIsClosed (run : Run) : Type 0 where
    pub charges : HaveTheSame (charges_in run.month) (dues books run.month)
    pub parts : (part : Part) → IsAmong (parts_in run.month) part → part ≡ part_of run.month part.branch (dues_of_branch books run.month part.branch)
    pub all_parts : (branch : List ℕ) → IsThere books.branches branch → dues_of_branch books run.month branch ≢ [] → IsThere books.parts (run.month, branch)
    pub count : run.count ≡ length (dues books run.month)
    pub total : run.total ≡ total_of (dues books run.month)

  -- the lease of a charge is on a property of the branch
  abbrev pub is_charged_at : List ℕ → Option Lease → Bool
  is_charged_at branch None = false
  is_charged_at branch (Some lease) = is_property_of branch (get books.properties lease.terms.property)

  -- the charges of a part: those of its month on its branch
  abbrev pub charges_of_part : Part → List Charge
  charges_of_part part = filter (λ charge. is_charged_at part.branch (get books.leases charge.lease)) (charges_in part.month)

  -- the part has a fee row, which sums up the fees of its charges; of an open run, by the present fee of the branch
  pub record HasItsFee (part : Part) : Type 0 where
    pub fee : ℕ
    pub row : get books.part_fees (part.month, part.branch) ≡ Some (part_fee_of part.month part.branch fee (charges_of_part part))
    pub present : IfSome (get books.runs part.month) (λ run. run.is_closed ≡ false → fee ≡ fee_at books part.branch)

  -- 11: each part has its fee row; books of the first version have no fee row
  abbrev pub HasFees : Version → Type 0
  HasFees First = Each books.part_fees (λ it. ⊥)
  HasFees Second = Each books.parts HasItsFee

  -- 12: a lease that was ended early runs three months or more, and fewer than it was signed for
  abbrev pub EndingsInOrder : Type 0
  EndingsInOrder = Each books.endings (λ it. IsEarly it (get books.leases it.lease))

  module _ (size : ℕ) where
    -- so many batches of the month are in the books, and nothing else of it
    pub record ArePosted (month done : ℕ) : Type 0 where
      pub few : done ≤ batches size books month
      pub charges : HaveTheSame (charges_in month) (posted_charges size books month done)
      pub parts : HaveTheSame (parts_in month) (posted_parts size books month done)

    -- an open month: some number of batches, and nothing summed up yet
    pub record MonthIsOpen (run : Run) : Type 0 where
      pub done : ℕ
      pub posted : ArePosted run.month done
      pub count : run.count ≡ 0
      pub total : run.total ≡ 0

    -- 10: each month is charged as its run says, and no other month is charged
    pub record MonthsInOrder : Type 0 where
      pub closed : Each books.runs (λ run. run.is_closed ≡ true → MonthIsClosed run)
      pub under_way : Each books.runs (λ run. run.is_closed ≡ false → MonthIsOpen run)
      pub charged : Each books.charges (λ charge. IsThere books.runs charge.month)
      pub summed : Each books.parts (λ part. IsThere books.runs part.month)

    -- what a rule says
    abbrev pub Holds : Rule → Type 0
    Holds References = NamesWhatIsThere
    Holds Branches = StaffOfTheBranch
    Holds Managers = ManagesAtMostHundred
    Holds Overlaps = LeasesNeverOverlap
    Holds Starts = OneStartADay
    Holds Terms = LeasesInTime
    Holds Deposits = DepositsInOrder
    Holds Keys = KeysInOrder
    Holds Runs = RunsInOrder
    Holds Months = MonthsInOrder
    Holds Fees = HasFees books.version
    Holds Endings = EndingsInOrder

    -- all rules hold
    abbrev pub MeetsRules : Type 0
    MeetsRules = (rule : Rule) → Holds rule

    -- and no run is open
    pub record IsLawful : Type 0 where
      pub rules : MeetsRules
      pub closed : Each books.runs (λ run. run.is_closed ≡ true)
