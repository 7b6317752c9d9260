-- The checks that a command has to pass.
use Rattle.std.specs.Prelude.{ℕ, ◌*◌, min, Bool, true, false, not, ◌&&◌, nat_eq, nat_le, nat_lt, if◌then◌else◌, List, [], ◌∷◌, map, Option, Some, None}
use Rattle.std.specs.Option.{is_some}
use Rattle.std.specs.declared.cmp.Ordering.{Ordering}
use Rattle.std.specs.Option.{option_or}
use Rattle.std.specs.List.{count_by, filter, find, fold, list_any}
use Rattle.std.specs.Cmp.Lexicographic.{pointwise}
use Rattle.std.specs.FinMap.{FinMap, contains_key, get, values}
use Rattle.dh_values.specs.declared.receipt_kind.ReceiptKind.TheVariants.{Deposit}
use Rattle.dh_days.specs.Days.{month_of_day}
use Rattle.dh_types.specs.declared.staff.Staff.{Staff}
use Rattle.dh_types.specs.declared.property.Property.{Property}
use Rattle.dh_types.specs.declared.lease.LeaseTerms.{LeaseTerms}
use Rattle.dh_types.specs.declared.lease.Payment.{Payment}
use Rattle.dh_types.specs.declared.lease.Receipt.{Receipt}
use Rattle.dh_types.specs.declared.run.Run.{Run}
use Rattle.dh_types.specs.declared.reply.Refusal.{Refusal}
use Rattle.dh_types.specs.declared.reply.Refusal.TheVariants as refusal
use Rattle.dh_types.specs.Records.{is_same_optional, is_same_receipt_kind}
use Rattle.dh_model.specs.declared.limits.TheConstants.{MANAGED_AT_MOST}
use Rattle.dh_model.specs.Books.{Books}
use Rattle.dh_model.specs.Leases.{overlap, running}

abbrev pub is_same_text : List ℕ → List ℕ → Bool
is_same_text = pointwise nat_eq

-- a condition, and why what doesn't meet it is refused
abbrev pub Check : Type 0
Check = Bool × Refusal

abbrev pub unless : Bool → Refusal → Check
unless holds why = (holds, why)

-- a check passes, or fails by its refusal
abbrev pub failing : Check → Option Refusal
failing check = if check.0 then None else Some check.1

-- the refusal of the first check that fails
abbrev pub first_failing : List Check → Option Refusal
first_failing [] = None
first_failing (check ∷ checks) = option_or (failing check) (first_failing checks)

-- of a row that may be absent: it is there and so; it is so if it is there; its number, where it is there
abbrev pub some_is : {X : Type 0} → (X → Bool) → Option X → Bool
some_is is None = false
some_is is (Some row) = is row

abbrev pub each_is : {X : Type 0} → (X → Bool) → Option X → Bool
each_is is None = true
each_is is (Some row) = is row

abbrev pub number_in : {X : Type 0} → (X → ℕ) → Option X → ℕ
number_in of None = 0
number_in of (Some row) = of row

-- none is found; else the number is told
abbrev pub none_found : (ℕ → Refusal) → Option ℕ → Check
none_found why found = unless (not (is_some found)) (why (number_in (λ n. n) found))

-- the least of the numbers
abbrev pub at_most : Option ℕ → ℕ → ℕ
at_most None n = n
at_most (Some m) n = min m n

abbrev pub least : List ℕ → Option ℕ
least numbers = fold (λ so_far n. Some (at_most so_far n)) None numbers

-- the field names a row that is there
abbrev pub names : {K X : Type 0} {R : K → K → Ordering} → FinMap R X → K → ℕ → Check
names rows key field = unless (contains_key rows key) (refusal.Unknown field)

abbrev pub works_at : List ℕ → Option Staff → Bool
works_at branch None = false
works_at branch (Some member) = is_same_text member.branch branch

-- the member of staff belongs to the branch
abbrev pub of_branch : Books → List ℕ → List ℕ → Check
of_branch books member branch = unless (works_at branch (get books.staff member)) refusal.WrongBranch

-- the properties that the member of staff manages, but for one
abbrev pub managed_besides : Books → List ℕ → List ℕ → ℕ
managed_besides books member property =
    count_by (λ other. is_same_optional is_same_text other.staff (Some member) && not (is_same_text other.number property)) (values books.properties)

-- the member of staff has room for this property more
abbrev pub has_room : Books → List ℕ → List ℕ → Bool
has_room books member property = nat_lt (managed_besides books member property) MANAGED_AT_MOST

-- the client is registered at the branch of the property
abbrev pub is_registered : Books → List ℕ → Option Property → Bool
is_registered books client None = false
is_registered books client (Some property) = contains_key books.registrations (client, property.branch)

abbrev pub registered : Books → List ℕ → List ℕ → Check
registered books client property = unless (is_registered books client (get books.properties property)) refusal.NotRegistered

-- the lease starts in the next month to be run or later
abbrev pub in_time : Books → ℕ → Check
in_time books start = unless (nat_le books.next (month_of_day start)) (refusal.MonthPosted books.next)

-- the least number of a lease of the client that starts that day, and of one of the property that covers a common day
abbrev pub least_that_day : Books → List ℕ → ℕ → Option ℕ
least_that_day books client day =
    least (map (λ lease. lease.terms.number) (filter (λ lease. is_same_text lease.terms.client client && nat_eq lease.terms.start day) (values books.leases)))

abbrev pub least_overlapping : Books → LeaseTerms → Option ℕ
least_overlapping books terms = least (map (λ lease. lease.terms.number) (filter (λ lease. overlap terms (running books.endings lease)) (values books.leases)))

abbrev pub is_deposit : Payment → Bool
is_deposit payment = is_same_receipt_kind payment.kind Deposit

-- the lease has a deposit receipt
abbrev pub has_deposit : Books → ℕ → Bool
has_deposit books lease = list_any (λ receipt. nat_eq receipt.payment.lease lease && is_same_receipt_kind receipt.payment.kind Deposit) (values books.receipts)

-- the deposit is the first on its lease, and twice the lease's rent
abbrev pub deposit_checks : Books → Payment → List Check
deposit_checks books payment =
    let found = get books.leases payment.lease in
    unless (if is_deposit payment then not (has_deposit books payment.lease) else true) refusal.DepositPaid
    ∷ unless (if is_deposit payment then each_is (λ lease. nat_eq payment.amount (2 * lease.rent)) found else true)
    (refusal.DepositAmount (number_in (λ lease. 2 * lease.rent) found))
    ∷ []

-- the receipt and the run that have this key
abbrev pub receipt_of_key : Books → List ℕ → Option Receipt
receipt_of_key books key = find (λ receipt. is_same_text receipt.key key) (values books.receipts)

abbrev pub run_of_key : Books → List ℕ → Option Run
run_of_key books key = find (λ run. is_same_text run.key key) (values books.runs)
