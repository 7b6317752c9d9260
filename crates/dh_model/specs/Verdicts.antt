-- What the books say of each command: the first check that fails, or the rows that it adds or replaces.
use Rattle.std.specs.Prelude.{ℕ, ◌+◌, Bool, not, nat_eq, nat_le, nat_lt, false, if◌then◌else◌, List, [], ◌∷◌, ◌++◌, Option, Some, None}
use Rattle.std.specs.Option.{is_some}
use Rattle.std.specs.FinMap.{contains_key, get, len}
use Rattle.dh_values.specs.declared.limits.TheConstants.{MOST_NUMBER}
use Rattle.dh_types.specs.declared.field.TheConstants.{STAFF_BRANCH, PROPERTY_OWNER, PROPERTY_STAFF, PROPERTY_BRANCH, CHANGED_PROPERTY, ASSIGNED_STAFF}
use Rattle.dh_types.specs.declared.field.TheConstants.{REGISTERED_CLIENT, REGISTERED_BRANCH, REGISTERED_STAFF, VIEWING_CLIENT, VIEWING_PROPERTY}
use Rattle.dh_types.specs.declared.field.TheConstants.{INSPECTED_PROPERTY, INSPECTION_STAFF, LEASE_CLIENT, LEASE_PROPERTY, RECEIPT_LEASE}
use Rattle.dh_types.specs.declared.field.TheConstants.{ENDED_LEASE, FEE_BRANCH}
use Rattle.dh_days.specs.Days.{month_of_day}
use Rattle.dh_types.specs.declared.branch.Branch.{Branch}
use Rattle.dh_types.specs.declared.staff.Staff.{Staff}
use Rattle.dh_types.specs.declared.owner.Owner.{Owner}
use Rattle.dh_types.specs.declared.property.Property.{Property}
use Rattle.dh_types.specs.declared.client.Client.{Client}
use Rattle.dh_types.specs.declared.client.Registration.{Registration}
use Rattle.dh_types.specs.declared.viewing.Viewing.{Viewing}
use Rattle.dh_types.specs.declared.viewing.Inspection.{Inspection}
use Rattle.dh_types.specs.declared.lease.LeaseTerms.{LeaseTerms}
use Rattle.dh_types.specs.declared.lease.Lease.{Lease}
use Rattle.dh_types.specs.declared.lease.Payment.{Payment}
use Rattle.dh_types.specs.declared.lease.Ending.{Ending}
use Rattle.dh_types.specs.declared.fee.BranchFee.{BranchFee}
use Rattle.dh_types.specs.declared.run.Run.{Run}
use Rattle.dh_types.specs.declared.run.RunSum.{RunSum}
use Rattle.dh_types.specs.declared.command.Command.{Command}
use Rattle.dh_types.specs.declared.command.Command.TheVariants as command
use Rattle.dh_types.specs.declared.command.Assignment.{Assignment}
use Rattle.dh_types.specs.declared.command.RentChange.{RentChange}
use Rattle.dh_types.specs.declared.command.ViewingComment.{ViewingComment}
use Rattle.dh_types.specs.declared.command.ReceiptOrder.{ReceiptOrder}
use Rattle.dh_types.specs.declared.command.RunOrder.{RunOrder}
use Rattle.dh_types.specs.declared.reply.Reply.{Reply}
use Rattle.dh_types.specs.declared.reply.Reply.TheVariants as reply
use Rattle.dh_types.specs.declared.reply.Refusal.{Refusal}
use Rattle.dh_types.specs.declared.reply.Refusal.TheVariants as refusal
use Rattle.dh_types.specs.Records.{is_same_branch, is_same_client, is_same_inspection, is_same_lease_terms, is_same_optional, is_same_owner, is_same_payment}
use Rattle.dh_types.specs.Records.{is_same_property, is_same_registration, is_same_staff, is_same_viewing}
use Rattle.dh_model.specs.declared.open_run.OpenRun.{OpenRun}
use Rattle.dh_model.specs.declared.rows.Change.{Change}
use Rattle.dh_model.specs.declared.rows.Change.TheVariants as change
use Rattle.dh_model.specs.declared.rows.Verdict.{Verdict}
use Rattle.dh_model.specs.declared.rows.Verdict.TheVariants as verdict
use Rattle.dh_model.specs.Books.{Books}
use Rattle.dh_model.specs.Leases.{length_of}
use Rattle.dh_model.specs.Runs.{fee_at, sum_of}
use Rattle.dh_model.specs.Checks.{Check, deposit_checks, each_is, first_failing, has_room, in_time, is_same_text, names, number_in}
use Rattle.dh_model.specs.Checks.{least_overlapping, least_that_day, none_found, of_branch, receipt_of_key, registered, run_of_key, some_is, unless, works_at}

-- what is found of a command before its checks: that it was carried out already, or what has to hold
pub data Finding : Type 0 where
  Known : Bool → Reply → Finding
  Must : Bool → Refusal → Finding

-- What the books say of a command: what is found first, in its order; then its checks, in theirs; and the rows that it adds or replaces.
pub record Ruling : Type 0 where
  pub before : List Finding
  pub checks : List Check
  pub rows : Change

-- the first that speaks
abbrev pub first_finding : List Finding → Verdict → Verdict
first_finding [] otherwise = otherwise
first_finding (Known is kept ∷ rest) otherwise = if is then verdict.Already kept else first_finding rest otherwise
first_finding (Must holds why ∷ rest) otherwise = if holds then first_finding rest otherwise else verdict.Refused why

-- the rows, where no check failed
abbrev pub rows_unless : Option Refusal → Change → Verdict
rows_unless None rows = verdict.Change rows
rows_unless (Some why) rows = verdict.Refused why

abbrev pub judged : List Check → Change → Verdict
judged checks rows = rows_unless (first_failing checks) rows

abbrev pub decided : Ruling → Verdict
decided it = first_finding it.before (judged it.checks it.rows)

-- of a row that is put in: one that is there already is the same, or it refuses
abbrev pub new_row : {X : Type 0} → (X → Bool) → Option X → List Check → Change → Ruling
new_row is_same found checks rows = record {
  before = Known (some_is is_same found) reply.Already ∷ Must (not (is_some found)) refusal.Taken ∷ [];
  checks = checks;
  rows = rows;
}

-- of a row that is changed: it is there, and it isn't so already
abbrev pub row_altered : {X : Type 0} → ℕ → (X → Bool) → Option X → List Check → Change → Ruling
row_altered field is_so found checks rows = record {
  before = Must (is_some found) (refusal.Unknown field) ∷ Known (some_is is_so found) reply.Already ∷ [];
  checks = checks;
  rows = rows;
}

-- the first fee of a branch is a row that is added, and another one is put in its place
abbrev pub fee_rows : BranchFee → Option BranchFee → Change
fee_rows it None = change.NewFee it
fee_rows it (Some was) = change.Fee it

abbrev pub ending_rows : Ending → Option Ending → Change
ending_rows it None = change.NewEnding it
ending_rows it (Some was) = change.Ending it

module _ (books : Books) where
  -- the terms at the property's rent
  abbrev pub signed : LeaseTerms → Option Property → Lease
  signed terms found = record { terms = terms; rent = number_in (λ property. property.rent) found }

  -- the row of a run that begins
  abbrev pub opened_run : RunOrder → Run
  opened_run order = record { month = order.month; key = order.key; count = 0; total = 0; is_closed = false }

  abbrev pub branch_ruling : Branch → Ruling
  branch_ruling it = new_row (is_same_branch it) (get books.branches it.number) [] (change.Branch it)

  abbrev pub fee_ruling : BranchFee → Ruling
  fee_ruling it = record {
    before = Must (contains_key books.branches it.branch) (refusal.Unknown FEE_BRANCH) ∷ Known (nat_eq it.fee (fee_at books it.branch)) reply.Already ∷ [];
    checks = [];
    rows = fee_rows it (get books.branch_fees it.branch);
  }

  abbrev pub staff_ruling : Staff → Ruling
  staff_ruling it = new_row (is_same_staff it) (get books.staff it.number) (names books.branches it.branch STAFF_BRANCH ∷ []) (change.Staff it)

  abbrev pub owner_ruling : Owner → Ruling
  owner_ruling it = new_row (is_same_owner it) (get books.owners it.number) [] (change.Owner it)

  abbrev pub property_checks : Property → List Check
  property_checks it =
      names books.owners it.owner PROPERTY_OWNER
      ∷ unless (each_is (λ member. contains_key books.staff member) it.staff) (refusal.Unknown PROPERTY_STAFF)
      ∷ names books.branches it.branch PROPERTY_BRANCH
      ∷ unless (each_is (λ member. works_at it.branch (get books.staff member)) it.staff) refusal.WrongBranch
      ∷ unless (each_is (λ member. has_room books member it.number) it.staff) refusal.TooMany
      ∷ []

  abbrev pub property_ruling : Property → Ruling
  property_ruling it = new_row (is_same_property it) (get books.properties it.number) (property_checks it) (change.Property it)

  -- of the manager of a property
  abbrev pub manager_checks : Option Property → Option (List ℕ) → List Check
  manager_checks found member =
      unless (each_is (λ m. contains_key books.staff m) member) (refusal.Unknown ASSIGNED_STAFF)
      ∷ unless (each_is (λ property. each_is (λ m. works_at property.branch (get books.staff m)) member) found) refusal.WrongBranch
      ∷ unless (each_is (λ property. each_is (λ m. has_room books m property.number) member) found) refusal.TooMany
      ∷ []

  -- the manager of a property that is there
  abbrev pub assigned : Assignment → Option Property → Ruling
  assigned it found =
      row_altered CHANGED_PROPERTY (λ property. is_same_optional is_same_text it.staff property.staff) found (manager_checks found it.staff) (change.Assign it)

  abbrev pub assign_ruling : Assignment → Ruling
  assign_ruling it = assigned it (get books.properties it.property)

  abbrev pub rent_ruling : RentChange → Ruling
  rent_ruling it = row_altered CHANGED_PROPERTY (λ property. nat_eq it.rent property.rent) (get books.properties it.property) [] (change.Rent it)

  abbrev pub client_ruling : Client → Ruling
  client_ruling it = new_row (is_same_client it) (get books.clients it.number) [] (change.Client it)

  abbrev pub registration_checks : Registration → List Check
  registration_checks it =
      names books.clients it.client REGISTERED_CLIENT
      ∷ names books.branches it.branch REGISTERED_BRANCH
      ∷ names books.staff it.staff REGISTERED_STAFF
      ∷ of_branch books it.staff it.branch
      ∷ []

  abbrev pub register_ruling : Registration → Ruling
  register_ruling it = new_row (is_same_registration it) (get books.registrations (it.client, it.branch)) (registration_checks it) (change.Register it)

  abbrev pub viewing_checks : Viewing → List Check
  viewing_checks it = names books.clients it.client VIEWING_CLIENT ∷ names books.properties it.property VIEWING_PROPERTY ∷ []

  abbrev pub viewing_ruling : Viewing → Ruling
  viewing_ruling it = new_row (is_same_viewing it) (get books.viewings (it.client, it.property)) (viewing_checks it) (change.Viewing it)

  abbrev pub comment_ruling : ViewingComment → Ruling
  comment_ruling it =
      row_altered VIEWING_CLIENT (λ viewing. is_same_optional is_same_text (Some it.comment) viewing.comment) (get books.viewings (it.client, it.property)) []
      (change.Comment it)

  abbrev pub inspection_checks : Inspection → List Check
  inspection_checks it = names books.properties it.property INSPECTED_PROPERTY ∷ names books.staff it.staff INSPECTION_STAFF ∷ []

  abbrev pub inspection_ruling : Inspection → Ruling
  inspection_ruling it = new_row (is_same_inspection it) (get books.inspections (it.property, it.day)) (inspection_checks it) (change.Inspection it)

  abbrev pub lease_checks : LeaseTerms → List Check
  lease_checks terms =
      names books.clients terms.client LEASE_CLIENT
      ∷ names books.properties terms.property LEASE_PROPERTY
      ∷ registered books terms.client terms.property
      ∷ in_time books terms.start
      ∷ none_found refusal.ClientStart (least_that_day books terms.client terms.start)
      ∷ none_found refusal.Overlap (least_overlapping books terms)
      ∷ []

  abbrev pub lease_ruling : LeaseTerms → Ruling
  lease_ruling terms =
      new_row (λ lease. is_same_lease_terms terms lease.terms) (get books.leases terms.number)
      (lease_checks terms) (change.Lease (signed terms (get books.properties terms.property)))

  -- shorter than the lease runs, and by no month that was run
  abbrev pub ending_checks : Ending → Option Lease → List Check
  ending_checks it found =
      unless (each_is (λ lease. nat_lt it.months (length_of books.endings lease)) found)
      (refusal.NotShorter (number_in (λ lease. length_of books.endings lease) found))
      ∷ unless (each_is (λ lease. nat_le books.next (month_of_day lease.terms.start + it.months)) found) (refusal.MonthPosted books.next)
      ∷ []

  -- the early end of a lease that is there
  abbrev pub ended : Ending → Option Lease → Ruling
  ended it found =
      row_altered ENDED_LEASE (λ lease. nat_eq it.months (length_of books.endings lease)) found
      (ending_checks it found) (ending_rows it (get books.endings it.lease))

  abbrev pub end_ruling : Ending → Ruling
  end_ruling it = ended it (get books.leases it.lease)

  abbrev pub payment_checks : Payment → List Check
  payment_checks payment = names books.leases payment.lease RECEIPT_LEASE ∷ deposit_checks books payment

  -- of a receipt, where there are so many
  abbrev pub receipt_checks : ℕ → ReceiptOrder → List Check
  receipt_checks count order = payment_checks order.payment ++ unless (nat_lt count MOST_NUMBER) refusal.Full ∷ []

  -- a key of a receipt or a run is kept for good
  abbrev pub receipt_ruling : ℕ → ReceiptOrder → Ruling
  receipt_ruling count order =
      let found = receipt_of_key books order.key in
      record {
        before = Known (some_is (λ receipt. is_same_payment order.payment receipt.payment) found)
            (reply.AlreadyReceipt (number_in (λ receipt. receipt.number) found))
            ∷ Must (not (is_some found)) refusal.KeyUsed
            ∷ Must (not (is_some (run_of_key books order.key))) refusal.KeyUsed
            ∷ [];
        checks = receipt_checks count order;
        rows = change.Receipt (record { number = count + 1; key = order.key; payment = order.payment });
      }

  -- what a run that is there came to
  abbrev pub sum_in : Option Run → RunSum
  sum_in None = record { month = 0; count = 0; total = 0 }
  sum_in (Some run) = sum_of run

  -- of `run` and of `open` alike
  abbrev pub run_ruling : RunOrder → Ruling
  run_ruling order =
      let found = run_of_key books order.key in
      record {
        before = Known (some_is (λ run. nat_eq order.month run.month) found) (reply.AlreadyPosted (sum_in found))
            ∷ Must (not (is_some found)) refusal.KeyUsed
            ∷ Must (not (is_some (receipt_of_key books order.key))) refusal.KeyUsed
            ∷ [];
        checks = unless (nat_eq order.month books.next) (refusal.NotNextMonth books.next) ∷ [];
        rows = change.Open (opened_run order);
      }

  abbrev pub run_verdict : RunOrder → Verdict
  run_verdict order = decided (run_ruling order)

  -- where there are so many receipts
  abbrev pub ruling : ℕ → Command → Ruling
  ruling count (command.Branch it) = branch_ruling it
  ruling count (command.Fee it) = fee_ruling it
  ruling count (command.Staff it) = staff_ruling it
  ruling count (command.Owner it) = owner_ruling it
  ruling count (command.Property it) = property_ruling it
  ruling count (command.Assign it) = assign_ruling it
  ruling count (command.Rent it) = rent_ruling it
  ruling count (command.Client it) = client_ruling it
  ruling count (command.Register it) = register_ruling it
  ruling count (command.Viewing it) = viewing_ruling it
  ruling count (command.Comment it) = comment_ruling it
  ruling count (command.Inspection it) = inspection_ruling it
  ruling count (command.Lease it) = lease_ruling it
  ruling count (command.End it) = end_ruling it
  ruling count (command.Receipt it) = receipt_ruling count it
  ruling count (command.Run it) = run_ruling it
  ruling count (command.Open it) = run_ruling it
  ruling count (command.Post most) = record { before = []; checks = []; rows = change.Post }

-- what an open run means for a command: nothing, that it is put off, or that it is what the command goes on with
pub data OnRun : Type 0 where
  Free : OnRun
  Frozen : OnRun
  Needed : OnRun

abbrev pub on_run : Command → OnRun
on_run (command.Branch it) = Frozen
on_run (command.Fee it) = Frozen
on_run (command.Lease it) = Frozen
on_run (command.End it) = Frozen
on_run (command.Receipt it) = Frozen
on_run (command.Run it) = Frozen
on_run (command.Open it) = Frozen
on_run (command.Post count) = Needed
on_run _ = Free

abbrev pub by_run : OnRun → Option OpenRun → Verdict → Verdict
by_run Free run otherwise = otherwise
by_run Frozen None otherwise = otherwise
by_run Frozen (Some run) otherwise = verdict.Refused (refusal.RunOpen run.month)
by_run Needed None otherwise = verdict.Refused refusal.NoRun
by_run Needed (Some run) otherwise = otherwise

-- what the books say of a command, with an open run or none; how many receipts there are is told besides
abbrev pub verdict_among : Books → ℕ → Option OpenRun → Command → Verdict
verdict_among books count run it = by_run (on_run it) run (decided (ruling books count it))

-- where the books have all of them
abbrev pub verdict_on : Books → Option OpenRun → Command → Verdict
verdict_on books run it = verdict_among books (len books.receipts) run it
