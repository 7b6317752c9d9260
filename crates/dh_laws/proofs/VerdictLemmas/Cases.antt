-- Each accepted command's rows, and what its checks found.
use Rattle.std.proofs.Common.{◌≡◌, ◌∙◌, refl, sym, ap, subst, ◌+◌, ◌≤◌, Bool, true}
use Rattle.std.proofs.Common.{false, nat_eq, ◌&&◌, Option, Some, None}
use Rattle.std.proofs.Common.{ltb-true, leb-true}
use Rattle.std.proofs.lemmas.Bool.{false≢true}
use Rattle.std.specs.Option.{is_some}
use Rattle.std.specs.FinMap.{get, len, values}
use Rattle.dh_values.specs.declared.limits.TheConstants.{LEAST_LEASE_MONTHS}
use Rattle.dh_types.specs.declared.property.Property.{Property}
use Rattle.dh_types.specs.declared.lease.LeaseTerms.{LeaseTerms}
use Rattle.dh_types.specs.declared.lease.Lease.{Lease}
use Rattle.dh_types.specs.declared.lease.Ending.{Ending}
use Rattle.dh_types.specs.declared.fee.BranchFee.{BranchFee}
use Rattle.dh_days.specs.Days.{month_of_day}
use Rattle.dh_types.specs.declared.command.Command.{Command}
use Rattle.dh_types.specs.declared.command.Command.TheVariants as command
use Rattle.dh_types.specs.declared.command.Assignment.{Assignment}
use Rattle.dh_types.specs.declared.command.RunOrder.{RunOrder}
use Rattle.dh_types.proofs.SameValues.{numbers}
use Rattle.dh_model.specs.declared.open_run.OpenRun.{OpenRun}
use Rattle.dh_model.specs.declared.rows.Change.{Change}
use Rattle.dh_model.specs.declared.rows.Change.TheVariants as change
use Rattle.dh_model.specs.declared.rows.Verdict.TheVariants as verdict
use Rattle.dh_model.specs.Books.{Books}
use Rattle.dh_model.specs.Kinds.{Kind, key_of, record_of, records_of}
use Rattle.dh_model.specs.Edits.{Edit, Insert, Replace, edit_of}
use Rattle.dh_model.specs.MachineLaws.{is_post}
use Rattle.dh_model.specs.Rules.{IsLeaseLength, Refers}
use Rattle.dh_model.specs.Leases.{length_of, overlap, running}
use Rattle.dh_model.specs.Checks.{is_same_text, receipt_of_key, run_of_key}
use Rattle.dh_model.specs.Verdicts.{ending_checks, ending_rows, fee_rows, lease_checks, manager_checks, on_run, opened_run, ruling}
use Rattle.dh_model.specs.Verdicts.{run_ruling, signed, verdict_on}
use Rattle.dh_laws.proofs.VerdictLemmas.Checks.{can_manage, deposit_of, new_key, none_of_leases}
use Rattle.dh_laws.proofs.VerdictLemmas.Rulings.{Held, Passes, RunFits, Unsaid, a_row, no_row, passes}
use Rattle.dh_laws.specs.Batches.{is_plain}
use Rattle.dh_laws.specs.InOrder.{IsEntered, run_after}
use Rattle.dh_laws.proofs.VerdictLemmas.Acceptance.{Accepted, AddsLease, Alters, Assigns, EndsLease, OpensRun}
use Rattle.dh_laws.proofs.InvariantLemmas.Growth.{if_some}

-- the rows of each command, where it is accepted
abbrev pub rows_of : Books → Command → Change
rows_of books told = (ruling books (len books.receipts) told).rows

-- the row of a fee or an end is new, or in the place of another
of_fee : (P : Change → Type 0) (it : BranchFee) (found : Option BranchFee) → (found ≡ None → P (change.NewFee it))
    → ((was : BranchFee) → found ≡ Some was → P (change.Fee it)) → P (fee_rows it found)
of_fee P it None new again = new refl
of_fee P it (Some was) new again = again was refl

pub of_ending : (P : Change → Type 0) (it : Ending) (found : Option Ending) → (found ≡ None → P (change.NewEnding it))
    → ((was : Ending) → found ≡ Some was → P (change.Ending it)) → P (ending_rows it found)
of_ending P it None new again = new refl
of_ending P it (Some was) new again = again was refl

module _ (books : Books) (run : Option OpenRun) where
  assigns : (it : Assignment) (found : Option Property) → get books.properties it.property ≡ found → is_some found ≡ true
      → Held (manager_checks books found it.staff) → Assigns books run it
  assigns it None is there checks = cc
  assigns it (Some row) is there checks = record {
    row = row;
    is = is;
    staff = can_manage books row.branch row.number it.staff checks.0 checks.1.0 checks.1.1.0;
  }

  ends : (it : Ending) (found : Option Lease) → run ≡ None → get books.leases it.lease ≡ found → is_some found ≡ true → Held (ending_checks books it found)
      → EndsLease books run it
  ends it None closed is there checks = cc
  ends it (Some lease) closed is there checks = record {
    closed = closed;
    lease = lease;
    is = is;
    shorter = ltb-true it.months (length_of books.endings lease) checks.0;
    in_time = leb-true books.next (month_of_day lease.terms.start + it.months) checks.1.0;
  }

  signs : (terms : LeaseTerms) → run ≡ None → Held (lease_checks books terms) → AddsLease books run (signed books terms (get books.properties terms.property))
  signs terms closed checks = record {
    closed = closed;
    in_time = leb-true books.next (month_of_day terms.start) checks.1.1.1.0;
    first = none_of_leases (λ l. is_same_text l.terms.client terms.client && nat_eq l.terms.start terms.start) (values books.leases) checks.1.1.1.1.0;
    free = none_of_leases (λ l. overlap terms (running books.endings l)) (values books.leases) checks.1.1.1.1.1.0;
  }

  opens : (order : RunOrder) → run ≡ None → Unsaid (run_ruling books order).before → Held (run_ruling books order).checks
      → OpensRun books run (opened_run books order)
  opens order closed found checks = record {
    closed = closed;
    month = (numbers order.month books.next).0 checks.0;
    is_open = refl;
    count = refl;
    total = refl;
    key = new_key books order.key (no_row (receipt_of_key books order.key) found.1.1.0) (no_row (run_of_key books order.key) found.1.0);
  }

  altered : (kind : Kind) (key : key_of kind) (into : record_of kind → record_of kind) → is_some (get (records_of kind books) key) ≡ true
      → ((row : record_of kind) → Refers books kind row → Refers books kind (into row)) → Alters books run kind key into
  altered kind key into there refers =
      let found = a_row (get (records_of kind books) key) there in
      record { row = found.0; is = found.1; refers = refers found.0 }

  -- what is found fit of each command
  fit : (told : Command) → RunFits (on_run told) run → Unsaid (ruling books (len books.receipts) told).before
      → Held (ruling books (len books.receipts) told).checks
      → Accepted books run (rows_of books told)
  fit (command.Fee it) closed found checks =
      of_fee (Accepted books run) it (get books.branch_fees it.branch) (λ none. record { known = none; refers = found.0; fits = closed })
      (λ was is. record { known = (was, is); refers = found.0; fits = closed })
  fit (command.Property it) free found checks =
      let can = can_manage books it.branch it.number it.staff checks.1.0 checks.1.1.1.0 checks.1.1.1.1.0 in
      record {
        known = no_row (get books.properties it.number) found.1.0;
        refers = record { owner = checks.0; staff = if_some it.staff (λ m c. c.there) can; branch = checks.1.1.0 };
        fits = can;
      }
  fit (command.Assign it) free found checks = assigns it (get books.properties it.property) refl found.0 checks
  fit (command.Rent it) free found checks =
      altered Kind.Properties it.property (λ row. record row { rent = it.rent }) found.0
      (λ row r. record { owner = r.owner; staff = r.staff; branch = r.branch })
  fit (command.Comment it) free found checks =
      altered Kind.Viewings (it.client, it.property) (λ row. record row { comment = Some it.comment }) found.0
      (λ row r. record { client = r.client; property = r.property })
  fit (command.Lease terms) closed found checks = record {
    known = no_row (get books.leases terms.number) found.1.0;
    refers = record { client = checks.0; property = checks.1.0; registered = checks.1.1.0 };
    fits = signs terms closed checks;
  }
  fit (command.End it) closed found checks =
      let fits = ends it (get books.leases it.lease) closed refl found.0 checks in
      of_ending (Accepted books run) it (get books.endings it.lease) (λ none. record { known = none; refers = found.0; fits = fits })
      (λ was is. record { known = (was, is); refers = found.0; fits = fits })
  fit (command.Receipt order) closed found checks = record {
    known = refl;
    refers = checks.0;
    fits = record {
      deposit = deposit_of books order.payment (checks.1.0, (checks.1.1.0, tt));
      key = new_key books order.key (no_row (receipt_of_key books order.key) found.1.0) (no_row (run_of_key books order.key) found.1.1.0);
    };
  }
  fit (command.Run order) closed found checks = opens order closed found checks
  fit (command.Open order) closed found checks = opens order closed found checks
  fit (command.Post count) needed found checks = tt
  fit told fits found checks = record { known = no_row _ found.1.0; refers = assumption; fits = assumption }

  module _ (rows : Change) (told : Command) (h : verdict_on books run told ≡ verdict.Change rows) where
    abbrev passed : Passes (on_run told) run (ruling books (len books.receipts) told) rows
    passed = passes (on_run told) run (ruling books (len books.receipts) told) rows h

    pub rows_are : rows ≡ rows_of books told
    rows_are = passed.rows_are

    found_fit : Accepted books run (rows_of books told)
    found_fit = fit told passed.fits passed.before passed.checks

    pub case_of : (rows ≡ rows_of books told) × Accepted books run (rows_of books told)
    case_of = (rows_are, found_fit)

    -- the rows of an accepted command were found fit
    pub accepted : Accepted books run rows
    accepted = subst (Accepted books run) (sym rows_are) found_fit

-- ---- what a line holds

-- the months of a new lease, or of its end
abbrev pub IsLimited : Edit → Type 0
IsLimited (Insert Kind.Leases lease) = IsLeaseLength lease.terms.months
IsLimited (Insert Kind.Endings it) = LEAST_LEASE_MONTHS ≤ it.months
IsLimited (Replace Kind.Endings it) = LEAST_LEASE_MONTHS ≤ it.months
IsLimited _ = Unit {0}

abbrev HasLimits : Change → Type 0
HasLimits rows = IsLimited (edit_of rows)

entered_limited : (books : Books) (told : Command) → IsEntered told → HasLimits (rows_of books told)
entered_limited books (command.Lease terms) entered = entered
entered_limited books (command.Fee it) entered = of_fee HasLimits it (get books.branch_fees it.branch) (λ none. tt) (λ was is. tt)
entered_limited books (command.End it) entered = of_ending HasLimits it (get books.endings it.lease) (λ none. entered) (λ was is. entered)
entered_limited books _ entered = tt

pub limited : (books : Books) (run : Option OpenRun) (rows : Change) (told : Command) → IsEntered told → verdict_on books run told ≡ verdict.Change rows
    → IsLimited (edit_of rows)
limited books run rows told entered h = subst HasLimits (sym (rows_are books run rows told h)) (entered_limited books told entered)

-- ---- rows of no run

-- runs and their parts
abbrev pub is_of_run : Command → Bool
is_of_run (command.Run order) = true
is_of_run (command.Open order) = true
is_of_run (command.Post count) = true
is_of_run _ = false

pub plain_of : (books : Books) (told : Command) → is_of_run told ≡ false → is_plain (rows_of books told) ≡ true
plain_of books (command.Fee it) other = of_fee (λ rows. is_plain rows ≡ true) it (get books.branch_fees it.branch) (λ none. refl) (λ was is. refl)
plain_of books (command.End it) other = of_ending (λ rows. is_plain rows ≡ true) it (get books.endings it.lease) (λ none. refl) (λ was is. refl)
plain_of books _ other = cc

pub plain_rows : (books : Books) (run : Option OpenRun) (told : Command) (rows : Change) → is_of_run told ≡ false
    → verdict_on books run told ≡ verdict.Change rows → is_plain rows ≡ true
plain_rows books run told rows other h = ap is_plain (rows_are books run rows told h) ∙ plain_of books told other

pub other_than : (told : Command) → ((order : RunOrder) → told ≡ command.Run order → ⊥) → ((order : RunOrder) → told ≡ command.Open order → ⊥)
    → is_post told ≡ false → is_of_run told ≡ false
other_than (command.Run order) run opens post = absurd (run order refl)
other_than (command.Open order) run opens post = absurd (opens order refl)
other_than (command.Post count) run opens post = absurd (false≢true (sym post))
other_than _ run opens post = refl

-- which leave the open run
pub run_stays : (run : Option OpenRun) (rows : Change) → is_plain rows ≡ true → run_after run rows ≡ run
run_stays run (change.Open row) plain = absurd (false≢true plain)
run_stays run _ plain = refl
