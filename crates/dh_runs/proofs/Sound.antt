-- Books are in order once they are migrated.
use Rattle.std.proofs.Common.{◌≡◌, ◌∙◌, refl, sym, ap, inl, inr, ℕ, List, [], ◌∷◌, map, Option, Some, None, arith}
use Rattle.std.specs.Ordering.{nat_cmp}
use Rattle.std.specs.FinMap.{empty, get, get-empty, values}
use Rattle.std.proofs.lemmas.List.Sums.{sum_by-cons}
use Rattle.dh_types.specs.declared.fee.PartFee.{PartFee}
use Rattle.dh_types.specs.declared.lease.Charge.{Charge}
use Rattle.dh_types.specs.declared.run.Part.{Part}
use Rattle.dh_types.specs.declared.run.Run.{Run}
use Rattle.dh_model.specs.declared.open_run.OpenRun.{OpenRun}
use Rattle.dh_model.specs.Books.{Books, pair_cmp, text_cmp}
use Rattle.dh_model.specs.Kinds.{Kind}
use Rattle.dh_model.specs.Runs.{charge_fee, fees_over, part_fee_key, part_key}
use Rattle.dh_model.specs.Rules.{ArePosted, HasItsFee, IsThere, MeetsRules, MonthIsClosed, MonthIsOpen, MonthsInOrder, NamesWhatIsThere, Rule, charges_of_part}
use Rattle.dh_model.specs.Whole.{IsOpenAt}
use Rattle.dh_model.proofs.Among.{Among, among, in_map, is_among, of_map}
use Rattle.dh_model.proofs.KeyOrders.{nat_text_ties, nat_text_total, nat_ties, nat_total}
use Rattle.dh_model.proofs.MapRows.{of_row, row_of, there}
use Rattle.dh_laws.specs.InOrder.{AreKeyed}
use Rattle.dh_laws.proofs.InvariantLemmas.Fees.{if_found}
use Rattle.dh_laws.proofs.MapMerges.{get_of_rows, got_with_rows, own_row, with_rows_keyed}
use Rattle.dh_runs.specs.Migrated.{AreClosed, MigratedBooksAreInOrder, MigrationMovesNoBalance, migrated, no_fee}

-- by a fee of 0 all charges together come to nothing
nothing_taken : (charges : List Charge) → fees_over 0 charges ≡ 0
nothing_taken [] = refl
nothing_taken (charge ∷ charges) =
    let first : charge_fee 0 charge ≡ 0 = omega arith in
    omega (arith, sum_by-cons (charge_fee 0) charge charges, first, nothing_taken charges)

-- an empty map has no fee row
nowhere : {P : Type 0} (key : ℕ × List ℕ) (it : PartFee) → get (empty {X = PartFee} {R = pair_cmp nat_cmp text_cmp}) key ≡ Some it → P
nowhere key it h = let none : None ≡ Some it = sym (get-empty (pair_cmp nat_cmp text_cmp) key) ∙ h in cc

module _ (books : Books) where
  abbrev rows : List PartFee
  rows = map no_fee (values books.parts)

  -- a row with the key of a part is the row of the part
  same_row : (part : Part) (it : PartFee) → Among rows it → part_fee_key it ≡ part_fee_key (no_fee part) → it ≡ no_fee part
  same_row part it a same =
      let of = in_map no_fee (values books.parts) it a in
      let key : part_key of.0 ≡ part_key part = sym (ap part_fee_key of.2) ∙ same in
      of.2 ∙ (λ i. record { month = (key i).0; branch = (key i).1; fee = 0; total = 0 })

  its_row : (part : Part) → Among (values books.parts) part → get (migrated books).part_fees (part.month, part.branch) ≡ Some (no_fee part)
  its_row part a =
      get_of_rows nat_text_total nat_text_ties part_fee_key rows empty (no_fee part) (of_map no_fee (values books.parts) part a) (same_row part)

  -- there is no other fee row
  of_a_part : (it : PartFee) → Among (values (migrated books).part_fees) it → Among rows it
  of_a_part it a =
      let at = row_of nat_text_total nat_text_ties (migrated books).part_fees it a in
      elim (got_with_rows nat_text_total nat_text_ties part_fee_key rows empty at.0 it at.1) [
        | inl new ↦ new.0
        | inr old ↦ nowhere at.0 it old.1
      ]

  module _ (keyed : AreKeyed books) where
    part_there : (it : PartFee) → Among (values (migrated books).part_fees) it → IsThere books.parts (it.month, it.branch)
    part_there it a =
        let of = in_map no_fee (values books.parts) it (of_a_part it a) in
        let own = own_row nat_text_total nat_text_ties part_key books.parts (keyed Kind.Parts) of.0 of.1 in
        let key : (it.month, it.branch) ≡ part_key of.0 = ap part_fee_key of.2 in
        (there nat_text_total nat_text_ties books.parts (it.month, it.branch)).1 (of.0, ap (get books.parts) key ∙ own)

    migrated_keyed : AreKeyed (migrated books)
    migrated_keyed Kind.PartFees = with_rows_keyed nat_text_total nat_text_ties part_fee_key rows empty (λ key row h. nowhere key row h)
    migrated_keyed kind = keyed kind

    -- each part has its fee row: no run is open whose present fee it would have to be
    has_its_fee : AreClosed books → (part : Part) → Among (values books.parts) part → HasItsFee (migrated books) part
    has_its_fee closed part a = record {
      fee = 0;
      row = its_row part a
          ∙ (λ i. Some (record { month = part.month; branch = part.branch; fee = 0; total = sym (nothing_taken (charges_of_part books part)) i }));
      present = if_found (get books.runs part.month) (λ run is unclosed. absurd (
          let done = closed run (is_among (values books.runs) run (of_row nat_total nat_ties books.runs part.month run is)) in
          let still = unclosed in
          cc));
    }

    module _ (size : ℕ) where
      still_posted : (month done : ℕ) → ArePosted books size month done → ArePosted (migrated books) size month done
      still_posted month done p = record { few = p.few; charges = p.charges; parts = p.parts }

      still_closed : (run : Run) → MonthIsClosed books run → MonthIsClosed (migrated books) run
      still_closed run m = record { charges = m.charges; parts = m.parts; all_parts = m.all_parts; count = m.count; total = m.total }

      still_open : (run : Run) → MonthIsOpen books size run → MonthIsOpen (migrated books) size run
      still_open run m = record { done = m.done; posted = still_posted run.month m.done m.posted; count = m.count; total = m.total }

      still_shown : (run : Option OpenRun) → IsOpenAt size books run → IsOpenAt size (migrated books) run
      still_shown None h = h
      still_shown (Some at) h = (h.0, h.1, h.2, still_posted at.month at.done h.3)

      module _ (rules : MeetsRules books size) where
        names_what_is_there : NamesWhatIsThere (migrated books)
        names_what_is_there Kind.PartFees = λ it a. part_there it (among (values (migrated books).part_fees) it a)
        names_what_is_there Kind.Properties = λ it a. let q = rules Rule.References Kind.Properties it a in
            record { owner = q.owner; staff = q.staff; branch = q.branch }
        names_what_is_there Kind.Registrations = λ it a. let q = rules Rule.References Kind.Registrations it a in
            record { client = q.client; branch = q.branch; staff = q.staff }
        names_what_is_there Kind.Viewings = λ it a. let q = rules Rule.References Kind.Viewings it a in record { client = q.client; property = q.property }
        names_what_is_there Kind.Inspections = λ it a. let q = rules Rule.References Kind.Inspections it a in
            record { property = q.property; staff = q.staff }
        names_what_is_there Kind.Leases = λ it a. let q = rules Rule.References Kind.Leases it a in
            record { client = q.client; property = q.property; registered = q.registered }
        names_what_is_there Kind.Parts = λ it a. let q = rules Rule.References Kind.Parts it a in record { run = q.run; branch = q.branch }
        names_what_is_there kind = rules Rule.References kind

        months_in_order : MonthsInOrder (migrated books) size
        months_in_order = let r = rules Rule.Months in record {
          closed = λ run a e. still_closed run (r.closed run a e);
          under_way = λ run a e. still_open run (r.under_way run a e);
          charged = r.charged;
          summed = r.summed;
        }

        migrated_rules : AreClosed books → MeetsRules (migrated books) size
        migrated_rules closed Rule.References = names_what_is_there
        migrated_rules closed Rule.Branches = let r = rules Rule.Branches in record { managers = r.managers; registrars = r.registrars }
        migrated_rules closed Rule.Managers = rules Rule.Managers
        migrated_rules closed Rule.Overlaps = rules Rule.Overlaps
        migrated_rules closed Rule.Starts = rules Rule.Starts
        migrated_rules closed Rule.Terms = rules Rule.Terms
        migrated_rules closed Rule.Deposits = let r = rules Rule.Deposits in record { amounts = r.amounts; one_each = r.one_each }
        migrated_rules closed Rule.Keys = let r = rules Rule.Keys in record { keys = r.keys; numbers = r.numbers }
        migrated_rules closed Rule.Runs = let r = rules Rule.Runs in record { months = r.months; run = r.run; closed = r.closed }
        migrated_rules closed Rule.Months = months_in_order
        migrated_rules closed Rule.Fees = λ part a. has_its_fee closed part (among (values books.parts) part a)
        migrated_rules closed Rule.Endings = rules Rule.Endings

pub migrated_books_are_in_order : MigratedBooksAreInOrder
migrated_books_are_in_order size books run closed order = record {
  keyed = migrated_keyed books order.keyed;
  rules = migrated_rules books order.keyed size order.rules closed;
  shown = still_shown books order.keyed size run order.shown;
}

-- the charges and the receipts are those of before
pub migration_moves_no_balance : MigrationMovesNoBalance
migration_moves_no_balance books lease = refl
