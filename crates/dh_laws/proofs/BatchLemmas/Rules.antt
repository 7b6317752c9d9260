-- With so many batches of the open month in the place of what they have of it, books keep the rules.
use Rattle.std.proofs.Common.{◌≡◌, ◌⊎◌, ◌∙◌, sym, ap, subst, inl, inr, ℕ, ◌+◌, ◌≤◌, true, false, List, Some, arith}
use Rattle.std.specs.Ordering.{eq_by_cmp}
use Rattle.std.specs.List.{IsAmong}
use Rattle.std.specs.FinMap.{contains_key-keys, get, keys, values}
use Rattle.std.proofs.lemmas.Bool.{cases_lt, true≢false}
use Rattle.dh_types.specs.declared.lease.Charge.{Charge}
use Rattle.dh_types.specs.declared.run.Run.{Run}
use Rattle.dh_types.specs.declared.run.Part.{Part}
use Rattle.dh_types.specs.declared.fee.PartFee.{PartFee}
use Rattle.dh_model.specs.Books.{Books, text_cmp}
use Rattle.dh_model.specs.Kinds.{Kind}
use Rattle.dh_model.specs.Runs.{batches, begun_branches, charge_key, part_fee_key, part_key, part_of}
use Rattle.dh_model.specs.Runs.{posted_charges, posted_fees, posted_of_branch, posted_parts}
use Rattle.dh_model.specs.Rules.{ArePosted, IsThere, MeetsRules, MonthIsClosed, MonthsInOrder, NamesWhatIsThere, Rule}
use Rattle.dh_model.specs.Whole.{with_posted}
use Rattle.dh_model.proofs.Among.{Among, among, is_among, of_map, of_passes}
use Rattle.dh_model.proofs.KeyOrders.{nat_text_ties, nat_text_total, nat_ties, nat_total, nats_tie, nats_total, text_ties, text_total}
use Rattle.dh_laws.specs.InOrder.{AreKeyed}
use Rattle.dh_model.proofs.MapRows.{key_itself, of_row, there}
use Rattle.dh_laws.proofs.MapMerges.{one_row, own_row}
use Rattle.dh_laws.proofs.BatchLemmas.MonthRows.{in_month, in_other_month, keyed_replaced, of_new, of_old, value_of_replaced}
use Rattle.dh_laws.proofs.BatchLemmas.Dues.{IsOwed, is_begun, is_fee_of, month_of_begun, owed_posted}
use Rattle.dh_laws.proofs.BatchLemmas.Charged.{charge_month, charges_fit, fee_month, fees_fit, part_month, parts_fit}
use Rattle.dh_laws.proofs.BatchLemmas.Fees.{fees_after}

module _ (size : ℕ) (books : Books) (keyed : AreKeyed books) (rules : MeetsRules books size) where
  branch_there : (branch : List ℕ) → Among (keys books.branches) branch → IsThere books.branches branch
  branch_there branch a =
      contains_key-keys books.branches branch ∙ of_passes (eq_by_cmp text_cmp branch) (keys books.branches) branch a (key_itself text_total text_ties branch)

  lease_there : (charge : Charge) → IsOwed books charge → IsThere books.leases charge.lease
  lease_there charge owed =
      let number : charge.lease ≡ owed.lease.terms.number = ap (λ (c : Charge). c.lease) owed.is in
      let own = own_row nat_total nat_ties (λ lease. lease.terms.number) books.leases (keyed Kind.Leases) owed.lease owed.of in
      subst (IsThere books.leases) (sym number) ((there nat_total nat_ties books.leases owed.lease.terms.number).1 (owed.lease, own))

  module _ (month n : ℕ) where
    -- a charge is one of the batches, or was there
    charge_of : (charge : Charge) → IsAmong (values (with_posted size books month n).charges) charge
        → Among (posted_charges size books month n) charge ⊎ (Among (values books.charges) charge × (charge.month ≡ month → ⊥))
    charge_of charge a =
        value_of_replaced charge_key charge_month nats_total nats_tie books.charges month (posted_charges size books month n)
        (charges_fit size books keyed rules month n) charge
        (among (values (with_posted size books month n).charges) charge a)

    part_row_of : (part : Part) → IsAmong (values (with_posted size books month n).parts) part
        → Among (posted_parts size books month n) part ⊎ (Among (values books.parts) part × (part.month ≡ month → ⊥))
    part_row_of part a =
        value_of_replaced part_key part_month nat_text_total nat_text_ties books.parts month (posted_parts size books month n)
        (parts_fit size books keyed rules month n) part
        (among (values (with_posted size books month n).parts) part a)

    fee_row_of : (fee : PartFee) → IsAmong (values (with_posted size books month n).part_fees) fee
        → Among (posted_fees size books month n) fee ⊎ (Among (values books.part_fees) fee × (fee.month ≡ month → ⊥))
    fee_row_of fee a =
        value_of_replaced part_fee_key fee_month nat_text_total nat_text_ties books.part_fees month (posted_fees size books month n)
        (fees_fit size books keyed rules month n) fee
        (among (values (with_posted size books month n).part_fees) fee a)

    -- the part of a fee row
    part_of_fee : (fee : PartFee) → Among (posted_fees size books month n) fee → IsThere (with_posted size books month n).parts (fee.month, fee.branch)
    part_of_fee fee a =
        let f = is_fee_of size books month n fee a in
        let part = part_of month f.branch (posted_of_branch size books month n f.branch) in
        let made = of_map (λ b. part_of month b (posted_of_branch size books month n b)) (begun_branches size books month n) f.branch f.begun in
        let stands = of_new part_key part_month nat_text_total nat_text_ties books.parts month (posted_parts size books month n)
        (parts_fit size books keyed rules month n) part made in
        let key : part_key part ≡ (fee.month, fee.branch) = λ i. (sym (ap (λ (x : PartFee). x.month) f.is) i, sym (ap (λ (x : PartFee). x.branch) f.is) i) in
        subst (IsThere (with_posted size books month n).parts) key
        ((there nat_text_total nat_text_ties (with_posted size books month n).parts (part_key part)).1 (part, stands))

    pub posted_keyed : AreKeyed (with_posted size books month n)
    posted_keyed Kind.Charges = keyed_replaced charge_key charge_month nats_total nats_tie books.charges month (posted_charges size books month n)
        (charges_fit size books keyed rules month n)
    posted_keyed Kind.Parts = keyed_replaced part_key part_month nat_text_total nat_text_ties books.parts month (posted_parts size books month n)
        (parts_fit size books keyed rules month n)
    posted_keyed Kind.PartFees = keyed_replaced part_fee_key fee_month nat_text_total nat_text_ties books.part_fees month (posted_fees size books month n)
        (fees_fit size books keyed rules month n)
    posted_keyed kind = keyed kind

    module _ (row : Run) (is : get books.runs month ≡ Some row) where
      run_there : IsThere books.runs month
      run_there = (there nat_total nat_ties books.runs month).1 (row, is)

      part_stays : (other : ℕ) (branch : List ℕ) → (other ≡ month → ⊥) → IsThere books.parts (other, branch)
          → IsThere (with_posted size books month n).parts (other, branch)
      part_stays other branch apart h =
          let at = (there nat_text_total nat_text_ties books.parts (other, branch)).0 h in
          let own : at.0.month ≡ other = ap (λ (k : ℕ × List ℕ). k.0) (keyed Kind.Parts (other, branch) at.0 at.1) in
          let stays = of_old part_key part_month nat_text_total nat_text_ties books.parts month (posted_parts size books month n)
          (parts_fit size books keyed rules month n) (other, branch) at.0 at.1 (λ e. apart (sym own ∙ e)) in
          (there nat_text_total nat_text_ties (with_posted size books month n).parts (other, branch)).1 (at.0, stays)

      names_what_is_there : NamesWhatIsThere (with_posted size books month n)
      names_what_is_there Kind.Charges = λ charge a. elim (charge_of charge a) [
        | inl new ↦ lease_there charge (owed_posted size books month n charge new).0
        | inr old ↦ rules Rule.References Kind.Charges charge (is_among (values books.charges) charge old.0)
      ]
      names_what_is_there Kind.Parts = λ part a. elim (part_row_of part a) [
        | inl new ↦ let b = is_begun size books month n part new in record {
          run = subst (IsThere books.runs) (sym (month_of_begun size books month n part new)) run_there;
          branch = subst (IsThere books.branches) (sym (ap (λ (p : Part). p.branch) b.is)) (branch_there b.branch b.of);
        }
        | inr old ↦ let q = rules Rule.References Kind.Parts part (is_among (values books.parts) part old.0) in record { run = q.run; branch = q.branch }
      ]
      names_what_is_there Kind.PartFees = λ fee a. elim (fee_row_of fee a) [
        | inl new ↦ part_of_fee fee new
        | inr old ↦ part_stays fee.month fee.branch old.1 (rules Rule.References Kind.PartFees fee (is_among (values books.part_fees) fee old.0))
      ]
      names_what_is_there Kind.Properties = λ it a. let q = rules Rule.References Kind.Properties it a in
          record { owner = q.owner; staff = q.staff; branch = q.branch }
      names_what_is_there Kind.Registrations = λ it a. let q = rules Rule.References Kind.Registrations it a in
          record { client = q.client; branch = q.branch; staff = q.staff }
      names_what_is_there Kind.Viewings = λ it a. let q = rules Rule.References Kind.Viewings it a in record { client = q.client; property = q.property }
      names_what_is_there Kind.Inspections = λ it a. let q = rules Rule.References Kind.Inspections it a in record { property = q.property; staff = q.staff }
      names_what_is_there Kind.Leases = λ it a. let q = rules Rule.References Kind.Leases it a in
          record { client = q.client; property = q.property; registered = q.registered }
      names_what_is_there kind = rules Rule.References kind

      -- the batches are all that is there of the month
      pub are_posted : n ≤ batches size books month → ArePosted (with_posted size books month n) size month n
      are_posted few = record {
        few = few;
        charges = in_month charge_key charge_month nats_total nats_tie books.charges month (posted_charges size books month n)
            (charges_fit size books keyed rules month n);
        parts = in_month part_key part_month nat_text_total nat_text_ties books.parts month (posted_parts size books month n)
            (parts_fit size books keyed rules month n);
      }

      -- and of another month nothing changes
      still_closed : (run : Run) → (run.month ≡ month → ⊥) → MonthIsClosed books run → MonthIsClosed (with_posted size books month n) run
      still_closed run other closed =
          let charges = in_other_month charge_key charge_month nats_total nats_tie books.charges month (posted_charges size books month n)
          (charges_fit size books keyed rules month n) run.month other in
          let parts = in_other_month part_key part_month nat_text_total nat_text_ties books.parts month (posted_parts size books month n)
          (parts_fit size books keyed rules month n) run.month other in
          record {
            charges = λ charge. (λ a. (closed.charges charge).0 ((charges charge).0 a), λ a. (charges charge).1 ((closed.charges charge).1 a));
            parts = λ part a. closed.parts part ((parts part).0 a);
            all_parts = λ branch b some. part_stays run.month branch other (closed.all_parts branch b some);
            count = closed.count;
            total = closed.total;
          }

      module _ (is_open : row.is_closed ≡ false) (few : n ≤ batches size books month) where
        -- an open run is of the last month
        last_month : (run : Run) → IsAmong (values books.runs) run → run.is_closed ≡ false → run.month + 1 ≡ books.next
        last_month run a e =
            let r = rules Rule.Runs in
            let at = own_row nat_total nat_ties (λ it. it.month) books.runs (keyed Kind.Runs) run (among (values books.runs) run a) in
            let within = (r.run run.month).0 ((there nat_total nat_ties books.runs run.month).1 (run, at)) in
            elim (cases_lt (run.month + 1) books.next) [
              | inl early ↦ absurd (true≢false (sym (r.closed run a early) ∙ e))
              | inr late ↦ let before = within.1 in omega (arith, late, before)
            ]

        -- and so of this month
        own_month : (run : Run) → IsAmong (values books.runs) run → run.is_closed ≡ false → run.month ≡ month
        own_month run a e =
            let own : row.month ≡ month = keyed Kind.Runs month row is in
            let mine = last_month row (is_among (values books.runs) row (of_row nat_total nat_ties books.runs month row is)) is_open in
            let other = last_month run a e in
            omega (arith, own, mine, other)

        other_month : (run : Run) → IsAmong (values books.runs) run → run.is_closed ≡ true → run.month ≡ month → ⊥
        other_month run a e same =
            let own : row.month ≡ month = keyed Kind.Runs month row is in
            let one = one_row nat_total nat_ties (λ it. it.month) books.runs (keyed Kind.Runs) run row (among (values books.runs) run a)
            (of_row nat_total nat_ties books.runs month row is) (same ∙ sym own) in
            true≢false (sym e ∙ ap (λ (r : Run). r.is_closed) one ∙ is_open)

        months_in_order : MonthsInOrder (with_posted size books month n) size
        months_in_order = let r = rules Rule.Months in record {
          closed = λ run a e. still_closed run (other_month run a e) (r.closed run a e);
          under_way = λ run a e. let was = r.under_way run a e in record {
            done = n;
            posted = subst (λ m. ArePosted (with_posted size books month n) size m n) (sym (own_month run a e)) (are_posted few);
            count = was.count;
            total = was.total;
          };
          charged = λ charge a. elim (charge_of charge a) [
            | inl new ↦ subst (IsThere books.runs) (sym (owed_posted size books month n charge new).1) run_there
            | inr old ↦ r.charged charge (is_among (values books.charges) charge old.0)
          ];
          summed = λ part a. elim (part_row_of part a) [
            | inl new ↦ subst (IsThere books.runs) (sym (month_of_begun size books month n part new)) run_there
            | inr old ↦ r.summed part (is_among (values books.parts) part old.0)
          ];
        }

        pub posted_rules : MeetsRules (with_posted size books month n) size
        posted_rules Rule.References = names_what_is_there
        posted_rules Rule.Branches = let r = rules Rule.Branches in record { managers = r.managers; registrars = r.registrars }
        posted_rules Rule.Managers = rules Rule.Managers
        posted_rules Rule.Overlaps = rules Rule.Overlaps
        posted_rules Rule.Starts = rules Rule.Starts
        posted_rules Rule.Terms = rules Rule.Terms
        posted_rules Rule.Deposits = let r = rules Rule.Deposits in record { amounts = r.amounts; one_each = r.one_each }
        posted_rules Rule.Keys = let r = rules Rule.Keys in record { keys = r.keys; numbers = r.numbers }
        posted_rules Rule.Runs = let r = rules Rule.Runs in record { months = r.months; run = r.run; closed = r.closed }
        posted_rules Rule.Months = months_in_order
        posted_rules Rule.Fees = fees_after size books keyed rules month n
        posted_rules Rule.Endings = rules Rule.Endings
