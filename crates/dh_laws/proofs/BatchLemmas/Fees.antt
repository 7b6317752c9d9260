-- The fees of a month's parts, where so many batches of it are posted.
use Rattle.std.proofs.Common.{◌≡◌, ◌∙◌, refl, sym, ap, subst, inl, inr, ℕ, Bool, true, false, nat_eq}
use Rattle.std.proofs.Common.{nat_lt, List, [], Option, Some, None, ltb-true, lt-ltb}
use Rattle.std.specs.Prelude.{IfSome}
use Rattle.std.specs.List.{filter}
use Rattle.std.specs.FinMap.{get, keys, values}
use Rattle.dh_types.specs.declared.lease.Charge.{Charge}
use Rattle.dh_types.specs.declared.run.Run.{Run}
use Rattle.dh_types.specs.declared.run.Part.{Part}
use Rattle.dh_types.specs.declared.fee.PartFee.{PartFee}
use Rattle.dh_types.specs.declared.version.Version.{Version}
use Rattle.dh_types.specs.declared.version.Version.TheVariants.{First, Second}
use Rattle.dh_model.specs.Books.{Books}
use Rattle.dh_model.specs.Kinds.{Kind}
use Rattle.dh_model.specs.Runs.{batch_of, batches_before, begun_branches, charge_fee, dues_of_branch, fee_at}
use Rattle.dh_model.specs.Runs.{fees_of_parts, fees_over, is_property_of, part_fee_key}
use Rattle.dh_model.specs.Runs.{charge_key, part_fee_of, part_key, part_of, posted_charges, posted_fees, posted_of_branch, posted_parts, since_second}
use Rattle.dh_model.specs.Rules.{ArePosted, HasFees, HasItsFee, HaveTheSame, MeetsRules, Rule, charges_in, charges_of_part, is_charged_at, parts_in}
use Rattle.dh_model.specs.Whole.{with_posted}
use Rattle.dh_model.proofs.Among.{Among, among, in_filter, in_map, is_among, of_filter, of_map}
use Rattle.dh_model.proofs.BranchDues.{due_of_branch, dues_of_branch_rise, lease_of, same_branch}
use Rattle.dh_model.proofs.KeyOrders.{nat_text_ties, nat_text_total, nats_tie, nats_total}
use Rattle.dh_model.proofs.MapRows.{inside, of_row, there}
use Rattle.dh_model.proofs.Rising.{Lesser, Rises, filter_rises}
use Rattle.dh_laws.specs.InOrder.{AreKeyed}
use Rattle.dh_laws.proofs.InvariantLemmas.Fees.{of_found}
use Rattle.dh_laws.proofs.MapMerges.{own_row}
use Rattle.dh_laws.proofs.BatchLemmas.Charged.{charge_month, charges_fit, fee_month, fees_fit, part_month, parts_fit}
use Rattle.dh_laws.proofs.BatchLemmas.Counts.{Differ, lesser_differ, rows_differ, same_sum}
use Rattle.dh_laws.proofs.BatchLemmas.Dues.{fee_of_begun, in_second, is_begun, is_posted, of_posted, of_second}
use Rattle.dh_laws.proofs.BatchLemmas.MonthRows.{in_month, in_other_month, in_rows, keyed_replaced, of_new, of_old, of_rows, rows_in, value_of_replaced}

module _ (size : ℕ) (books : Books) (keyed : AreKeyed books) (month n : ℕ) where
  abbrev all : List Charge
  all = posted_charges size books month n

  -- charges of the month that are those of the batches
  module _ (own : List Charge) (differ : Rises Differ own) (same : HaveTheSame own all) (branch : List ℕ) (there_is : Among (keys books.branches) branch) where
    abbrev posted : List Charge
    posted = posted_of_branch size books month n branch

    abbrev early : Charge → Bool
    early charge = nat_lt (batch_of size books month branch charge) n

    abbrev at_branch : Charge → Bool
    at_branch charge = is_charged_at books branch (get books.leases charge.lease)

    -- what is posted of the branch is charged at it
    to_charged : (charge : Charge) → Among posted charge → Among (filter at_branch own) charge
    to_charged charge a =
        let kept = in_filter early (dues_of_branch books month branch) charge a in
        let due = due_of_branch books month (keyed Kind.Leases) branch charge kept.0 in
        let here : at_branch charge ≡ true = ap (is_charged_at books branch) due.is ∙ due.of in
        let is = of_posted size books month n charge (record {
          branch = branch;
          of = there_is;
          due = kept.0;
          early = ltb-true (batch_of size books month branch charge) n kept.1;
        }) in
        of_filter at_branch own charge here (among own charge ((same charge).1 (is_among all charge is)))

    -- and the reverse
    to_posted : (charge : Charge) → Among (filter at_branch own) charge → Among posted charge
    to_posted charge a =
        let kept = in_filter at_branch own charge a in
        let p = is_posted size books month n charge (among all charge ((same charge).0 (is_among own charge kept.0))) in
        let due = due_of_branch books month (keyed Kind.Leases) p.branch charge p.due in
        let here : is_property_of branch (get books.properties due.lease.terms.property) ≡ true = sym (ap (is_charged_at books branch) due.is) ∙ kept.1 in
        let one = same_branch p.branch branch (get books.properties due.lease.terms.property) due.of here in
        subst (λ b. Among (posted_of_branch size books month n b) charge) one
        (of_filter (λ c. nat_lt (batch_of size books month p.branch c) n) (dues_of_branch books month p.branch) charge
        (lt-ltb (batch_of size books month p.branch charge) n p.early) p.due)

    -- so their fees come to the same
    pub fees_of_posted : (fee : ℕ) → fees_over fee (filter at_branch own) ≡ fees_over fee posted
    fees_of_posted fee =
        let rise = lesser_differ lease_of posted
        (filter_rises (Lesser lease_of) early (dues_of_branch books month branch) (dues_of_branch_rise books month (keyed Kind.Leases) branch)) in
        same_sum (charge_fee fee) (filter at_branch own) posted (filter_rises Differ at_branch own differ) rise to_posted to_charged

module _ (size : ℕ) (books : Books) (keyed : AreKeyed books) (rules : MeetsRules books size) where
  charges_differ : (month : ℕ) → Rises Differ (charges_in books month)
  charges_differ month = filter_rises Differ (λ charge. nat_eq charge.month month) (values books.charges)
      (rows_differ nats_total nats_tie charge_key books.charges (keyed Kind.Charges))

  -- ---- the fee rows of the open month are those of its batches
  module _ (month n : ℕ) (posted : ArePosted books size month n) (run : Run) (is_run : get books.runs month ≡ Some run) (unclosed : run.is_closed ≡ false) where
    abbrev row_by : List ℕ → PartFee
    row_by branch = part_fee_of month branch (fee_at books branch) (posted_of_branch size books month n branch)

    -- the row that a part of the month has
    its_row : HasFees books Second → (branch : List ℕ) → Among (keys books.branches) branch → Among (begun_branches size books month n) branch
        → get books.part_fees (month, branch) ≡ Some (row_by branch)
    its_row fees branch known begun =
        let part = part_of month branch (posted_of_branch size books month n branch) in
        let made = of_map (λ b. part_of month b (posted_of_branch size books month n b)) (begun_branches size books month n) branch begun in
        let here = (posted.parts part).1 (is_among (posted_parts size books month n) part made) in
        let stands = (in_rows part_key part_month nat_text_total nat_text_ties books.parts month part (among (parts_in books month) part here)).0 in
        let its = fees part (is_among (values books.parts) part stands) in
        let present = of_found (λ (run : Run). run.is_closed ≡ false → its.fee ≡ fee_at books branch) (get books.runs month) run its.present is_run unclosed in
        let sum = fees_of_posted size books keyed month n (charges_in books month) (charges_differ month) posted.charges branch known its.fee in
        its.row
        ∙ (λ i. Some (record { month = month; branch = branch; fee = its.fee; total = sum i }))
        ∙ ap (λ fee. Some (part_fee_of month branch fee (posted_of_branch size books month n branch))) present

    to_rows : HasFees books Second → (fee : PartFee) → Among (rows_in part_fee_key fee_month books.part_fees month) fee
        → Among (fees_of_parts size books month n) fee
    to_rows fees fee a =
        let of = in_rows part_fee_key fee_month nat_text_total nat_text_ties books.part_fees month fee a in
        let own = own_row nat_text_total nat_text_ties part_fee_key books.part_fees (keyed Kind.PartFees) fee of.0 in
        let part = (there nat_text_total nat_text_ties books.parts (fee.month, fee.branch)).0
        (rules Rule.References Kind.PartFees fee (is_among (values books.part_fees) fee of.0)) in
        let key : part_key part.0 ≡ (fee.month, fee.branch) = keyed Kind.Parts (fee.month, fee.branch) part.0 part.1 in
        let in_it = of_rows part_key part_month nat_text_total nat_text_ties books.parts month part.0
        (own_among part.0 (fee.month, fee.branch) part.1) (ap (λ (k : ℕ × List ℕ). k.0) key ∙ of.1) in
        let b = is_begun size books month n part.0 (among (posted_parts size books month n) part.0
        ((posted.parts part.0).0 (is_among (parts_in books month) part.0 in_it))) in
        let branch : b.branch ≡ fee.branch = sym (ap (λ (p : Part). p.branch) b.is) ∙ ap (λ (k : ℕ × List ℕ). k.1) key in
        let begun = of_filter (λ other. nat_lt (batches_before size books month other) n) (keys books.branches) b.branch
        (lt-ltb (batches_before size books month b.branch) n b.early) b.of in
        let row = its_row fees b.branch b.of begun in
        let place : get books.part_fees (month, b.branch) ≡ Some fee = ap (λ (k : ℕ × List ℕ). get books.part_fees k) (λ i. (sym of.1 i, branch i)) ∙ own in
        let is : row_by b.branch ≡ fee = inside (row_by b.branch) fee (sym row ∙ place) in
        subst (Among (fees_of_parts size books month n)) is (fee_of_begun size books month n b.branch begun)
      where
        own_among : (part : Part) (k : ℕ × List ℕ) → get books.parts k ≡ Some part → Among (values books.parts) part
        own_among part k e = of_row nat_text_total nat_text_ties books.parts k part e

    of_fees : HasFees books Second → (fee : PartFee) → Among (fees_of_parts size books month n) fee
        → Among (rows_in part_fee_key fee_month books.part_fees month) fee
    of_fees fees fee a =
        let of = in_map row_by (begun_branches size books month n) fee a in
        let kept = in_filter (λ other. nat_lt (batches_before size books month other) n) (keys books.branches) of.0 of.1 in
        let row = its_row fees of.0 kept.0 of.1 ∙ ap (λ f. Some f) (sym of.2) in
        of_rows part_fee_key fee_month nat_text_total nat_text_ties books.part_fees month fee
        (of_row nat_text_total nat_text_ties books.part_fees (month, of.0) fee row) (ap (λ (f : PartFee). f.month) of.2)

    by_version : (version : Version) → HasFees books version
        → HaveTheSame (rows_in part_fee_key fee_month books.part_fees month) (since_second version (fees_of_parts size books month n))
    by_version First none fee = (
      λ a. absurd (none fee (is_among (values books.part_fees) fee
          (in_rows part_fee_key fee_month nat_text_total nat_text_ties books.part_fees month fee
          (among (rows_in part_fee_key fee_month books.part_fees month) fee a)).0)),
      λ a. absurd (among [] fee a),
    )
    by_version Second fees fee = (
      λ a. is_among (fees_of_parts size books month n) fee (to_rows fees fee (among (rows_in part_fee_key fee_month books.part_fees month) fee a)),
      λ a. is_among (rows_in part_fee_key fee_month books.part_fees month) fee (of_fees fees fee (among (fees_of_parts size books month n) fee a)),
    )

    pub fees_posted : HaveTheSame (rows_in part_fee_key fee_month books.part_fees month) (posted_fees size books month n)
    fees_posted = by_version books.version (rules Rule.Fees)

  -- ---- with so many batches of the month in the place of what there is of it, each part has its fee row
  module _ (month n : ℕ) where
    abbrev after : Books
    after = with_posted size books month n

    after_differ : (m : ℕ) → Rises Differ (charges_in after m)
    after_differ m = filter_rises Differ (λ charge. nat_eq charge.month m) (values after.charges)
        (rows_differ nats_total nats_tie charge_key after.charges (keyed_replaced charge_key charge_month nats_total nats_tie books.charges month
        (posted_charges size books month n) (charges_fit size books keyed rules month n)))

    new_fee : books.version ≡ Second → (part : Part) → Among (posted_parts size books month n) part → HasItsFee after part
    new_fee second part a =
        let b = is_begun size books month n part a in
        let begun = of_filter (λ other. nat_lt (batches_before size books month other) n) (keys books.branches) b.branch
        (lt-ltb (batches_before size books month b.branch) n b.early) b.of in
        let fee = part_fee_of month b.branch (fee_at books b.branch) (posted_of_branch size books month n b.branch) in
        let stands = of_new part_fee_key fee_month nat_text_total nat_text_ties books.part_fees month (posted_fees size books month n)
        (fees_fit size books keyed rules month n) fee
        (of_second books.version (fees_of_parts size books month n) fee second (fee_of_begun size books month n b.branch begun)) in
        let sum = fees_of_posted size books keyed month n (charges_in after month) (after_differ month)
        (in_month charge_key charge_month nats_total nats_tie books.charges month (posted_charges size books month n)
        (charges_fit size books keyed rules month n)) b.branch b.of (fee_at books b.branch) in
        let its : HasItsFee after (part_of month b.branch (posted_of_branch size books month n b.branch)) = record {
          fee = fee_at books b.branch;
          row = stands ∙ (λ i. Some (record { month = month; branch = b.branch; fee = fee_at books b.branch; total = sym sum i }));
          present = present_by b.branch (get books.runs month);
        } in
        subst (HasItsFee after) (sym b.is) its
      where
        present_by : (branch : List ℕ) (found : Option Run) → IfSome found (λ run. run.is_closed ≡ false → fee_at books branch ≡ fee_at after branch)
        present_by branch None = tt
        present_by branch (Some run) = λ unclosed. refl

    old_fee : (part : Part) → (part.month ≡ month → ⊥) → HasItsFee books part → HasItsFee after part
    old_fee part apart its =
        let same = in_other_month charge_key charge_month nats_total nats_tie books.charges month (posted_charges size books month n)
        (charges_fit size books keyed rules month n) part.month apart in
        let at = λ (charge : Charge). is_charged_at books part.branch (get books.leases charge.lease) in
        let here = charges_in books part.month in
        let there_then = charges_in after part.month in
        let sum = same_sum (charge_fee its.fee) (filter at there_then) (filter at here)
        (filter_rises Differ at there_then (after_differ part.month)) (filter_rises Differ at here (charges_differ part.month))
        (λ charge a. let kept = in_filter at there_then charge a in
        of_filter at here charge kept.1 (among here charge ((same charge).0 (is_among there_then charge kept.0))))
        (λ charge a. let kept = in_filter at here charge a in
        of_filter at there_then charge kept.1 (among there_then charge ((same charge).1 (is_among here charge kept.0)))) in
        let month_of : (part_fee_of part.month part.branch its.fee (charges_of_part books part)).month ≡ month → ⊥ = apart in
        record {
          fee = its.fee;
          row =
              of_old part_fee_key fee_month nat_text_total nat_text_ties books.part_fees month (posted_fees size books month n)
              (fees_fit size books keyed rules month n) (part.month, part.branch) (part_fee_of part.month part.branch its.fee (charges_of_part books part))
              its.row month_of
              ∙ (λ i. Some (record { month = part.month; branch = part.branch; fee = its.fee; total = sym sum i }));
          present = its.present;
        }

    after_by : (version : Version) → books.version ≡ version → HasFees books version → HasFees after version
    after_by First is none = λ fee a. elim (value_of_replaced part_fee_key fee_month nat_text_total nat_text_ties books.part_fees month
        (posted_fees size books month n) (fees_fit size books keyed rules month n) fee (among (values after.part_fees) fee a)) [
          | inl new ↦ let second = (in_second books.version (fees_of_parts size books month n) fee new).0 in let first = is in cc
          | inr old ↦ none fee (is_among (values books.part_fees) fee old.0)
        ]
    after_by Second is fees = λ part a. elim (value_of_replaced part_key part_month nat_text_total nat_text_ties books.parts month
        (posted_parts size books month n) (parts_fit size books keyed rules month n) part (among (values after.parts) part a)) [
          | inl new ↦ new_fee is part new
          | inr old ↦ old_fee part old.1 (fees part (is_among (values books.parts) part old.0))
        ]

    pub fees_after : HasFees after books.version
    fees_after = after_by books.version refl (rules Rule.Fees)
