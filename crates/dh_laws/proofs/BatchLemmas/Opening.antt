-- A run in one step is its opening made whole.
use Rattle.std.proofs.Common.{◌≡◌, ◌∙◌, refl, sym, ap, inl, inr, ℕ, ◌+◌, ◌≤◌, Bool, true, false, cond, List, Option, Some, None, Ordering, arith}
use Rattle.std.specs.Ordering.{eq_by_cmp}
use Rattle.std.specs.Cmp.{IsTotalOrder}
use Rattle.std.specs.FinMap.{FinMap, IsAntisymmetric, get, get-insert, insert, same_map, values}
use Rattle.dh_types.specs.declared.lease.Charge.{Charge}
use Rattle.dh_types.specs.declared.run.Run.{Run}
use Rattle.dh_types.specs.declared.run.Part.{Part}
use Rattle.dh_types.specs.declared.fee.PartFee.{PartFee}
use Rattle.dh_model.specs.declared.rows.Change.TheVariants as change
use Rattle.dh_types.specs.declared.command.Command.TheVariants as command
use Rattle.dh_model.specs.Books.{Books, with_rows}
use Rattle.dh_model.specs.Kinds.{Kind}
use Rattle.dh_model.specs.Leases.{dues}
use Rattle.dh_model.specs.Machine.{changed}
use Rattle.dh_model.specs.Runs.{batches, charge_key, closed_run, part_fee_key, part_key, posted_charges, posted_fees, posted_parts, ran}
use Rattle.dh_model.specs.Rules.{HaveTheSame, IsThere, MeetsRules, Rule}
use Rattle.dh_model.specs.Verdicts.{opened_run}
use Rattle.dh_model.specs.Whole.{completed, open_row}
use Rattle.dh_model.proofs.Among.{Among, among, is_among}
use Rattle.dh_model.proofs.KeyOrders.{nat_text_ties, nat_text_total, nat_ties, nat_total, nats_tie, nats_total}
use Rattle.dh_laws.specs.InOrder.{AreKeyed}
use Rattle.dh_laws.specs.Posting.{RunIsOpeningMadeWhole}
use Rattle.dh_model.proofs.MapRows.{got_after, of_row, row_of, there}
use Rattle.dh_laws.proofs.MapMerges.{get_of_rows, get_past_rows, got_with_rows, row_at_own}
use Rattle.dh_laws.proofs.MonthLemmas.Keep.{RunInMonths}
use Rattle.dh_laws.proofs.MonthLemmas.Open.{open_keeps}
use Rattle.dh_laws.proofs.MonthLemmas.Shown.{all_closed, shown_row}
use Rattle.dh_laws.proofs.MonthLemmas.Sums.{all_are_dues, count_of_all, total_of_all}
use Rattle.dh_laws.proofs.BatchLemmas.Closing.{closed_alike}
use Rattle.dh_laws.proofs.BatchLemmas.Charged.{charge_month, fee_month, part_month}
use Rattle.dh_laws.proofs.BatchLemmas.Dues.{one_charge, one_posted, owed_due}
use Rattle.dh_laws.proofs.BatchLemmas.MonthRows.{Has, OneEach, none_of_month, same_rows}
use Rattle.dh_laws.proofs.VerdictLemmas.Cases.{case_of}

module _ {K X : Type 0} {R : K → K → Ordering} (o : IsTotalOrder R) (anti : IsAntisymmetric R) where
  again : (b : Bool) (x y : X) (was : Option X) → cond b (Some y) (cond b (Some x) was) ≡ cond b (Some y) was
  again true x y was = refl
  again false x y was = refl

  -- the later row counts
  insert_again : (m : FinMap R X) (k : K) (x y : X) → insert (insert m k x) k y ≡ insert m k y
  insert_again m k x y = same_map o anti (insert (insert m k x) k y) (insert m k y) (λ q.
      get-insert o (insert m k x) k y q
      ∙ ap (cond (eq_by_cmp R q k) (Some y)) (get-insert o m k x q)
      ∙ again (eq_by_cmp R q k) x y (get m q)
      ∙ sym (get-insert o m k y q))

  module _ (key : X → K) (xs ys : List X) (m : FinMap R X) where
    put_alike : OneEach key xs → OneEach key ys → ((x : X) → Among xs x → Among ys x) → ((x : X) → Among ys x → Among xs x)
        → (k : K) (x : X) → Has (with_rows key xs m) k x → Has (with_rows key ys m) k x
    put_alike one other to from k x h = elim (got_with_rows o anti key xs m k x h) [
      | inl new ↦ ap (get (with_rows key ys m)) (sym new.1) ∙ get_of_rows o anti key ys m x (to x new.0) (λ y b e. other y x b (to x new.0) e)
      | inr old ↦ get_past_rows o anti key ys m k (λ y b e.
          let found = row_at_own o anti key xs y (from y b) (λ z c s. one z y c (from y b) s) in
          let missed = old.0 in
          let place = e in
          cc) ∙ old.1
    ]

  -- lists of the same rows put the same
  same_put : (key : X → K) (xs ys : List X) (m : FinMap R X) → OneEach key xs → OneEach key ys → HaveTheSame xs ys → with_rows key xs m ≡ with_rows key ys m
  same_put key xs ys m one other same =
      let to = λ (x : X) (a : Among xs x). among ys x ((same x).0 (is_among xs x a)) in
      let from = λ (x : X) (a : Among ys x). among xs x ((same x).1 (is_among ys x a)) in
      same_rows o anti (with_rows key xs m) (with_rows key ys m) (put_alike key xs ys m one other to from) (put_alike key ys xs m other one from to)

module _ (size : ℕ) (books : Books) (pos : 1 ≤ size) (keyed : AreKeyed books) (rules : MeetsRules books size) (row : Run) (next : row.month ≡ books.next) where
  abbrev opened : Books
  opened = changed (change.Open row) books

  not_there : (month : ℕ) → IsThere books.runs month → month ≡ row.month → ⊥
  not_there month h e = let within = ((rules Rule.Runs).run month).0 h in omega (arith, within.1, e, next)

  not_charged : (k : ℕ × ℕ) (charge : Charge) → Has books.charges k charge → charge.month ≡ row.month → ⊥
  not_charged k charge h e =
      not_there charge.month ((rules Rule.Months).charged charge (is_among (values books.charges) charge (of_row nats_total nats_tie books.charges k charge h)))
      e

  not_summed : (k : ℕ × List ℕ) (part : Part) → Has books.parts k part → part.month ≡ row.month → ⊥
  not_summed k part h e =
      not_there part.month ((rules Rule.Months).summed part (is_among (values books.parts) part (of_row nat_text_total nat_text_ties books.parts k part h))) e

  not_taken : (k : ℕ × List ℕ) (fee : PartFee) → Has books.part_fees k fee → fee.month ≡ row.month → ⊥
  not_taken k fee h e =
      let stands = is_among (values books.part_fees) fee (of_row nat_text_total nat_text_ties books.part_fees k fee h) in
      let part = (there nat_text_total nat_text_ties books.parts (fee.month, fee.branch)).0 (rules Rule.References Kind.PartFees fee stands) in
      let key = keyed Kind.Parts (fee.month, fee.branch) part.0 part.1 in
      not_summed (fee.month, fee.branch) part.0 part.1 (ap (λ (k : ℕ × List ℕ). k.0) key ∙ e)

  abbrev all : List Charge
  all = posted_charges size books row.month (batches size books row.month)

  -- in the next month nothing stands, so the batches are its dues
  charges_alike : with_rows charge_key all books.charges ≡ with_rows charge_key (dues books row.month) books.charges
  charges_alike = same_put nats_total nats_tie charge_key all (dues books row.month) books.charges
      (one_posted size books row.month (batches size books row.month) (keyed Kind.Leases))
      (λ x y a b e. one_charge books (keyed Kind.Leases) x y (owed_due books row.month x a).0 (owed_due books row.month y b).0 e)
      (all_are_dues books (rules Rule.References) row.month size pos (keyed Kind.Leases))

  completed_is_ran : completed size opened (Some row) ≡ ran size books row.key
  completed_is_ran =
      let begun = posted_parts size books row.month (batches size books row.month) in
      let charges = ap (with_rows charge_key all) (none_of_month charge_key charge_month nats_total nats_tie books.charges row.month not_charged)
      ∙ charges_alike in
      let parts = ap (with_rows part_key begun) (none_of_month part_key part_month nat_text_total nat_text_ties books.parts row.month not_summed) in
      let taken = posted_fees size books row.month (batches size books row.month) in
      let fees = ap (with_rows part_fee_key taken)
      (none_of_month part_fee_key fee_month nat_text_total nat_text_ties books.part_fees row.month not_taken) in
      let names = rules Rule.References in
      let done = closed_alike row.month row.key all (dues books row.month) (count_of_all books names row.month size pos (keyed Kind.Leases))
      (total_of_all books names row.month size pos (keyed Kind.Leases)) in
      let runs = insert_again nat_total nat_ties books.runs row.month row (closed_run row.month row.key all) ∙ ap (insert books.runs row.month) done in
      let at_month : completed size opened (Some row) ≡ record books {
        charges = with_rows charge_key (dues books row.month) books.charges;
        parts = with_rows part_key begun books.parts;
        part_fees = with_rows part_fee_key taken books.part_fees;
        runs = insert books.runs row.month (closed_run row.month row.key (dues books row.month));
        next = row.month + 1;
      } = λ i. record books { charges = charges i; parts = parts i; part_fees = fees i; runs = runs i; next = row.month + 1 } in
      at_month ∙ (λ i. record books {
        charges = with_rows charge_key (dues books (next i)) books.charges;
        parts = with_rows part_key (posted_parts size books (next i) (batches size books (next i))) books.parts;
        part_fees = with_rows part_fee_key (posted_fees size books (next i) (batches size books (next i))) books.part_fees;
        runs = insert books.runs (next i) (closed_run (next i) row.key (dues books (next i)));
        next = next i + 1;
      })

  -- the run that begins is the one that is open
  opened_shown : row.is_closed ≡ false → row.count ≡ 0 → row.total ≡ 0 → open_row books ≡ None → open_row opened ≡ Some row
  opened_shown open_still count total none =
      let months : RunInMonths size books None = record { runs = rules Rule.Runs; months = rules Rule.Months; shown = none } in
      let shown = (open_keeps size books row (keyed Kind.Runs) months next open_still count total).shown in
      let found = shown_row opened shown.0 shown.1 in
      let at = row_of nat_total nat_ties opened.runs shown.0 found.0 in
      elim (got_after nat_total nat_ties books.runs row.month row at.0 shown.0 at.1) [
        | inl new ↦ shown.1 ∙ ap (λ r. Some r) new.1
        | inr old ↦ absurd (let was = all_closed books none shown.0 (of_row nat_total nat_ties books.runs at.0 shown.0 old.1) in let still = found.1 in cc)
      ]

pub run_is_opening_made_whole : (size : ℕ) → RunIsOpeningMadeWhole size
run_is_opening_made_whole size books order pos in_order h =
    let row = opened_run books order in
    let begins = (case_of books None (change.Open (opened_run books order)) (command.Open order) h).1 in
    ap (completed size (changed (change.Open (opened_run books order)) books))
    (opened_shown size books pos in_order.keyed in_order.rules row begins.month refl refl refl in_order.shown)
    ∙ completed_is_ran size books pos in_order.keyed in_order.rules row begins.month
