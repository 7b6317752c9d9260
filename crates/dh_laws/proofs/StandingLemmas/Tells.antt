-- The tables are made again from where the machine stands.
use Rattle.std.proofs.Common.{◌≡◌, ◌∙◌, sym, ap, subst, inl, inr, ℕ, true, List, Option, Some, None, Ordering}
use Rattle.std.specs.Cmp.{IsTotalOrder}
use Rattle.std.specs.FinMap.{FinMap, IsAntisymmetric, get, insert, same_map, values}
use Rattle.dh_types.specs.declared.lease.Charge.{Charge}
use Rattle.dh_types.specs.declared.reply.Reply.{Reply}
use Rattle.dh_types.specs.declared.run.Part.{Part}
use Rattle.dh_types.specs.declared.fee.PartFee.{PartFee}
use Rattle.dh_types.specs.declared.run.Run.{Run}
use Rattle.dh_model.specs.declared.open_run.OpenRun.{OpenRun}
use Rattle.dh_model.specs.Books.{Books, State, with_rows}
use Rattle.dh_model.specs.Rules.{ArePosted, MeetsRules, MonthIsOpen, Rule}
use Rattle.dh_model.specs.Runs.{batches, charge_key, closed_run, part_fee_key, part_key, posted_charges, posted_fees, posted_parts}
use Rattle.dh_model.specs.Whole.{completed, open_row}
use Rattle.dh_model.proofs.Among.{is_among}
use Rattle.dh_model.proofs.KeyOrders.{nat_text_ties, nat_text_total, nat_ties, nat_total, nats_tie, nats_total}
use Rattle.dh_model.proofs.MapRows.{cases_key, get_new, get_other}
use Rattle.dh_laws.specs.Events.{state_of}
use Rattle.dh_laws.specs.InOrder.{AreKeyed, IsInOrder}
use Rattle.dh_laws.specs.Repeating.{is_of_nothing_new}
use Rattle.dh_laws.specs.Standings.{NothingNewLeavesTheTables, StandingDeterminesTheTables, StandingMakesTheTables, led_from, still_open, tables_at, with_open}
use Rattle.dh_laws.proofs.BatchLemmas.Charged.{charge_month, charges_fit, fee_month, fees_fit, part_month, parts_fit}
use Rattle.dh_laws.proofs.BatchLemmas.Fees.{fees_posted}
use Rattle.dh_laws.proofs.BatchLemmas.MonthRows.{others_stay, stays}
use Rattle.dh_laws.proofs.BatchLemmas.Whole.{is_open}
use Rattle.dh_laws.proofs.RepeatLemmas.Replies.{nothing_new_changes_nothing}

-- what stood under a key is put back in the place of what was put there
put_in_again : {K X : Type 0} {R : K → K → Ordering} (o : IsTotalOrder R) (anti : IsAntisymmetric R) (m : FinMap R X) (k : K) (other x : X)
    → get m k ≡ Some x → insert (insert m k other) k x ≡ m
put_in_again o anti m k other x is = same_map o anti (insert (insert m k other) k x) m (λ q. elim (cases_key o anti q k) [
  | inl same ↦ ap (get (insert (insert m k other) k x)) same ∙ get_new o anti (insert m k other) k x ∙ sym is ∙ ap (get m) (sym same)
  | inr apart ↦ get_other o anti (insert m k other) k x q apart ∙ get_other o anti m k other q apart
])

module _ (size : ℕ) (books : Books) (keyed : AreKeyed books) (rules : MeetsRules books size) (row : Run) (shown : open_row books ≡ Some row) where
  abbrev all : ℕ
  all = batches size books row.month

  abbrev closed : Run
  closed = closed_run row.month row.key (posted_charges size books row.month all)

  -- an open run's row has nothing summed up
  row_again : still_open closed ≡ row
  row_again =
      let is = is_open books row keyed shown in
      let month : MonthIsOpen books size row = (rules Rule.Months).under_way row (is_among (values books.runs) row is.of) is.open_still in
      let count = month.count in
      let total = month.total in
      let still = is.open_still in
      λ i. record row { count = sym count i; total = sym total i; is_closed = sym still i }

  runs_again : with_open (insert books.runs row.month closed) row.month (get (insert books.runs row.month closed) row.month) ≡ books.runs
  runs_again =
      let at = is_open books row keyed shown in
      let done = insert books.runs row.month closed in
      ap (with_open done row.month) (get_new nat_total nat_ties books.runs row.month closed)
      ∙ ap (insert done row.month) row_again
      ∙ put_in_again nat_total nat_ties books.runs row.month closed row at.is

  module _ (n : ℕ) (posted : ArePosted books size row.month n) where
    books_again : led_from size (completed size books (Some row)) (Some (record { month = row.month; done = n })) ≡ books
    books_again =
        let month = row.month in
        let charges_at : ℕ → List Charge = posted_charges size books month in
        let parts_at : ℕ → List Part = posted_parts size books month in
        let charges = ap (with_rows charge_key (charges_at n))
        (others_stay charge_key charge_month nats_total nats_tie books.charges month (charges_at all) (charges_fit size books keyed rules month all))
        ∙ stays charge_key charge_month nats_total nats_tie books.charges month (charges_at n) (charges_fit size books keyed rules month n) posted.charges in
        let parts = ap (with_rows part_key (parts_at n))
        (others_stay part_key part_month nat_text_total nat_text_ties books.parts month (parts_at all) (parts_fit size books keyed rules month all))
        ∙ stays part_key part_month nat_text_total nat_text_ties books.parts month (parts_at n) (parts_fit size books keyed rules month n) posted.parts in
        let fees_at : ℕ → List PartFee = posted_fees size books month in
        let at = is_open books row keyed shown in
        let fees = ap (with_rows part_fee_key (fees_at n))
        (others_stay part_fee_key fee_month nat_text_total nat_text_ties books.part_fees month (fees_at all) (fees_fit size books keyed rules month all))
        ∙ stays part_fee_key fee_month nat_text_total nat_text_ties books.part_fees month (fees_at n) (fees_fit size books keyed rules month n)
        (fees_posted size books keyed rules month n posted row at.is at.open_still) in
        let runs = runs_again in
        λ i. record books { charges = charges i; parts = parts i; part_fees = fees i; runs = runs i }

module _ (size : ℕ) where
  -- the books lead to their whole, and are made again from it
  made_again : (books : Books) (run : Option OpenRun) → IsInOrder size books run → led_from size (completed size books (open_row books)) run ≡ books
  made_again books None order = ap (completed size books) order.shown
  made_again books (Some run) order =
      let row = order.shown.0 in
      let shown = order.shown.1 in
      let own : row.month ≡ run.month = order.shown.2 in
      let posted = subst (λ month. ArePosted books size month run.done) (sym own) order.shown.3 in
      let from_row = books_again size books order.keyed order.rules row shown run.done posted in
      ap (λ (found : Option Run). led_from size (completed size books found) (Some run)) shown
      ∙ subst (λ month. led_from size (completed size books (Some row)) (Some (record { month = month; done = run.done })) ≡ books) own from_row

  pub standing_makes_the_tables : StandingMakesTheTables size
  standing_makes_the_tables t order = let books = made_again t.books t.run order in λ i. record { books = books i; run = t.run }

  pub standing_determines_the_tables : StandingDeterminesTheTables size
  standing_determines_the_tables t other order others same =
      sym (standing_makes_the_tables other others) ∙ ap (tables_at size) same ∙ standing_makes_the_tables t order

  pub nothing_new_leaves_the_tables : NothingNewLeavesTheTables size
  nothing_new_leaves_the_tables before after told reply order orders told_so nothing =
      let from = state_of size before in
      let as_told = ap (λ (made : State × Reply). made.1) told_so in
      let stays = nothing_new_changes_nothing size from told (subst (λ r. is_of_nothing_new r ≡ true) (sym as_told) nothing) in
      standing_determines_the_tables before after order orders (sym (ap (λ (made : State × Reply). made.0) told_so) ∙ stays)
