-- The next batch keeps the order of the books, and their whole.
use Rattle.std.proofs.Common.{◌≡◌, ◌∙◌, sym, ap, subst, ℕ, ◌+◌, ◌≤◌, false, Some, arith}
use Rattle.std.specs.FinMap.{get, insert, values}
use Rattle.dh_types.specs.declared.run.Run.{Run}
use Rattle.dh_model.specs.Books.{Books, with_rows}
use Rattle.dh_model.specs.Kinds.{Kind}
use Rattle.dh_model.specs.Runs.{batches, charge_key, closed_run, part_fee_key, part_key, posted_charges, posted_fees, posted_parts}
use Rattle.dh_model.specs.Rules.{MeetsRules}
use Rattle.dh_model.specs.Whole.{completed, open_row, with_posted}
use Rattle.dh_model.proofs.Among.{Among}
use Rattle.dh_model.proofs.KeyOrders.{nat_text_ties, nat_text_total, nat_ties, nat_total, nats_tie, nats_total}
use Rattle.dh_laws.specs.InOrder.{AreKeyed}
use Rattle.dh_laws.specs.Posting.{NextBatchKeepsTheWhole}
use Rattle.dh_laws.proofs.MapMerges.{own_row}
use Rattle.dh_laws.proofs.MonthLemmas.Shown.{shown_row}
use Rattle.dh_laws.proofs.BatchLemmas.MonthRows.{others_stay}
use Rattle.dh_laws.proofs.BatchLemmas.Charged.{charge_month, charges_fit, fee_month, fees_fit, part_month, parts_fit}
use Rattle.dh_laws.proofs.BatchLemmas.Rules.{are_posted, posted_keyed, posted_rules}

-- the open run stands among the runs
pub record IsOpen (books : Books) (row : Run) : Type 0 where
  pub of : Among (values books.runs) row
  pub is : get books.runs row.month ≡ Some row
  pub open_still : row.is_closed ≡ false

pub is_open : (books : Books) (row : Run) → AreKeyed books → open_row books ≡ Some row → IsOpen books row
is_open books row keyed shown =
    let found = shown_row books row shown in
    record { of = found.0; is = own_row nat_total nat_ties (λ it. it.month) books.runs (keyed Kind.Runs) row found.0; open_still = found.1 }

module _ (size : ℕ) (books : Books) (keyed : AreKeyed books) (rules : MeetsRules books size) where
  -- whatever batches are in the books, the rest leads to the same
  pub completed_same : (row : Run) (n : ℕ) → completed size (with_posted size books row.month n) (Some row) ≡ completed size books (Some row)
  completed_same row n =
      let all = batches size books row.month in
      let charges = others_stay charge_key charge_month nats_total nats_tie books.charges row.month (posted_charges size books row.month n)
      (charges_fit size books keyed rules row.month n) in
      let parts = others_stay part_key part_month nat_text_total nat_text_ties books.parts row.month (posted_parts size books row.month n)
      (parts_fit size books keyed rules row.month n) in
      let fees = others_stay part_fee_key fee_month nat_text_total nat_text_ties books.part_fees row.month (posted_fees size books row.month n)
      (fees_fit size books keyed rules row.month n) in
      λ i. record books {
        charges = with_rows charge_key (posted_charges size books row.month all) (charges i);
        parts = with_rows part_key (posted_parts size books row.month all) (parts i);
        part_fees = with_rows part_fee_key (posted_fees size books row.month all) (fees i);
        runs = insert books.runs row.month (closed_run row.month row.key (posted_charges size books row.month all));
      }

pub next_batch_keeps_the_whole : (size : ℕ) → NextBatchKeepsTheWhole size
next_batch_keeps_the_whole size books month done pos order more =
    let keyed = order.keyed in
    let rules = order.rules in
    let row = order.shown.0 in
    let shown = order.shown.1 in
    let own = order.shown.2 in
    let at = is_open books row keyed shown in
    let here : get books.runs month ≡ Some row = subst (λ m. get books.runs m ≡ Some row) own at.is in
    let few : done + 1 ≤ batches size books month = omega (arith, more) in (
      record {
        keyed = posted_keyed size books keyed rules month (done + 1);
        rules = posted_rules size books keyed rules month (done + 1) row here at.open_still few;
        shown = (row, shown, own, are_posted size books keyed rules month (done + 1) row here few);
      },
      ap (completed size (with_posted size books month (done + 1))) shown
          ∙ subst (λ m. completed size (with_posted size books m (done + 1)) (Some row) ≡ completed size books (Some row)) own
          (completed_same size books keyed rules row (done + 1))
          ∙ sym (ap (completed size books) shown),
    )
