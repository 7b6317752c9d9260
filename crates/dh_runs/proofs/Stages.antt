-- The loop over a plan: the tables are those of so many batches.
use Rattle.std.proofs.Common.{◌≡◌, ◌∙◌, ◌⊎◌, inl, inr, refl, sym, ap, subst, ℕ, ◌+◌, ◌≤◌, ◌<◌, min, List, length, take, get_or, Some, arith}
use Rattle.std.specs.Prelude.{slice_index_or}
use Rattle.std.proofs.lemmas.List.{get_or-take, length-take}
use Rattle.sqlite.specs.State.{State, HasCleanDisk}
use Rattle.sqlite_trees.specs.View.{doubt}
use Rattle.dh_types.specs.declared.reply.Progress.{Progress}
use Rattle.dh_model.specs.Books as machine
use Rattle.dh_model.specs.Runs.{batch_size}
use Rattle.dh_model.specs.Whole.{whole}
use Rattle.dh_laws.specs.Batches.{IsAtItsEnd, IsPostedInPart, closed_state, next_batch}
use Rattle.dh_laws.specs.InOrder.{IsInOrder}
use Rattle.dh_laws.specs.StateTables.{IsStateInOrder}
use Rattle.dh_laws.proofs.BatchLemmas.Moving.{batches_of_whole, with_batches}
use Rattle.dh_laws.proofs.StandingLemmas.Batches.{Stands, posted_in_part, same_in_part}
use Rattle.dh_leases.specs.declared.plans.BatchRows.{BatchRows}
use Rattle.dh_leases.specs.declared.plans.Plan.{Plan}
use Rattle.dh_leases.specs.Plans.{AreNew, HasItsPart, IsPlanOf, begins_at, stage, with_batch_rows}
use Rattle.dh_leases.proofs.Leading.{IsBatchAt, batch_at, counted}
use Rattle.dh_schema.specs.Store.{IsReady, Leaves, tables}
use Rattle.dh_runs.specs.Outcomes.{LeavesOneBatch}
use Rattle.dh_runs.proofs.Along.{Along, either, ends, in_order, leaves_weaker}
use Rattle.dh_runs.proofs.NextRows.{first_stage, stage_behind}

-- each of the first rows is that of all at its place
pub in_front : (all given : List BatchRows) (n k : ℕ) (rows : BatchRows) → given ≡ all → k < length (take n given) → rows ≡ get_or (take n given) k rows
    → (k < n) × (k < length all) × (rows ≡ slice_index_or all k rows)
in_front all given n k rows same few is =
    let within : k < min n (length given) = subst (λ m. k < m) (length-take n given) few in
    let lengths : length given ≡ length all = ap length same in
    let low : k < n = omega (arith, within) in
    (low, omega (arith, within, lengths), is ∙ get_or-take n given k rows low ∙ ap (λ (xs : List BatchRows). get_or xs k rows) same)

-- how far the run is that the plan is of
abbrev pub progress : Plan → Progress
progress plan = record { month = plan.month; done = plan.done; of = plan.done + length plan.batches.items }

-- so many batches of the plan are in the tables
pub record Planned (old now : State) (plan : Plan) (n : ℕ) : Type 0 where
  pub along : Along old now (progress plan) n
  pub plans : HasCleanDisk now → IsPlanOf plan (tables old)
  pub stands : HasCleanDisk now → tables now ≡ stage (tables old).books plan.month (plan.done + n)

-- as of `LeavesOneBatch`
abbrev pub IsOneOn : machine.State → machine.State → Type 0
IsOneOn at t = (t ≡ at) ⊎ ((t ≡ next_batch at) ⊎ (IsAtItsEnd at.books at.open_run × (t ≡ closed_state at)))

-- the tables stand at a batch
pub rests_single : (most : ℕ) (t : machine.State) (new : State) → Leaves new (λ it. it ≡ t) → LeavesOneBatch most t new
rests_single most t new left =
    record { at = t; reached = same_in_part most t t refl; left = leaves_weaker new (λ it. it ≡ t) (IsOneOn t) (λ it is. inl is) left }

pub from_opened : (most : ℕ) (o opened : machine.State) (new : State) → o ≡ opened → LeavesOneBatch most o new → (m : ℕ) × LeavesOneBatch m opened new
from_opened most o opened new is left = (most, subst (λ (t : machine.State). LeavesOneBatch most t new) is left)

module _ (old : State) (plan : Plan) where
  at_stage : (s t : machine.State) (n : ℕ) → IsStateInOrder s → IsPlanOf plan s → n ≤ length plan.batches.items
      → t ≡ stage s.books plan.month (plan.done + n) → Stands (begins_at plan) s n t
  at_stage s t n order is few made =
      let here : IsInOrder batch_size s.books (Some (begins_at plan)) = subst (λ it. IsInOrder batch_size s.books it) is.shown order in
      let count = counted plan s is in
      let led = with_batches batch_size s.books (begins_at plan) (plan.done + n) here (omega (arith, few, count)) in
      record {
        order = subst (λ (it : machine.State). IsStateInOrder it) (sym made) led.order;
        same = ap (λ (it : machine.State). whole batch_size it.books) made ∙ led.same;
        is = ap (λ (it : machine.State). it.open_run) made;
      }

  pub planned_first : (HasCleanDisk old → IsReady old) → (HasCleanDisk old → IsPlanOf plan (tables old)) → Planned old old plan 0
  planned_first ready told =
      let order : HasCleanDisk old → IsStateInOrder (tables old) = λ clean. in_order old (ready clean) in
      let none : plan.done ≡ plan.done + 0 = omega arith in
      let first : HasCleanDisk old → tables old ≡ stage (tables old).books plan.month (plan.done + 0) =
      λ clean. first_stage plan (tables old) (order clean) (told clean) ∙ ap (stage (tables old).books plan.month) none in
      record {
        along = record {
          was_clean = omega arith;
          ready = ready;
          shown = λ clean. (told clean).shown;
          counted = λ clean. counted plan (tables old) (told clean) ∙ sym (batches_of_whole batch_size (tables old).books plan.month);
          stands = λ clean. at_stage (tables old) (tables old) 0 (order clean) (told clean) (omega arith) (first clean);
        };
        plans = told;
        stands = first;
      }

  module _ (now : State) (n : ℕ) (h : Planned old now plan n) (was : HasCleanDisk old → IsReady old) (rows : BatchRows) (few : n < length plan.batches.items)
      (is : rows ≡ slice_index_or plan.batches.items n rows) where
    batch_here : HasCleanDisk now → IsBatchAt (tables old).books plan.month (plan.done + n) rows
    batch_here clean = batch_at plan (tables old) (h.plans clean) n (plan.done + n) rows few refl is

    put_is : HasCleanDisk now → with_batch_rows rows (tables now) ≡ stage (tables old).books plan.month (plan.done + (n + 1))
    put_is clean =
        let next : plan.done + n + 1 ≡ plan.done + (n + 1) = omega arith in
        ap (with_batch_rows rows) (h.stands clean) ∙ (batch_here clean).goes ∙ ap (stage (tables old).books plan.month) next

    next_stage : (t : machine.State) → HasCleanDisk now → t ≡ with_batch_rows rows (tables now) → Stands (begins_at plan) (tables old) (n + 1) t
    next_stage t clean made =
        let low = h.along.was_clean in
        at_stage (tables old) t (n + 1) (in_order old (was (omega (arith, clean, low)))) (h.plans clean) (omega (arith, few)) (made ∙ put_is clean)

    pub rows_in_order : HasCleanDisk now → IsStateInOrder (with_batch_rows rows (tables now))
    rows_in_order clean = (next_stage (with_batch_rows rows (tables now)) clean refl).order

    pub rows_are_new : HasCleanDisk now → AreNew rows.charges.items (tables now).books.charges
    rows_are_new clean = subst (λ (it : machine.State). AreNew rows.charges.items it.books.charges) (sym (h.stands clean)) (batch_here clean).new

    pub rows_begun : HasCleanDisk now → HasItsPart rows (tables now)
    rows_begun clean = subst (HasItsPart rows) (sym (h.stands clean)) (batch_here clean).begun

    pub planned_next : (new : State) → doubt now.is_clean ≤ doubt new.is_clean
        → (HasCleanDisk new → IsReady new × (tables new ≡ with_batch_rows rows (tables now))) → Planned old new plan (n + 1)
    planned_next new up done =
        let back : HasCleanDisk new → HasCleanDisk now = λ clean. omega (arith, clean, up) in
        let low = h.along.was_clean in
        record {
          along = record {
            was_clean = omega (arith, low, up);
            ready = λ clean. (done clean).0;
            shown = λ clean. h.along.shown (back clean);
            counted = λ clean. h.along.counted (back clean);
            stands = λ clean. next_stage (tables new) (back clean) (done clean).1;
          };
          plans = λ clean. h.plans (back clean);
          stands = λ clean. (done clean).1 ∙ put_is (back clean);
        }

    -- a crash within the batch
    pub rows_crash : (most : ℕ) (new : State) → n < most → doubt now.is_clean ≤ doubt new.is_clean
        → (HasCleanDisk new → Leaves new (λ t. (t ≡ tables now) ⊎ (t ≡ with_batch_rows rows (tables now)))) → HasCleanDisk new
        → Leaves new (IsPostedInPart most (tables old))
    rows_crash most new less up crash clean =
        let back : HasCleanDisk now = omega (arith, clean, up) in
        leaves_weaker new _ (IsPostedInPart most (tables old))
        (λ t. either (tables now) (with_batch_rows rows (tables now)) t (IsPostedInPart most (tables old))
        (λ t it. subst (IsPostedInPart most (tables old)) (sym it)
        (posted_in_part (begins_at plan) (tables old) n (tables now) (h.along.stands back) most (h.along.shown back) (omega (arith, less))))
        (λ t it. posted_in_part (begins_at plan) (tables old) (n + 1) t (next_stage t back it) most (h.along.shown back) (omega (arith, less))))
        (crash clean)

    is_next : HasCleanDisk now → with_batch_rows rows (tables now) ≡ next_batch (tables now)
    is_next clean =
        let low = h.along.was_clean in
        let order : IsStateInOrder (tables old) = in_order old (was (omega (arith, clean, low))) in
        let here : IsInOrder batch_size (tables old).books (Some (begins_at plan)) =
        subst (λ it. IsInOrder batch_size (tables old).books it) (h.along.shown clean) order in
        let count = counted plan (tables old) (h.plans clean) in
        let next : plan.done + (n + 1) ≡ plan.done + n + 1 = omega arith in
        put_is clean ∙ ap (stage (tables old).books plan.month) next
        ∙ sym (stage_behind (tables old).books (begins_at plan) (plan.done + n) here (omega (arith, few, count)))
        ∙ sym (ap next_batch (h.stands clean))

    -- which leaves no more than the batch
    pub rows_single : (most : ℕ) (new : State) → n < most → doubt now.is_clean ≤ doubt new.is_clean
        → (HasCleanDisk new → Leaves new (λ t. (t ≡ tables now) ⊎ (t ≡ with_batch_rows rows (tables now)))) → HasCleanDisk new
        → LeavesOneBatch most (tables old) new
    rows_single most new less up crash clean =
        let back : HasCleanDisk now = omega (arith, clean, up) in
        record {
          at = tables now;
          reached = posted_in_part (begins_at plan) (tables old) n (tables now) (h.along.stands back) most (h.along.shown back) (omega (arith, less));
          left = leaves_weaker new _ (IsOneOn (tables now))
              (λ t. either (tables now) (with_batch_rows rows (tables now)) t (IsOneOn (tables now)) (λ t it. inl it)
              (λ t it. inr (inl (it ∙ is_next back)))) (crash clean);
        }

  -- a crash within the end of the run
  pub end_single : (now : State) (n most : ℕ) (new : State) → Planned old now plan n → n ≤ most → length plan.batches.items ≤ n
      → doubt now.is_clean ≤ doubt new.is_clean → (HasCleanDisk new → Leaves new (λ t. (t ≡ tables now) ⊎ (t ≡ closed_state (tables now))))
      → HasCleanDisk new → LeavesOneBatch most (tables old) new
  end_single now n most new h less all up crash clean =
      let back : HasCleanDisk now = omega (arith, clean, up) in
      let end = ends old (progress plan) now n h.along (omega (arith, all)) back in
      record {
        at = tables now;
        reached = posted_in_part (begins_at plan) (tables old) n (tables now) (h.along.stands back) most (h.along.shown back) less;
        left = leaves_weaker new _ (IsOneOn (tables now))
            (λ t. either (tables now) (closed_state (tables now)) t (IsOneOn (tables now)) (λ t it. inl it) (λ t it. inr (inr (end, it)))) (crash clean);
      }
