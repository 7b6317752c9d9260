-- The first rows of a plan are the next batch.
use Rattle.std.proofs.Common.{◌≡◌, ◌∙◌, ◌⊎◌, refl, sym, ap, subst, ℕ, ◌+◌, ◌<◌, Bool, true, false, nat_lt, if◌then◌else◌, List, []}
use Rattle.std.proofs.Common.{◌∷◌, length, Some, None, arith}
use Rattle.std.specs.Prelude.{slice_index_or, option_copied, slice_get, Option, OnOk, Result}
use Rattle.sqlite.specs.State as store
use Rattle.sqlite.specs.State.{HasCleanDisk}
use Rattle.dh_types.specs.declared.reply.Fault.{Fault}
use Rattle.std.specs.Borrow.{Bor}
use Rattle.std.specs.FinMap.{get}
use Rattle.std.proofs.lemmas.Option.{get_or_from_slice_get, slice_get_within}
use Rattle.std.proofs.lemmas.Bool.Decides.{nat_tests}
use Rattle.dh_model.specs.declared.open_run.OpenRun.{OpenRun}
use Rattle.dh_model.specs.Books.{Books, State, with_rows}
use Rattle.dh_model.specs.Runs.{batch_size, batches, charge_key, part_fee_key, part_key, posted_charges, posted_fees, posted_parts}
use Rattle.dh_model.specs.Whole.{with_posted}
use Rattle.dh_model.proofs.KeyOrders.{nat_text_ties, nat_text_total, nats_tie, nats_total}
use Rattle.dh_laws.specs.Batches.{next_batch, next_of, with_batch}
use Rattle.dh_laws.specs.InOrder.{IsInOrder}
use Rattle.dh_laws.specs.StateTables.{IsStateInOrder}
use Rattle.dh_laws.proofs.BatchLemmas.Moving.{with_batches}
use Rattle.dh_laws.proofs.BatchLemmas.Charged.{charge_month, charges_fit, fee_month, fees_fit, part_month, parts_fit}
use Rattle.dh_laws.proofs.BatchLemmas.Fees.{fees_posted}
use Rattle.dh_laws.proofs.BatchLemmas.Whole.{is_open}
use Rattle.dh_laws.proofs.BatchLemmas.MonthRows.{others_stay, stays}
use Rattle.dh_leases.specs.declared.plans.BatchRows.{BatchRows}
use Rattle.dh_leases.specs.declared.plans.Plan.{Plan}
use Rattle.dh_leases.specs.Plans.{AreNew, HasItsPart, IsPlanOf, begins_at, stage, with_batch_rows}
use Rattle.dh_leases.proofs.Leading.{IsBatchAt, batch_at, counted}
use Rattle.dh_schema.specs.Steps.{Steps}
use Rattle.dh_schema.specs.Store.{IsReady, IsReadyWith, Leaves, tables}
use Rattle.dh_runs.specs.declared.batch.Batch.TheVariants.{Posted, NoneLeft}
use Rattle.dh_runs.specs.Batches.{posted_batch}
use Rattle.dh_runs.proofs.Along.{in_order}

-- with the batches that are done, books are as they were
pub own_stage : (books : Books) (run : OpenRun) → IsInOrder batch_size books (Some run) → with_posted batch_size books run.month run.done ≡ books
own_stage books run order =
    let shown = order.shown.3 in
    let row = order.shown.0 in
    let own : row.month ≡ run.month = order.shown.2 in
    let at = is_open books row order.keyed order.shown.1 in
    let here = subst (λ month. get books.runs month ≡ Some row) own at.is in
    let charges = stays charge_key charge_month nats_total nats_tie books.charges run.month (posted_charges batch_size books run.month run.done)
    (charges_fit batch_size books order.keyed order.rules run.month run.done) shown.charges in
    let parts = stays part_key part_month nat_text_total nat_text_ties books.parts run.month (posted_parts batch_size books run.month run.done)
    (parts_fit batch_size books order.keyed order.rules run.month run.done) shown.parts in
    let fees = stays part_fee_key fee_month nat_text_total nat_text_ties books.part_fees run.month (posted_fees batch_size books run.month run.done)
    (fees_fit batch_size books order.keyed order.rules run.month run.done)
    (fees_posted batch_size books order.keyed order.rules run.month run.done shown row here at.open_still) in
    λ i. record books { charges = charges i; parts = parts i; part_fees = fees i }

-- batches in the place of others of the month are as they are without those
posted_again : (books : Books) (run : OpenRun) (n m : ℕ) → IsInOrder batch_size books (Some run)
    → with_posted batch_size (with_posted batch_size books run.month n) run.month m ≡ with_posted batch_size books run.month m
posted_again books run n m order =
    let charges = others_stay charge_key charge_month nats_total nats_tie books.charges run.month (posted_charges batch_size books run.month n)
    (charges_fit batch_size books order.keyed order.rules run.month n) in
    let parts = others_stay part_key part_month nat_text_total nat_text_ties books.parts run.month (posted_parts batch_size books run.month n)
    (parts_fit batch_size books order.keyed order.rules run.month n) in
    let fees = others_stay part_fee_key fee_month nat_text_total nat_text_ties books.part_fees run.month (posted_fees batch_size books run.month n)
    (fees_fit batch_size books order.keyed order.rules run.month n) in
    λ i. record books {
      charges = with_rows charge_key (posted_charges batch_size books run.month m) (charges i);
      parts = with_rows part_key (posted_parts batch_size books run.month m) (parts i);
      part_fees = with_rows part_fee_key (posted_fees batch_size books run.month m) (fees i);
    }

-- where a batch is left, the next one leads to the stage behind
pub stage_behind : (books : Books) (run : OpenRun) (done : ℕ) → IsInOrder batch_size books (Some run) → done < batches batch_size books run.month
    → next_batch (stage books run.month done) ≡ stage books run.month (done + 1)
stage_behind books run done order more =
    let posted = with_posted batch_size books run.month done in
    let here : OpenRun = record { month = run.month; done = done } in
    let left : nat_lt done (batches batch_size posted run.month) ≡ true = grind (arith, nat_tests, more) in
    let next : with_batch posted here ≡ stage books run.month (done + 1) =
    λ i. record { books = posted_again books run done (done + 1) order i; open_run = Some (record { month = run.month; done = done + 1 }) } in
    ap (λ (b : Bool). if b then with_batch posted here else record { books = posted; open_run = Some here }) left ∙ next

-- the first of a list that is there
pub first_is : (rows : List BatchRows) (view : List BatchRows) (found : Option (Bor BatchRows)) {row : Bor BatchRows} → view ≡ rows
    → option_copied found ≡ slice_get view 0 → found ≡ Some row → (0 < length rows) × (row.now ≡ slice_index_or rows 0 row.now)
first_is rows view found {row = row} same value is =
    let at : slice_get rows 0 ≡ Some row.now = ap (λ (list : List BatchRows). slice_get list 0) (sym same) ∙ sym value ∙ ap option_copied is in
    (slice_get_within rows 0 row.now at, sym (get_or_from_slice_get rows 0 row.now row.now at))

-- and where none is there
empty : (rows : List BatchRows) → slice_get rows 0 ≡ None → length rows ≡ 0
empty [] none = refl
empty (row ∷ rows) none = cc

-- a plan of no batches: the next batch changes nothing
pub none_next : (plan : Plan) (s : State) → IsPlanOf plan s → (view : List BatchRows) (found : Option (Bor BatchRows)) → view ≡ plan.batches.items
    → option_copied found ≡ slice_get view 0 → found ≡ None → next_batch s ≡ s
none_next plan s is view found same value none =
    let rows = plan.batches.items in
    let run = begins_at plan in
    let at : slice_get rows 0 ≡ None = ap (λ (list : List BatchRows). slice_get list 0) (sym same) ∙ sym value ∙ ap option_copied none in
    let no_more = empty rows at in
    let count = counted plan s is in
    let past : nat_lt plan.done (batches batch_size s.books plan.month) ≡ false = grind (arith, nat_tests, count, no_more) in
    ap (next_of s.books) is.shown ∙ ap (λ (b : Bool). if b then with_batch s.books run else record { books = s.books; open_run = Some run }) past
    ∙ λ i. record { books = s.books; open_run = sym is.shown i }

module _ (plan : Plan) (s : State) (order : IsStateInOrder s) (is : IsPlanOf plan s) where
  abbrev run : OpenRun
  run = begins_at plan

  abbrev all : ℕ
  all = batches batch_size s.books plan.month

  here : IsInOrder batch_size s.books (Some run)
  here = subst (λ it. IsInOrder batch_size s.books it) is.shown order

  pub first_stage : s ≡ stage s.books plan.month plan.done
  first_stage = λ i. record { books = sym (own_stage s.books run here) i; open_run = is.shown i }

  next_by : (b : Bool) → nat_lt plan.done all ≡ b → next_batch s ≡ (if b then with_batch s.books run else record { books = s.books; open_run = Some run })
  next_by b e = ap (next_of s.books) is.shown ∙ ap (λ (b : Bool). if b then with_batch s.books run else record { books = s.books; open_run = Some run }) e

  told_by : (b : Bool) → nat_lt plan.done all ≡ b → posted_batch s.books s.open_run ≡ (if b then Posted (plan.done + 1) all else NoneLeft)
  told_by b e = ap (posted_batch s.books) is.shown ∙ ap (λ (b : Bool). if b then Posted (plan.done + 1) all else NoneLeft) e

  -- the first of its rows are the next batch
  module _ (rows : BatchRows) (some : 0 < length plan.batches.items) (at : rows ≡ slice_index_or plan.batches.items 0 rows) where
    first_batch : IsBatchAt s.books plan.month plan.done rows
    first_batch = batch_at plan s is 0 plan.done rows some (omega arith) at

    before_the_last : nat_lt plan.done all ≡ true
    before_the_last = let count = counted plan s is in grind (arith, nat_tests, count, some)

    pub posted_told : Posted (plan.done + 1) (plan.done + length plan.batches.items) ≡ posted_batch s.books s.open_run
    posted_told = ap (λ (of : ℕ). Posted (plan.done + 1) of) (counted plan s is) ∙ sym (told_by true before_the_last)

    to_first : with_batch_rows rows s ≡ stage s.books plan.month (plan.done + 1)
    to_first = ap (with_batch_rows rows) first_stage ∙ first_batch.goes

    pub rows_next : with_batch_rows rows s ≡ next_batch s
    rows_next = to_first ∙ sym (next_by true before_the_last)

    pub rows_in_order : IsStateInOrder (with_batch_rows rows s)
    rows_in_order =
        let led = with_batches batch_size s.books run (plan.done + 1) here (let count = counted plan s is in omega (arith, count, some)) in
        subst (λ (it : State). IsStateInOrder it) (sym to_first) led.order

    pub rows_new : AreNew rows.charges.items s.books.charges
    rows_new = subst (λ (it : State). AreNew rows.charges.items it.books.charges) (sym first_stage) first_batch.new

    pub rows_known : HasItsPart rows s
    rows_known = subst (HasItsPart rows) (sym first_stage) first_batch.begun

-- what one transaction with the first rows of a plan makes is the next batch
pub next_made : {X : Type 0} {result : Result X Fault} (old new : store.State) (plan : Plan) (rows : BatchRows)
    → (0 < length plan.batches.items) × (rows ≡ slice_index_or plan.batches.items 0 rows) → (HasCleanDisk old → IsReady old)
    → (HasCleanDisk old → IsPlanOf plan (tables old)) → Steps (with_batch_rows rows) result old new → Steps next_batch result old new
next_made {result = result} old new plan rows first ready is made =
    let next : HasCleanDisk new → with_batch_rows rows (tables old) ≡ next_batch (tables old) = λ clean.
    let early : HasCleanDisk old = let was = made.was_clean in omega (arith, was, clean) in
    rows_next plan (tables old) (in_order old (ready early)) (is early) rows first.0 first.1 in
    record {
      done = λ clean. subst (λ (t : State). OnOk result (IsReadyWith new (λ it. it ≡ t))) (next clean) (made.done clean);
      undone = made.undone;
      cause = made.cause;
      crash = λ clean. subst (λ (t : State). Leaves new (λ it. (it ≡ tables old) ⊎ (it ≡ t))) (next clean) (made.crash clean);
      was_clean = made.was_clean;
    }
