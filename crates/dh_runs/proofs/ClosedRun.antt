-- The open run closed by its sum, as the whole of the books.
use Rattle.std.proofs.Common.{◌≡◌, ◌∙◌, sym, ap, subst, ℕ, Some, None, Option, Result, OnErr, OnOk, arith}
use Rattle.std.specs.Ordering.{nat_cmp}
use Rattle.std.specs.FinMap.{get, insert}
use Rattle.sqlite.specs.State.{HasCleanDisk, State}
use Rattle.sqlite.specs.declared.error.Error.{Error}
use Rattle.dh_types.specs.declared.run.Run.{Run}
use Rattle.dh_types.specs.declared.run.RunSum.{RunSum}
use Rattle.dh_model.specs.declared.open_run.OpenRun.{OpenRun}
use Rattle.dh_model.specs.Books as office_state
use Rattle.dh_model.specs.Books.{Books}
use Rattle.dh_model.specs.Machine.{posted_sum}
use Rattle.dh_model.specs.Rules.{charges_in, parts_in}
use Rattle.dh_model.specs.Runs.{batch_size, batches, closed_run}
use Rattle.dh_model.specs.Whole.{whole}
use Rattle.dh_model.proofs.KeyOrders.{nat_ties, nat_total}
use Rattle.dh_model.proofs.MapRows.{get_new, inside}
use Rattle.dh_laws.specs.Batches.{IsAtItsEnd, IsUnderWay, closed_state, open_run_sum}
use Rattle.dh_laws.specs.InOrder.{IsInOrder}
use Rattle.dh_laws.specs.Posting.{closed}
use Rattle.dh_laws.specs.StateTables as office
use Rattle.dh_laws.proofs.BatchLemmas.Moving.{at_the_end}
use Rattle.dh_laws.proofs.BatchLemmas.Closing.{closing_makes_whole}
use Rattle.dh_laws.proofs.BatchLemmas.Whole.{is_open}
use Rattle.dh_tables.specs.Calls.{Amends, CommitsNothing, IsUndone, StaysInTransaction}
use Rattle.dh_tables.specs.RunTable.{run_shape}
use Rattle.dh_model.specs.Kinds.{Runs}
use Rattle.dh_schema.specs.Store.{IsWriting, tables}
use Rattle.dh_runs.specs.Closing.{IsOpenMonth, IsSumOfOpen, sum_of_parts, sum_over, with_run, with_sum}
use Rattle.dh_schema.specs.Putting.{Puts}
use Rattle.dh_runs.proofs.PartSums.{parts_are_charges}
use Rattle.dh_schema.proofs.Putting.{IsThere, amended}

-- a run of which no batch is left is open
pub under_way : (books : Books) (run : Option OpenRun) → IsAtItsEnd books run → IsUnderWay run
under_way books None h = h
under_way books (Some run) h = tt

module _ (books : Books) (sum : RunSum) (is : IsSumOfOpen sum books) where
  abbrev row : Run
  row = is.0

  whole_of : (run : Option OpenRun) → IsAtItsEnd books run → IsInOrder batch_size books run → closed books row ≡ whole batch_size books
  whole_of None end order = absurd end
  whole_of (Some run) end order =
      closing_makes_whole batch_size books run.month row (omega arith)
      (subst (λ (done : ℕ). IsInOrder batch_size books (Some (record { month = run.month; done = done }))) end order) is.1

  -- the books with the run that is closed by its sum are the whole ones
  pub closed_is_whole : (run : Option OpenRun) → IsAtItsEnd books run → IsInOrder batch_size books run
      → with_run sum.month (with_sum sum row) books ≡ whole batch_size books
  closed_is_whole run end order = ap (λ (it : RunSum). with_run it.month (with_sum it row) books) is.2 ∙ whole_of run end order

  -- and the sum is what the run is told to come to
  pub sum_is_open_run_sum : (run : Option OpenRun) → IsAtItsEnd books run → IsInOrder batch_size books run → sum ≡ open_run_sum books run
  sum_is_open_run_sum None end order = absurd end
  sum_is_open_run_sum (Some run) end order =
      let own_row = closed_run row.month row.key (charges_in books row.month) in
      let same : order.shown.0 ≡ row = inside order.shown.0 row (sym order.shown.1 ∙ is.1) in
      let own : run.month ≡ row.month = sym order.shown.2 ∙ ap (λ (it : Run). it.month) same in
      let found : get (insert books.runs row.month own_row) row.month ≡ Some own_row = get_new nat_total nat_ties books.runs row.month own_row in
      is.2 ∙ ap (posted_sum row.month) (sym found) ∙ ap (λ (month : ℕ). posted_sum month (get (insert books.runs row.month own_row) month)) (sym own)
      ∙ ap (λ (it : Books). posted_sum run.month (get it.runs run.month)) (whole_of (Some run) end order)

-- the open run of this month, where no batch of it is left
pub at_end_of : (books : Books) (run : Option OpenRun) (month : ℕ) → IsOpenMonth books month → IsAtItsEnd books run → IsInOrder batch_size books run
    → run ≡ Some (record { month = month; done = batches batch_size books month })
at_end_of books None month is end order = absurd end
at_end_of books (Some run) month is end order =
    let same : order.shown.0 ≡ is.0 = inside order.shown.0 is.0 (sym order.shown.1 ∙ is.1) in
    let own : run.month ≡ month = sym order.shown.2 ∙ ap (λ (it : Run). it.month) same ∙ is.2 in
    let done : run.done ≡ batches batch_size books month = end ∙ ap (batches batch_size books) own in
    λ i. Some (record { month = own i; done = done i })

-- what its part rows come to is what its charges come to
pub sum_of_open : (s : office_state.State) (month : ℕ) (sum : RunSum) → office.IsStateInOrder s
    → s.open_run ≡ Some (record { month = month; done = batches batch_size s.books month })
    → sum ≡ sum_of_parts month (parts_in s.books month) → IsSumOfOpen sum s.books
sum_of_open s month sum order open_one is =
    let run : OpenRun = record { month = month; done = batches batch_size s.books month } in
    let here : IsInOrder batch_size s.books (Some run) = subst (λ (it : Option OpenRun). IsInOrder batch_size s.books it) open_one order in
    let row = here.shown.0 in (
      row,
      here.shown.1,
      is ∙ parts_are_charges batch_size s.books month (omega arith) here
          ∙ ap (λ (m : ℕ). sum_over m (charges_in s.books m)) (sym here.shown.2),
    )

-- closed, tables in order are in order
pub closed_in_order : (t : office_state.State) → office.IsStateInOrder t → IsAtItsEnd t.books t.open_run → office.IsStateInOrder (closed_state t)
closed_in_order t order end = (at_the_end batch_size t.books t.open_run (omega arith) order).order

module _ (old new : State) (sum : RunSum) (fits : HasCleanDisk old → office.IsStateInOrder (tables old)
    × IsAtItsEnd (tables old).books (tables old).open_run × IsSumOfOpen sum (tables old).books) where
  -- the row of the run is there, and closed by its sum it makes the books whole
  pub run_there : HasCleanDisk old → IsThere Runs sum.month (with_sum sum) old new (λ _. (closed_state (tables old)).books)
  run_there clean =
      let order = (fits clean).0 in
      let is = (fits clean).2 in
      let at = (is_open (tables old).books is.0 order.keyed is.1).is in (
        is.0,
        subst (λ (month : ℕ). get (tables old).books.runs month ≡ Some is.0) (sym (ap (λ (it : RunSum). it.month) is.2)) at,
        closed_is_whole (tables old).books sum is (tables old).open_run (fits clean).1 order,
      )

  -- which is what is put
  pub sum_put : (r : Result (Unit {0}) Error) → (HasCleanDisk old → IsWriting old) → (HasCleanDisk new → OnOk r (StaysInTransaction old new))
      → (HasCleanDisk new → OnOk r (Amends run_shape nat_cmp sum.month (with_sum sum) old new)) → (HasCleanDisk new → OnErr r (IsUndone old new))
      → CommitsNothing old new → Puts (closed_state (tables old)).books r old new
  sum_put r writing on done undone crash = amended Runs sum.month (with_sum sum) old new (λ _. (closed_state (tables old)).books) r (λ _. tt) writing run_there
      on done undone crash
