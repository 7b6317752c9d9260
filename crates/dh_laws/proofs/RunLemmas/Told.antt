-- What a run and an opening did that were answered so.
use Rattle.std.proofs.Common.{◌≡◌, ◌∙◌, refl, sym, ap, ℕ, Some, None}
use Rattle.std.specs.FinMap.{get, insert}
use Rattle.dh_types.specs.declared.run.Run.{Run}
use Rattle.dh_types.specs.declared.run.RunSum.{RunSum}
use Rattle.dh_types.specs.declared.command.Command.TheVariants as command
use Rattle.dh_types.specs.declared.command.RunOrder.{RunOrder}
use Rattle.dh_types.specs.declared.reply.Reply.{Reply}
use Rattle.dh_types.specs.declared.reply.Reply.TheVariants as reply
use Rattle.dh_model.specs.declared.rows.Change.{Change}
use Rattle.dh_model.specs.declared.rows.Change.TheVariants as change
use Rattle.dh_model.specs.declared.rows.Verdict.{Verdict}
use Rattle.dh_model.specs.declared.rows.Verdict.TheVariants as verdict
use Rattle.dh_model.specs.Books.{State}
use Rattle.dh_model.specs.Checks.{run_of_key}
use Rattle.dh_model.specs.Leases.{dues}
use Rattle.dh_model.specs.Machine.{carried_out, posted_sum, settled, step}
use Rattle.dh_model.specs.Runs.{closed_run, ran, sum_of}
use Rattle.dh_model.specs.Verdicts.{Frozen, opened_run, run_ruling, sum_in, verdict_on}
use Rattle.dh_laws.proofs.VerdictLemmas.Rulings.{of_ruling}
use Rattle.dh_model.proofs.KeyOrders.{nat_ties, nat_total}
use Rattle.dh_model.proofs.MapRows.{get_new}
use Rattle.dh_laws.proofs.VerdictLemmas.Cases.{case_of}

module _ (size : ℕ) (s : State) (order : RunOrder) where
  -- ---- of a run the books say only that it was posted before

  abbrev OfPosted : Verdict → Type 0
  OfPosted v = (kept : Reply) → v ≡ verdict.Already kept → (sum : RunSum) × (kept ≡ reply.AlreadyPosted sum)

  of_run : OfPosted (verdict_on s.books s.open_run (command.Open order))
  of_run =
      of_ruling OfPosted (λ why kept e. cc) Frozen s.open_run (run_ruling s.books order)
      (λ kept e. let is : kept ≡ reply.AlreadyPosted (sum_in s.books (run_of_key s.books order.key)) = cc in (_, is), tt) (λ kept e. cc)

  -- ---- the row that it made

  abbrev pub made : Run
  made = closed_run s.books.next order.key (dues s.books s.books.next)

  pub made_there : order.month ≡ s.books.next → get (ran size s.books order.key).runs order.month ≡ Some made
  made_there next = ap (get (insert s.books.runs s.books.next made)) next ∙ get_new nat_total nat_ties s.books.runs s.books.next made

  -- where the sum is told
  pub record IsPosted (sum : RunSum) (after : State) : Type 0 where
    pub month : order.month ≡ s.books.next
    pub state : after ≡ record { books = ran size s.books order.key; open_run = None }
    pub sum_is : sum ≡ sum_of made

  -- where the month is told
  pub record IsOpened (month : ℕ) (after : State) : Type 0 where
    pub next : order.month ≡ s.books.next
    pub state : after ≡ record { books = ran size s.books order.key; open_run = Some (record { month = order.month; done = 0 }) }
    pub month_is : month ≡ order.month

  posted_rows : (rows : Change) (sum : RunSum) → rows ≡ change.Open (opened_run s.books order) → order.month ≡ s.books.next
      → (carried_out size s (command.Run order) rows).1 ≡ reply.Posted sum → IsPosted sum (carried_out size s (command.Run order) rows).0
  posted_rows rows sum same next h =
      let told : reply.Posted (posted_sum order.month (get (ran size s.books order.key).runs order.month)) ≡ reply.Posted sum
      = sym (ap (λ r. (carried_out size s (command.Run order) r).1) same) ∙ h in
      let is : posted_sum order.month (get (ran size s.books order.key).runs order.month) ≡ sum = cc in
      record {
        month = next;
        state = ap (λ r. (carried_out size s (command.Run order) r).0) same;
        sum_is = sym is ∙ ap (posted_sum order.month) (made_there next);
      }

  posted_by : (v : Verdict) (sum : RunSum) → verdict_on s.books s.open_run (command.Open order) ≡ v
      → (settled size s (command.Run order) v).1 ≡ reply.Posted sum
      → IsPosted sum (settled size s (command.Run order) v).0
  posted_by (verdict.Change rows) sum e h = let case = case_of s.books s.open_run rows (command.Open order) e in posted_rows rows sum case.0 case.1.month h
  posted_by (verdict.Already kept) sum e h = let is = (of_run kept e).1 in cc
  posted_by (verdict.Refused why) sum e h = cc

  pub was_posted : (sum : RunSum) → (step size s (command.Run order)).1 ≡ reply.Posted sum → IsPosted sum (step size s (command.Run order)).0
  was_posted sum h = posted_by (verdict_on s.books s.open_run (command.Run order)) sum refl h

  opened_rows : (rows : Change) (month : ℕ) → rows ≡ change.Open (opened_run s.books order) → order.month ≡ s.books.next
      → (carried_out size s (command.Open order) rows).1 ≡ reply.Opened month → IsOpened month (carried_out size s (command.Open order) rows).0
  opened_rows rows month same next h =
      let told : reply.Opened order.month ≡ reply.Opened month = sym (ap (λ r. (carried_out size s (command.Open order) r).1) same) ∙ h in
      let is : order.month ≡ month = cc in
      record { next = next; state = ap (λ r. (carried_out size s (command.Open order) r).0) same; month_is = sym is }

  opened_by : (v : Verdict) (month : ℕ) → verdict_on s.books s.open_run (command.Open order) ≡ v
      → (settled size s (command.Open order) v).1 ≡ reply.Opened month
      → IsOpened month (settled size s (command.Open order) v).0
  opened_by (verdict.Change rows) month e h = let case = case_of s.books s.open_run rows (command.Open order) e in opened_rows rows month case.0 case.1.month h
  opened_by (verdict.Already kept) month e h = let is = (of_run kept e).1 in cc
  opened_by (verdict.Refused why) month e h = cc

  pub was_opened : (month : ℕ) → (step size s (command.Open order)).1 ≡ reply.Opened month → IsOpened month (step size s (command.Open order)).0
  was_opened month h = opened_by (verdict_on s.books s.open_run (command.Open order)) month refl h
