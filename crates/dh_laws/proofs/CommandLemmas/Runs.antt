-- Openings, and batches of an open run.
use Rattle.std.proofs.Common.{◌≡◌, ◌∙◌, sym, ap, subst, ℕ, ◌+◌, ◌≤◌, ◌<◌, Bool, true, false, nat_le, if◌then◌else◌, Some, None, arith}
use Rattle.std.specs.FinMap.{get}
use Rattle.std.proofs.lemmas.Bool.Decides.{nat_tests}
use Rattle.dh_types.specs.declared.command.Command.TheVariants as command
use Rattle.dh_types.specs.declared.command.RunOrder.{RunOrder}
use Rattle.dh_types.specs.declared.reply.Reply.{Reply}
use Rattle.dh_types.specs.declared.reply.Reply.TheVariants as reply
use Rattle.dh_types.specs.declared.run.Run.{Run}
use Rattle.dh_model.specs.declared.open_run.OpenRun.{OpenRun}
use Rattle.dh_model.specs.declared.rows.Change.{Change}
use Rattle.dh_model.specs.declared.rows.Change.TheVariants as change
use Rattle.dh_model.specs.declared.rows.Verdict.TheVariants as verdict
use Rattle.dh_model.specs.Books.{Books, State}
use Rattle.dh_model.specs.Machine.{posted_sum, settled, step}
use Rattle.dh_model.specs.Runs.{batches, ran}
use Rattle.dh_model.specs.Verdicts.{opened_run, run_verdict, verdict_on}
use Rattle.dh_model.specs.Whole.{whole}
use Rattle.dh_laws.specs.InOrder.{IsInOrder}
use Rattle.dh_laws.proofs.InvariantLemmas.Order.{changes_keep_order}
use Rattle.dh_laws.proofs.BatchLemmas.Opening.{run_is_opening_made_whole}
use Rattle.dh_laws.proofs.VerdictLemmas.Cases.{case_of}
use Rattle.dh_laws.specs.Events.{state_of}
use Rattle.dh_laws.specs.StateTables.{as_tables}
use Rattle.dh_laws.specs.Telling.{IsTold, begun}
use Rattle.dh_laws.proofs.BatchLemmas.Moving.{batches_of_whole}
use Rattle.dh_laws.proofs.CommandLemmas.Whole.{own_state, shows_none, whole_itself}

-- ---- openings

module _ (size : ℕ) (books : Books) (order : RunOrder) (pos : 1 ≤ size) (in_order : IsInOrder size books None) where
  abbrev row : Run
  row = opened_run books order

  abbrev closed : State
  closed = record { books = books; open_run = None }

  abbrev opened : State
  opened = begun order (change.Open row) closed

  module _ (h : run_verdict books order ≡ verdict.Change (change.Open row)) where
    opened_in_order : IsInOrder size opened.books opened.open_run
    opened_in_order = changes_keep_order size books None (command.Open order) (change.Open row) pos in_order tt h

    pub opened_whole : whole size opened.books ≡ ran size books order.key
    opened_whole = run_is_opening_made_whole size books order pos in_order h

    opened_told : IsTold size (command.Open order) (reply.Opened order.month) closed opened
    opened_told = (
      ap (λ (s : State). step size s (command.Open order)) (own_state size closed in_order.shown) ∙ ap (settled size closed (command.Open order)) h
          ∙ ap (λ (b : Books). (record { books = b; open_run = opened.open_run }, reply.Opened order.month)) (sym opened_whole),
      opened_in_order,
    )

module _ (size : ℕ) (before : State) (order : RunOrder) (pos : 1 ≤ size) (none : before.open_run ≡ None)
    (in_order : IsInOrder size before.books before.open_run) where
  pub none_in_order : IsInOrder size before.books None
  none_in_order = subst (IsInOrder size before.books) none in_order

  -- over tables without an open run
  pub opening_judged : verdict_on (whole size before.books) before.open_run (command.Open order) ≡ run_verdict before.books order
  opening_judged =
      ap (λ b. verdict_on b before.open_run (command.Open order)) (whole_itself size before.books (shows_none size before none in_order))
      ∙ ap (λ run. verdict_on before.books run (command.Open order)) none

  module _ (rows : Change) (h : run_verdict before.books order ≡ verdict.Change rows) where
    pub opening_rows : rows ≡ change.Open (opened_run before.books order)
    opening_rows = (case_of before.books None rows (command.Open order) h).0

    pub opening_verdict : run_verdict before.books order ≡ verdict.Change (change.Open (opened_run before.books order))
    opening_verdict = h ∙ ap (λ r. verdict.Change r) opening_rows

    pub begun_is : begun order rows before ≡ opened size before.books order pos none_in_order
    begun_is = ap (λ r. begun order r before) opening_rows

    pub begun_in_order : IsInOrder size (begun order rows before).books (begun order rows before).open_run
    begun_in_order = subst (λ (s : State). IsInOrder size s.books s.open_run) (sym begun_is)
        (opened_in_order size before.books order pos none_in_order opening_verdict)

    pub opening_told : IsTold size (command.Open order) (reply.Opened order.month) before (begun order rows before)
    opening_told =
        subst (λ run. IsTold size (command.Open order) (reply.Opened order.month) (record { books = before.books; open_run = run }) (begun order rows before))
        (sym none)
        (subst (λ (s : State). IsTold size (command.Open order) (reply.Opened order.month) (record { books = before.books; open_run = None }) s) (sym begun_is)
        (opened_told size before.books order pos none_in_order opening_verdict))

-- ---- batches

-- all batches, or so many
abbrev pub at_most : ℕ → ℕ → ℕ
at_most all count = if nat_le all count then all else count

pub at_most_all : (all count : ℕ) → at_most all count ≤ all
at_most_all all count = grind (arith, nat_tests)

module _ (size : ℕ) (before : State) (run : OpenRun) (count : ℕ) (is : before.open_run ≡ Some run) where
  abbrev all : ℕ
  all = batches size (whole size before.books) run.month

  abbrev closing : State × Reply
  closing = (record { books = whole size before.books; open_run = None }, reply.Posted (posted_sum run.month (get (whole size before.books).runs run.month)))

  abbrev going_on : State × Reply
  going_on = (
    record { books = whole size before.books; open_run = Some (record { month = run.month; done = run.done + count }) },
    reply.Progress (record { month = run.month; done = run.done + count; of = all }),
  )

  abbrev chosen : Bool → State × Reply
  chosen b = if b then closing else going_on

  posted_as : (b : Bool) → nat_le all (run.done + count) ≡ b → step size (state_of size (as_tables before)) (command.Post count) ≡ chosen b
  posted_as b h = ap (λ now. step size (record { books = whole size before.books; open_run = now }) (command.Post count)) is ∙ ap chosen h

  -- where these are all that are left, the machine closes the run over the whole books
  pub closing_told : (whole_books after : State) (reply : Reply) → IsInOrder size whole_books.books whole_books.open_run
      → whole_books.books ≡ whole size before.books → whole_books.open_run ≡ None → batches size before.books run.month ≤ run.done + count
      → (after, reply) ≡ step size (record whole_books { open_run = Some run }) (command.Post count) → IsTold size (command.Post count) reply before after
  closing_told whole_books after reply in_order same none few stepped =
      let enough : nat_le all (run.done + count) ≡ true = let alike = batches_of_whole size before.books run.month in grind (arith, nat_tests, few, alike) in
      let started : state_of size (as_tables before) ≡ record whole_books { open_run = Some run } = λ i. record { books = sym same i; open_run = is i } in
      let made : step size (state_of size (as_tables before)) (command.Post count) ≡ (after, reply) =
      ap (λ (s : State). step size s (command.Post count)) started ∙ sym stepped in
      let left : whole_books ≡ after =
      (λ i. record { books = same i; open_run = none i }) ∙ ap (λ (m : State × Reply). m.0) (sym (posted_as true enough) ∙ made) in
      let ordered = subst (λ (s : State). IsInOrder size s.books s.open_run) left in_order in
      let shown = shows_none size after (ap (λ (s : State). s.open_run) (sym left) ∙ none) ordered in
      (made ∙ ap (λ (s : State). (s, reply)) (sym (own_state size after shown)), ordered)

  -- else it stays open
  pub part_told : (after : State) → IsInOrder size after.books after.open_run → whole size after.books ≡ whole size before.books
      → after.open_run ≡ Some (record { month = run.month; done = at_most all (run.done + count) }) → run.done + count < batches size before.books run.month
      → IsTold size (command.Post count)
      (reply.Progress (record { month = run.month; done = run.done + count; of = batches size before.books run.month })) before after
  part_told after in_order same stands more =
      let alike = batches_of_whole size before.books run.month in
      let rest : nat_le all (run.done + count) ≡ false = grind (arith, nat_tests, more, alike) in
      let done : after.open_run ≡ Some (record { month = run.month; done = run.done + count }) =
      stands ∙ ap (λ (b : Bool). Some (record { month = run.month; done = if b then all else run.done + count })) rest in (
        posted_as false rest
            ∙ (λ i. (
              record { books = sym same i; open_run = sym done i },
              reply.Progress (record { month = run.month; done = run.done + count; of = alike i }),
            )),
        in_order,
      )
