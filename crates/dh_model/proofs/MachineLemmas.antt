-- What the machine does with whole commands.
use Rattle.std.proofs.Common.{◌≡◌, ◌∙◌, refl, sym, ap, ℕ, ◌+◌, ◌≤◌, Bool, true, false, nat_le, if◌then◌else◌, Option, Some, None, arith, le-leb}
use Rattle.std.proofs.lemmas.Bool.Decides.{nat_tests}
use Rattle.dh_types.specs.declared.command.Command.{Command}
use Rattle.dh_types.specs.declared.command.Command.TheVariants as command
use Rattle.dh_types.specs.declared.reply.Progress.{Progress}
use Rattle.dh_types.specs.declared.run.RunSum.{RunSum}
use Rattle.dh_types.specs.declared.reply.Reply.{Reply}
use Rattle.dh_types.specs.declared.reply.Reply.TheVariants as reply
use Rattle.dh_types.specs.declared.reply.Refusal.{Refusal}
use Rattle.dh_types.specs.declared.reply.Refusal.TheVariants as refusal
use Rattle.std.specs.FinMap.{get, len}
use Rattle.dh_model.specs.declared.open_run.OpenRun.{OpenRun}
use Rattle.dh_model.specs.declared.rows.Change.{Change}
use Rattle.dh_model.specs.declared.rows.Change.TheVariants as change
use Rattle.dh_model.specs.declared.rows.Verdict.{Verdict}
use Rattle.dh_model.specs.declared.rows.Verdict.TheVariants as verdict
use Rattle.dh_model.specs.Books.{Books, State}
use Rattle.dh_model.specs.MachineLaws.{FreeKeepTheRun, FrozenAreRefused, HalfRunsAreNotShown, PostsAddUp, RefusalsChangeNothing, RunIsOpeningAndBatches}
use Rattle.dh_model.specs.MachineLaws.{is_frozen, is_frozen_on, is_post}
use Rattle.dh_model.specs.Runs.{batches, ran}
use Rattle.dh_model.specs.Verdicts.{OnRun, Frozen, by_run, decided, on_run, ruling, verdict_on}
use Rattle.dh_model.specs.Machine.{accepted, carried_out, posted, posted_sum, resumed, settled, step}

frozen_by : (on : OnRun) (run : OpenRun) (v : Verdict) → is_frozen_on on ≡ true → by_run on (Some run) v ≡ verdict.Refused (refusal.RunOpen run.month)
frozen_by Frozen run v h = refl
frozen_by _ run v h = cc

pub frozen_verdict : (books : Books) (run : OpenRun) (told : Command) → is_frozen told ≡ true
    → verdict_on books (Some run) told ≡ verdict.Refused (refusal.RunOpen run.month)
frozen_verdict books run told h = frozen_by (on_run told) run (decided (ruling books (len books.receipts) told)) h

pub frozen_refused : (size : ℕ) → FrozenAreRefused size
frozen_refused size books run told h = ap (settled size (record { books = books; open_run = Some run }) told) (frozen_verdict books run told h)

pub half_runs_not_shown : HalfRunsAreNotShown
half_runs_not_shown books run question h = rw h refl

abbrev either : Bool → State × Reply → State × Reply → State × Reply
either b x y = if b then x else y

-- A reply that tells of nothing that was carried out leaves the state.
module _ (size : ℕ) (P : Reply → Type 0) (no_accepted : (rows : Change) → P (accepted rows) → ⊥) (no_opened : (month : ℕ) → P (reply.Opened month) → ⊥)
    (no_posted : (sum : RunSum) → P (reply.Posted sum) → ⊥) (no_progress : (it : Progress) → P (reply.Progress it) → ⊥) where
  neither : (b : Bool) (x y : State × Reply) → (P x.1 → ⊥) → (P y.1 → ⊥) → P (either b x y).1 → ⊥
  neither true x y p q = p
  neither false x y p q = q

  resumed_stays : (s : State) (count : ℕ) (run : Option OpenRun) → s.open_run ≡ run → P (resumed size s.books count run).1
      → (resumed size s.books count run).0 ≡ s
  resumed_stays s count None e h = λ i. record { books = s.books; open_run = sym e i }
  resumed_stays s count (Some run) e h =
      let all = batches size s.books run.month in
      let sum = posted_sum run.month (get s.books.runs run.month) in
      let part : Progress = record { month = run.month; done = run.done + count; of = all } in
      absurd (neither (nat_le all (run.done + count)) (record { books = s.books; open_run = None }, reply.Posted sum) (
        record { books = s.books; open_run = Some (record { month = run.month; done = run.done + count }) },
        reply.Progress part,
      ) (no_posted sum) (no_progress part) h)

  carried_stays : (s : State) (told : Command) (rows : Change) → P (carried_out size s told rows).1 → (carried_out size s told rows).0 ≡ s
  carried_stays s (command.Run order) (change.Open row) h = absurd (no_posted _ h)
  carried_stays s (command.Open order) (change.Open row) h = absurd (no_opened row.month h)
  carried_stays s (command.Post count) change.Post h = resumed_stays s count s.open_run refl h
  carried_stays s _ rows h = absurd (no_accepted rows h)

  settled_stays : (s : State) (told : Command) (v : Verdict) → P (settled size s told v).1 → (settled size s told v).0 ≡ s
  settled_stays s told (verdict.Change rows) h = carried_stays s told rows h
  settled_stays s told (verdict.Already kept) h = refl
  settled_stays s told (verdict.Refused why) h = refl

  pub state_stays : (s : State) (told : Command) → P (step size s told).1 → (step size s told).0 ≡ s
  state_stays s told = settled_stays s told (verdict_on s.books s.open_run told)

not_refused : (why : Refusal) (rows : Change) → accepted rows ≡ reply.Refused why → ⊥
not_refused why (change.Receipt it) h = cc
not_refused why _ h = cc

module _ (size : ℕ) where
  carried_keeps : (s : State) (told : Command) (rows : Change) → is_frozen told ≡ false → is_post told ≡ false
      → (carried_out size s told rows).0.open_run ≡ s.open_run
  carried_keeps s (command.Post count) rows h g = cc
  carried_keeps s _ rows h g = cc

  either_books : (b : Bool) (x y : State × Reply) (books : Books) → x.0.books ≡ books → y.0.books ≡ books → (either b x y).0.books ≡ books
  either_books true x y books p q = p
  either_books false x y books p q = q

  -- batches leave the books, which are those with the run made
  pub resumed_books : (books : Books) (count : ℕ) (run : Option OpenRun) → (resumed size books count run).0.books ≡ books
  resumed_books books count None = refl
  resumed_books books count (Some run) =
      let all = batches size books run.month in
      either_books (nat_le all (run.done + count))
      (record { books = books; open_run = None }, reply.Posted (posted_sum run.month (get books.runs run.month))) (
        record { books = books; open_run = Some (record { month = run.month; done = run.done + count }) },
        reply.Progress (record { month = run.month; done = run.done + count; of = all }),
      )
      books refl refl

  settled_keeps : (s : State) (told : Command) (v : Verdict) → is_frozen told ≡ false → is_post told ≡ false → (settled size s told v).0.open_run ≡ s.open_run
  settled_keeps s told (verdict.Change rows) h g = carried_keeps s told rows h g
  settled_keeps s told (verdict.Already kept) h g = refl
  settled_keeps s told (verdict.Refused why) h g = refl

  pub free_keep : FreeKeepTheRun size
  free_keep s told h g = settled_keeps s told (verdict_on s.books s.open_run told) h g

  pub refusals_keep : RefusalsChangeNothing size
  refusals_keep s told why = state_stays size (λ r. r ≡ reply.Refused why) (not_refused why) (λ month e. cc) (λ sum e. cc) (λ part e. cc) s told

  not_reached : (m n : ℕ) → n + 1 ≤ m → nat_le m n ≡ false
  not_reached m n h = grind (arith, nat_tests)

  all_posted : (books : Books) (month count : ℕ) → batches size books month ≤ count
      → posted size books count (record { month = month; done = 0 }) ≡ (
        record { books = books; open_run = None },
        reply.Posted (posted_sum month (get books.runs month)),
      )
  all_posted books month count h = rw (le-leb (batches size books month) (0 + count) (omega (arith, h))) refl

  pub run_is_opening : RunIsOpeningAndBatches size
  run_is_opening books order count told h =
      let all : batches size (ran size books order.key) order.month ≤ count = rw told at h in
      rw told (sym (all_posted (ran size books order.key) order.month count all))

  some_posted : (books : Books) (run : OpenRun) (i : ℕ) → run.done + i + 1 ≤ batches size books run.month
      → (posted size books i run).0 ≡ record { books = books; open_run = Some (record { month = run.month; done = run.done + i }) }
  some_posted books run i h = rw (not_reached (batches size books run.month) (run.done + i) h) refl

  added : (books : Books) (run : OpenRun) (i j : ℕ) → posted size books j (record { month = run.month; done = run.done + i }) ≡ posted size books (i + j) run
  added books run i j =
      let same : run.done + i + j ≡ run.done + (i + j) = omega arith in
      rw same refl

  pub posts_add : PostsAddUp size
  posts_add books run i j h = ap (λ s. (step size s (command.Post j))) (some_posted books run i h) ∙ added books run i j
