-- Where the open run stands after batches, or at its end.
use Rattle.std.proofs.Common.{◌≡◌, ◌∙◌, refl, sym, ap, subst, inl, inr, ℕ, ◌+◌, ◌-◌}
use Rattle.std.proofs.Common.{◌≤◌, min, Bool, true, false, nat_le, if◌then◌else◌, Option, Some, None, leb-true}
use Rattle.std.proofs.Common.{arith}
use Rattle.std.proofs.lemmas.Bool.Decides.{nat_tests}
use Rattle.dh_types.specs.declared.command.Command.{Command}
use Rattle.dh_types.specs.declared.command.Command.TheVariants as command
use Rattle.dh_model.specs.declared.open_run.OpenRun.{OpenRun}
use Rattle.dh_model.specs.Books.{Books, State}
use Rattle.dh_model.specs.Runs.{batch_size, batches}
use Rattle.dh_model.specs.Whole.{whole, with_posted}
use Rattle.dh_laws.specs.InOrder.{IsInOrder}
use Rattle.dh_laws.specs.Events.{IsMovedBy, IsMovedOn, IsMidRecovery, IsUndone, RunIfUndone}
use Rattle.dh_laws.specs.StateTables.{IsStateInOrder, advanced_run, as_tables}
use Rattle.dh_laws.proofs.BatchLemmas.Moving.{at_the_end, batches_of_whole, with_batches}
use Rattle.dh_rules.specs.declared.recoveries.Reach.{Reach}
use Rattle.dh_rules.specs.declared.recoveries.Reach.TheVariants as reach
use Rattle.dh_rules.specs.Reaches.{batches_left, moved_run, reach_within, undone_run}

more_than : (m n : ℕ) → nat_le m n ≡ false → n + 1 ≤ m
more_than m n h = grind (arith, nat_tests)

-- so many more, as far as there are
abbrev capped : ℕ → ℕ → ℕ → ℕ
capped done count all = if nat_le all (done + count) then all else done + count

record IsCapped (done count all n : ℕ) : Type 0 where
  least : done ≤ n
  most : n ≤ all
  more : n ≤ done + count

is_capped : (done count all : ℕ) → done ≤ all → IsCapped done count all (capped done count all)
is_capped done count all within = by (nat_le all (done + count)) refl
  where
    by : (b : Bool) → nat_le all (done + count) ≡ b → IsCapped done count all (if b then all else done + count)
    by true e = let reached = leb-true all (done + count) e in record { least = within; most = omega arith; more = reached }
    by false e = let short = more_than all (done + count) e in record { least = omega arith; most = omega (arith, short); more = omega arith }

capped_is : (done count all : ℕ) → done ≤ all → done + min count (all - done) ≡ capped done count all
capped_is done count all within = by (nat_le all (done + count)) refl
  where
    by : (b : Bool) → nat_le all (done + count) ≡ b → done + min count (all - done) ≡ (if b then all else done + count)
    by true e = let reached = leb-true all (done + count) e in omega (arith, within, reached)
    by false e = let short = more_than all (done + count) e in omega (arith, within, short)

module _ (size : ℕ) where
  few_done : (books : Books) (run : OpenRun) → IsInOrder size books (Some run) → run.done ≤ batches size books run.month
  few_done books run order = order.shown.3.few

  -- no more batches are done than there are
  abbrev pub IsWithin : Books → Option OpenRun → Type 0
  IsWithin books None = Unit {0}
  IsWithin books (Some run) = run.done ≤ batches size books run.month

  pub within_whole : (books : Books) (run : Option OpenRun) → IsInOrder size books run → IsWithin (whole size books) run
  within_whole books None order = tt
  within_whole books (Some run) order = subst (λ n. run.done ≤ n) (sym (batches_of_whole size books run.month)) (few_done books run order)

  -- the tables with so many batches in the place of what they had of the month
  abbrev pub stands_at : Books → OpenRun → ℕ → State
  stands_at books run n = record { books = with_posted size books run.month n; open_run = Some (record { month = run.month; done = n }) }

  pub record Led (before after : State) (run : Option OpenRun) : Type 0 where
    pub order : IsInOrder size after.books after.open_run
    pub same : whole size after.books ≡ whole size before.books
    pub is : after.open_run ≡ run

  pub batches_done : (before after : State) (run : OpenRun) (n count : ℕ) → before.open_run ≡ Some run
      → n ≡ run.done + min count (batches size before.books run.month - run.done)
      → after ≡ stands_at before.books run n → IsInOrder size before.books before.open_run
      → Led before after (Some (record { month = run.month; done = capped run.done count (batches size (whole size before.books) run.month) }))
  batches_done before after run n count shown counted made order =
      let all = batches size before.books run.month in
      let here : IsInOrder size before.books (Some run) = subst (λ it. IsInOrder size before.books it) shown order in
      let few = few_done before.books run here in
      let led = with_batches size before.books run n here (omega (arith, counted, few)) in
      record {
        order = subst (λ (s : State). IsInOrder size s.books s.open_run) (sym made) led.order;
        same = ap (λ (s : State). whole size s.books) made ∙ led.same;
        is = ap (λ (s : State). s.open_run) made
            ∙ ap (λ m. Some (record { month = run.month; done = m })) (counted ∙ capped_is run.done count all few
            ∙ ap (capped run.done count) (sym (batches_of_whole size before.books run.month)));
      }

  pub end_reached : (before after : State) → 1 ≤ size → after ≡ record { books = whole size before.books; open_run = None }
      → IsInOrder size before.books before.open_run
      → Led before after None
  end_reached before after pos made order =
      let led = at_the_end size before.books before.open_run pos order in
      record {
        order = subst (λ (s : State). IsInOrder size s.books s.open_run) (sym made) led.order;
        same = ap (λ (s : State). whole size s.books) made ∙ led.same;
        is = ap (λ (s : State). s.open_run) made;
      }

advanced_by : (books : Books) (count most : ℕ) (run : Option OpenRun) → count ≤ most → IsWithin batch_size books run
    → IsMovedBy batch_size books most run (advanced_run books count run)
advanced_by books count most None few within = inl refl
advanced_by books count most (Some run) few within =
    let at = is_capped run.done count (batches batch_size books run.month) within in
    let more = at.more in
    inr (run, refl, ((refl, at.least, at.most), omega (arith, more, few)))

ended_by : (books : Books) (most : ℕ) (run : Option OpenRun) → batches_left books run ≤ most → IsMovedBy batch_size books most run None
ended_by books most None few = inl refl
ended_by books most (Some run) few = inr (run, refl, omega (arith, few))

-- a cut `post` comes no further than it was asked to
moved_within : (books : Books) (most : ℕ) (far : Reach) (run : Option OpenRun) → IsWithin batch_size books run
    → IsMovedBy batch_size books most run (moved_run books (reach_within (batches_left books run) most far) run)
moved_within books most (reach.Batches count) run within = advanced_by books (min count most) most run (omega arith) within
moved_within books most reach.End run within = by (nat_le (batches_left books run) most) refl
  where
    by : (b : Bool) → nat_le (batches_left books run) most ≡ b
        → IsMovedBy batch_size books most run (moved_run books (if b then reach.End else reach.Batches most) run)
    by true e = ended_by books most run (leb-true (batches_left books run) most e)
    by false e = advanced_by books most most run (omega arith) within

-- a run that is moved on is further, or closed
moved_on : (books : Books) (far : Reach) (run : Option OpenRun) → IsWithin batch_size books run → IsMovedOn batch_size books run (moved_run books far run)
moved_on books (reach.Batches count) None within = inl refl
moved_on books (reach.Batches count) (Some run) within =
    let at = is_capped run.done count (batches batch_size books run.month) within in inr (run, refl, (refl, at.least, at.most))
moved_on books reach.End None within = inl refl
moved_on books reach.End (Some run) within = inr (run, refl, tt)

left_of_whole : (books : Books) (run : Option OpenRun) → batches_left (whole batch_size books) run ≡ batches_left books run
left_of_whole books None = refl
left_of_whole books (Some run) = ap (λ all. all - run.done) (batches_of_whole batch_size books run.month)

-- the tables with the open run moved so far
abbrev pub Moves : State → Reach → State → Type 0
Moves before far after =
    IsStateInOrder before → IsStateInOrder after × (whole batch_size after.books ≡ whole batch_size before.books)
    × (after.open_run ≡ moved_run (whole batch_size before.books) far before.open_run)

pub interrupted_so_far : (before after : State) (far : Reach) → Moves before far after → IsStateInOrder before
    → IsMidRecovery batch_size (as_tables before) (as_tables after)
    × IsStateInOrder after
interrupted_so_far before after far moves order =
    let made = whole batch_size before.books in
    let led = moves order in
    let on = moved_on made far before.open_run (within_whole batch_size before.books before.open_run order) in
    (record { books = led.1; run = subst (λ run. IsMovedOn batch_size made before.open_run run) (sym led.2) on }, led.0)

pub post_cut : (before after : State) (told : Command) (count : ℕ) (far to : Reach) → told ≡ command.Post count
    → to ≡ reach_within (batches_left before.books before.open_run) count far
    → Moves before to after → IsStateInOrder before
    → (IsUndone batch_size told (as_tables before) (as_tables after) × IsStateInOrder after)
    × (after.open_run ≡ undone_run (whole batch_size before.books) told far before.open_run)
post_cut before after told count far to posts within moves order =
    let made = whole batch_size before.books in
    let led = moves order in
    let run : after.open_run ≡ undone_run made (command.Post count) far before.open_run =
    led.2 ∙ ap (λ it. moved_run made it before.open_run) (within ∙ ap (λ left. reach_within left count far) (sym (left_of_whole before.books before.open_run)))
    in
    let by = moved_within made count far before.open_run (within_whole batch_size before.books before.open_run order) in
    let moved : RunIfUndone batch_size made (command.Post count) before.open_run after.open_run =
    subst (λ it. IsMovedBy batch_size made count before.open_run it) (sym run) by in (
      (record { books = led.1; run = subst (λ it. RunIfUndone batch_size made it before.open_run after.open_run) (sym posts) moved }, led.0),
      subst (λ it. after.open_run ≡ undone_run made it far before.open_run) (sym posts) run,
    )
