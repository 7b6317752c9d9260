-- Batch after batch of the open run, and its end, beside the machine's `post`.
use Rattle.std.proofs.Common.{◌≡◌, ◌∙◌, refl, sym, ap, subst, inl, inr, ℕ, ◌+◌, ◌≤◌, Some, arith}
use Rattle.dh_model.specs.declared.open_run.OpenRun.{OpenRun}
use Rattle.dh_model.specs.Books.{State}
use Rattle.dh_model.specs.Runs.{batch_size, batches}
use Rattle.dh_model.specs.Whole.{whole}
use Rattle.dh_laws.specs.InOrder.{IsInOrder}
use Rattle.dh_laws.specs.Events.{IsMovedBy}
use Rattle.dh_laws.specs.StateTables.{IsStateInOrder}
use Rattle.dh_laws.specs.Batches.{IsAtItsEnd, IsPostedInPart}
use Rattle.dh_laws.proofs.BatchLemmas.Moving.{batches_of_whole}

abbrev pub all_of : State → ℕ → ℕ
all_of s month = batches batch_size (whole batch_size s.books) month

-- so many batches more of the run are done in the later tables
pub record Stands (run : OpenRun) (s : State) (n : ℕ) (t : State) : Type 0 where
  pub order : IsStateInOrder t
  pub same : whole batch_size t.books ≡ whole batch_size s.books
  pub is : t.open_run ≡ Some (record { month = run.month; done = run.done + n })

module _ (run : OpenRun) (s : State) (n : ℕ) (t : State) (h : Stands run s n t) where
  abbrev now : OpenRun
  now = record { month = run.month; done = run.done + n }

  abbrev here : IsInOrder batch_size t.books (Some now)
  here = subst (λ it. IsInOrder batch_size t.books it) h.is h.order

  -- the batches that are counted in either, or in the whole
  alike : batches batch_size t.books run.month ≡ all_of s run.month
  alike = sym (batches_of_whole batch_size t.books run.month) ∙ ap (λ b. batches batch_size b run.month) h.same

  pub within : run.done + n ≤ all_of s run.month
  within = let few = here.shown.3.few in omega (arith, few, alike)

  -- a `post` that was interrupted after so many
  pub posted_in_part : (most : ℕ) → s.open_run ≡ Some run → n ≤ most → IsPostedInPart most s t
  posted_in_part most shown few =
      let fits = within in
      let by : IsMovedBy batch_size (whole batch_size s.books) most s.open_run (Some now) =
      inr (run, shown, ((refl, omega arith, fits), omega (arith, few))) in
      record { books = h.same; run = subst (λ it. IsMovedBy batch_size (whole batch_size s.books) most s.open_run it) (sym h.is) by }

  -- where these are all
  pub at_its_end : run.done + n ≡ all_of s run.month → IsAtItsEnd t.books t.open_run
  at_its_end full = subst (λ it. IsAtItsEnd t.books it) (sym h.is) (full ∙ sym alike)

-- tables that stay are a `post` cut before its first batch
pub same_in_part : (most : ℕ) (s t : State) → t ≡ s → IsPostedInPart most s t
same_in_part most s t same = record { books = ap (λ (it : State). whole batch_size it.books) same; run = inl (ap (λ (it : State). it.open_run) same) }
