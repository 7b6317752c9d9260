-- What stands after so many batches of an open run, and what an exit leaves there.
use Rattle.std.proofs.Common.{◌≡◌, ◌∙◌, ◌⊎◌, inl, inr, ap, subst, ℕ, ◌+◌, ◌-◌, ◌≤◌, Option, Some, IsTrue, arith}
use Rattle.sqlite_trees.specs.Tree.{Trees}
use Rattle.sqlite_trees.specs.View.{doubt}
use Rattle.sqlite.specs.State.{State, HasCleanDisk}
use Rattle.dh_types.specs.declared.reply.Progress.{Progress}
use Rattle.dh_model.specs.declared.open_run.OpenRun.{OpenRun}
use Rattle.dh_model.specs.Books as machine
use Rattle.dh_model.specs.Runs.{batch_size, batches}
use Rattle.dh_laws.specs.Batches.{IsAtItsEnd, IsPostedInPart}
use Rattle.dh_laws.specs.StateTables.{IsStateInOrder}
use Rattle.dh_laws.proofs.StandingLemmas.Batches.{Stands, all_of, at_its_end, posted_in_part, within}
use Rattle.dh_schema.specs.Store.{IsReady, Leaves, tables}
use Rattle.dh_schema.specs.Tables.{IsSound, state_in}
use Rattle.dh_schema.proofs.Crashing.{leaves_these, ready_leaves}
use Rattle.dh_schema.proofs.Keyed.{books_are_keyed, sound_tables_show_their_run}

-- ---- ready tables

-- sound tables are those that an office works on
pub sound_in_order : (trees : Trees) → IsSound trees → IsStateInOrder (state_in trees)
sound_in_order trees sound = record { keyed = books_are_keyed trees; rules = sound.rules; shown = sound_tables_show_their_run trees sound }

pub in_order : (s : State) → IsReady s → IsStateInOrder (tables s)
in_order s ready = sound_in_order s.now.trees ready.sound

-- ---- what a crash leaves

-- by the store's laws: while it is open, the last commit alone
abbrev pub Settles : State → Type 0
Settles s = (left : Trees) → IsTrue s.is_open → s.may_leave left → left ≡ s.committed.trees

abbrev pub Stays : State → Type 0
Stays s = IsTrue s.is_open → s.may_leave s.committed.trees

pub leaves_weaker : (s : State) (P Q : machine.State → Type 0) → ((t : machine.State) → P t → Q t) → Leaves s P → Leaves s Q
leaves_weaker s P Q f h left may = let it = h left may in (it.0, f (state_in left) it.1)

pub either : (a b t : machine.State) (Q : machine.State → Type 0) → ((t : machine.State) → t ≡ a → Q t) → ((t : machine.State) → t ≡ b → Q t)
    → (t ≡ a) ⊎ (t ≡ b) → Q t
either a b t Q f g (inl e) = f t e
either a b t Q f g (inr e) = g t e

-- ---- the open run

abbrev pub at : Progress → OpenRun
at run = record { month = run.month; done = run.done }

-- so many batches more are posted than in the tables before
pub record Along (old now : State) (run : Progress) (n : ℕ) : Type 0 where
  pub was_clean : doubt old.is_clean ≤ doubt now.is_clean
  pub ready : HasCleanDisk now → IsReady now
  pub shown : HasCleanDisk now → (tables old).open_run ≡ Some (at run)
  pub counted : HasCleanDisk now → run.of ≡ all_of (tables old) run.month
  pub stands : HasCleanDisk now → Stands (at run) (tables old) n (tables now)

module _ (old : State) (run : Progress) (now : State) (n : ℕ) (h : Along old now run n) where
  -- as the tables stand, they are a `post` that was interrupted
  pub rests : (most : ℕ) → n ≤ most → Settles now → Stays now → HasCleanDisk now → Leaves now (IsPostedInPart most (tables old))
  rests most few settles stays clean =
      leaves_these now (IsPostedInPart most (tables old)) (ready_leaves now settles stays (h.ready clean))
      (posted_in_part (at run) (tables old) n (tables now) (h.stands clean) most (h.shown clean) few)

  -- none is left
  full : run.of - run.done ≤ n → (clean : HasCleanDisk now) → run.done + n ≡ all_of (tables old) run.month
  full all clean =
      let fits = within (at run) (tables old) n (tables now) (h.stands clean) in
      omega (arith, fits, all, h.counted clean)

  pub ends : run.of - run.done ≤ n → HasCleanDisk now → IsAtItsEnd (tables now).books (tables now).open_run
  ends all clean = at_its_end (at run) (tables old) n (tables now) (h.stands clean) (full all clean)

  -- and the open run shows it
  pub ends_at : run.of - run.done ≤ n → HasCleanDisk now
      → (tables now).open_run ≡ Some (record { month = run.month; done = batches batch_size (tables now).books run.month })
  ends_at all clean =
      let is = (h.stands clean).is in
      let done : run.done + n ≡ batches batch_size (tables now).books run.month =
      subst (λ (it : Option OpenRun). IsAtItsEnd (tables now).books it) is (ends all clean) in
      is ∙ ap (λ (m : ℕ). Some (record { month = run.month; done = m })) done
