-- What a run leaves at an exit, from what its transactions leave.
use Rattle.std.proofs.Common.{◌≡◌, ◌∙◌, ◌⊎◌, inl, inr, refl, sym, ap, subst, ℕ, None, OnErr, Option, Result, Ok, Err, Some}
use Rattle.sqlite.specs.State.{State}
use Rattle.dh_types.specs.declared.command.Command.TheVariants as command
use Rattle.dh_types.specs.declared.command.RunOrder.{RunOrder}
use Rattle.dh_types.specs.declared.reply.Reply.TheVariants as reply
use Rattle.dh_types.specs.declared.run.RunSum.{RunSum}
use Rattle.dh_model.specs.Books as machine
use Rattle.dh_model.specs.declared.open_run.OpenRun.{OpenRun}
use Rattle.dh_model.specs.Runs.{batch_size}
use Rattle.dh_model.specs.declared.rows.Change.{Change}
use Rattle.dh_model.specs.declared.rows.Change.TheVariants as change
use Rattle.dh_model.specs.declared.rows.Verdict.TheVariants as verdict
use Rattle.dh_model.specs.Verdicts.{opened_run, run_verdict, verdict_on}
use Rattle.dh_model.specs.Whole.{whole}
use Rattle.dh_laws.specs.Batches.{IsPostedInPart}
use Rattle.dh_laws.specs.Events.{IsMovedBy, IsMovedOn}
use Rattle.dh_laws.specs.StateTables.{IsStateInOrder, as_tables}
use Rattle.dh_laws.specs.Telling.{begun}
use Rattle.dh_laws.proofs.CommandLemmas.Carried.{opened_in_order, order_accepted, run_cut, run_said, same_cut}
use Rattle.dh_laws.proofs.StandingLemmas.Batches.{same_in_part}
use Rattle.dh_schema.specs.Changes.{HasPlace}
use Rattle.dh_schema.specs.Store.{Leaves, with_change}
use Rattle.dh_runs.specs.declared.batches.RunState.{RunState}
use Rattle.dh_runs.specs.declared.batches.RunState.TheVariants as run
use Rattle.dh_runs.specs.Outcomes.{IsInterrupted, IsAnsweredBy, IsMidRecovery, reply_of}
use Rattle.dh_runs.proofs.Along.{either, leaves_weaker}

pub on_err : {A E P : Type 0} (r : Result A E) → P → OnErr r P
on_err (Ok a) p = tt
on_err (Err e) p = p

moved_on : (books : machine.Books) (most : ℕ) (before after : Option OpenRun) → IsMovedBy batch_size books most before after
    → IsMovedOn batch_size books before after
moved_on books most before after (inl same) = inl same
moved_on books most before None (inr (at, is, more)) = inr (at, is, tt)
moved_on books most before (Some after) (inr (at, is, more)) = inr (at, is, more.0)

-- a `post` that was interrupted is a recovery that was
pub mid_of_part : (most : ℕ) (s t : machine.State) → IsPostedInPart most s t → IsMidRecovery s t
mid_of_part most s t part = record { books = part.books; run = moved_on (whole batch_size (as_tables s).books) most _ _ part.run }

-- ---- an opening

-- an `open` is accepted where no run is open
pub open_is_accepted : (books : machine.Books) (run : Option OpenRun) (order : RunOrder) (rows : Change)
    → verdict_on books run (command.Open order) ≡ verdict.Change rows → (run ≡ None) × (run_verdict books order ≡ verdict.Change rows)
open_is_accepted books (Some at) order rows h = absurd (cc)
open_is_accepted books None order rows h = (refl, h)

module _ (order : RunOrder) (rows : Change) (s : machine.State) (h : run_verdict s.books order ≡ verdict.Change rows) where
  -- what is accepted of it is the row of its run
  its_row : rows ≡ change.Open (opened_run s.books order)
  its_row =
      let same : verdict.Change rows ≡ verdict.Change (change.Open (opened_run s.books order)) = sym h ∙ (order_accepted s.books None order rows h).1 in
      cc

  pub opening_accepted : run_verdict s.books order ≡ verdict.Change (change.Open (opened_run s.books order))
  opening_accepted = h ∙ ap (λ (it : Change). verdict.Change it) its_row

  -- and no batch of this is done
  pub begins : with_change rows s ≡ begun order (change.Open (opened_run s.books order)) s
  begins = ap (λ (it : Change). with_change it s) its_row

  pub opening_has_place : HasPlace s.books.version rows
  opening_has_place = subst (HasPlace s.books.version) (sym its_row) tt

  module _ (none : s.open_run ≡ None) (in_order : IsStateInOrder s) where
    pub opening_in_order : IsStateInOrder (with_change rows s)
    opening_in_order = subst IsStateInOrder (sym begins) (opened_in_order s order none in_order opening_accepted)

    -- a run that was opened, and posted in part
    pub posting_cut : (most : ℕ) (o t : machine.State) → o ≡ with_change rows s → IsPostedInPart most o t → IsInterrupted (command.Run order) s t
    posting_cut most o t is part = run_cut s order none in_order opening_accepted most o t (is ∙ begins) part

    -- a crash within the opening
    pub opening_crash : (new : State) → Leaves new (λ t. (t ≡ s) ⊎ (t ≡ with_change rows s)) → Leaves new (IsInterrupted (command.Run order) s)
    opening_crash new left =
        leaves_weaker new _ (IsInterrupted (command.Run order) s) (λ t. either s (with_change rows s) t (IsInterrupted (command.Run order) s)
        (λ t is. same_cut (command.Run order) s t is)
        (λ t is. posting_cut 0 (with_change rows s) t refl (same_in_part 0 (with_change rows s) t is)))
        left

    -- and within the batches
    pub posting_crash : (most : ℕ) (o : machine.State) (new : State) → o ≡ with_change rows s → Leaves new (IsPostedInPart most o)
        → Leaves new (IsInterrupted (command.Run order) s)
    posting_crash most o new is left =
        leaves_weaker new (IsPostedInPart most o) (IsInterrupted (command.Run order) s) (λ t part. posting_cut most o t is part) left

    -- all batches were posted
    pub posted_said : (most : ℕ) (it : RunState) (sum : RunSum) (o t : machine.State) → o ≡ with_change rows s → it ≡ run.Posted sum
        → IsAnsweredBy (command.Post most) (reply_of it) o t → IsAnsweredBy (command.Run order) (reply.Posted sum) s t
    posted_said most it sum o t is ends said =
        run_said s order none in_order opening_accepted most sum o t (is ∙ begins)
        (subst (λ (it : RunState). IsAnsweredBy (command.Post most) (reply_of it) o t) ends said)
