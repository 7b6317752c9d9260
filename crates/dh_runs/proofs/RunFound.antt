-- Where a run is open, batches are posted: the answer is never that none is.
use Rattle.std.proofs.Common.{◌≡◌, ◌∙◌, sym, ap, subst, ℕ, ◌+◌, Bool, true, false, nat_le, if◌then◌else◌, Option, Some, None, refl}
use Rattle.std.specs.FinMap.{get}
use Rattle.dh_types.specs.declared.command.Command.TheVariants as command
use Rattle.dh_types.specs.declared.reply.Reply.{Reply}
use Rattle.dh_types.specs.declared.reply.Reply.TheVariants as reply
use Rattle.dh_types.specs.declared.reply.Refusal.TheVariants as refusal
use Rattle.dh_model.specs.declared.open_run.OpenRun.{OpenRun}
use Rattle.dh_model.specs.Books.{Books, State}
use Rattle.dh_model.specs.Machine.{posted_sum, step}
use Rattle.dh_model.specs.Runs.{batch_size, batches}
use Rattle.dh_model.specs.Whole.{whole}
use Rattle.dh_laws.specs.Events.{state_of}
use Rattle.dh_laws.specs.StateTables.{as_tables}
use Rattle.dh_runs.specs.declared.batches.RunState.{RunState}
use Rattle.dh_runs.specs.declared.batches.RunState.TheVariants as run
use Rattle.dh_runs.specs.Outcomes.{IsAnsweredBy, reply_of}

abbrev ended : Books → OpenRun → State × Reply
ended books at = (record { books = books; open_run = None }, reply.Posted (posted_sum at.month (get books.runs at.month)))

abbrev going : Books → ℕ → OpenRun → State × Reply
going books most at = (
  record { books = books; open_run = Some (record { month = at.month; done = at.done + most }) },
  reply.Progress (record { month = at.month; done = at.done + most; of = batches batch_size books at.month }),
)

-- no such answer is that no run is open
posted_run : (books : Books) (most : ℕ) (at : OpenRun) (left : State)
    → step batch_size (record { books = books; open_run = Some at }) (command.Post most) ≡ (left, reply.Refused refusal.NoRun) → ⊥
posted_run books most at left h = by (nat_le (batches batch_size books at.month) (at.done + most)) refl
  where
    by : (b : Bool) → nat_le (batches batch_size books at.month) (at.done + most) ≡ b → ⊥
    by true e = let replies : (ended books at).1 ≡ reply.Refused refusal.NoRun =
        ap (λ (m : State × Reply). m.1) (sym (ap (λ (b : Bool). if b then ended books at else going books most at) e) ∙ h) in absurd (cc)
    by false e = let replies : (going books most at).1 ≡ reply.Refused refusal.NoRun =
        ap (λ (m : State × Reply). m.1) (sym (ap (λ (b : Bool). if b then ended books at else going books most at) e) ∙ h) in absurd (cc)

pub run_is_found : (most : ℕ) (s t : State) (at : OpenRun) (it : RunState) → s.open_run ≡ Some at → it ≡ run.NoRun
    → IsAnsweredBy (command.Post most) (reply_of it) s t → ⊥
run_is_found most s t at it is none said =
    let told : IsAnsweredBy (command.Post most) (reply.Refused refusal.NoRun) s t =
    subst (λ (r : RunState). IsAnsweredBy (command.Post most) (reply_of r) s t) none said in
    posted_run (whole batch_size s.books) most at (state_of batch_size (as_tables t))
    (subst (λ (o : Option OpenRun). step batch_size (record { books = whole batch_size s.books; open_run = o }) (command.Post most)
    ≡ (state_of batch_size (as_tables t), reply.Refused refusal.NoRun)) is told)
