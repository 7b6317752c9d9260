-- Commands that were interrupted and yet carried out.
use Rattle.std.proofs.Common.{◌≡◌, ◌∙◌, refl, sym, ap, subst, ℕ, ◌+◌, ◌≤◌, false, Option, Some, None}
use Rattle.std.proofs.lemmas.Bool.{false≢true}
use Rattle.dh_types.specs.declared.command.Command.{Command}
use Rattle.dh_types.specs.declared.command.Command.TheVariants as command
use Rattle.dh_types.specs.declared.command.RunOrder.{RunOrder}
use Rattle.dh_types.specs.declared.reply.Reply.{Reply}
use Rattle.dh_model.specs.declared.open_run.OpenRun.{OpenRun}
use Rattle.dh_model.specs.declared.rows.Change.{Change}
use Rattle.dh_model.specs.declared.rows.Change.TheVariants as change
use Rattle.dh_model.specs.declared.rows.Verdict.{Verdict}
use Rattle.dh_model.specs.declared.rows.Verdict.TheVariants as verdict
use Rattle.dh_model.specs.Books.{State}
use Rattle.dh_model.specs.Machine.{settled, step}
use Rattle.dh_model.specs.Runs.{batch_size, batches, ran}
use Rattle.dh_model.specs.Verdicts.{opened_run, run_verdict, verdict_on}
use Rattle.dh_model.specs.Whole.{whole}
use Rattle.dh_laws.specs.InOrder.{IsInOrder}
use Rattle.dh_laws.specs.Events.{IsOfMonth, RunIfDone, state_of}
use Rattle.dh_laws.specs.StateTables.{as_tables}
use Rattle.dh_laws.specs.Telling.{IsCutDone, IsTold, Stands, StandsAt, begun, is_run}
use Rattle.dh_laws.proofs.BatchLemmas.Moving.{batches_of_whole}
use Rattle.dh_laws.proofs.CommandLemmas.Runs.{at_most, at_most_all, begun_is, none_in_order, opened_whole, opening_judged, opening_verdict}
use Rattle.dh_laws.proofs.CommandLemmas.Whole.{shows_none, whole_itself}

module _ (size : ℕ) where
  run_done : (s : State) (told : Command) (v : Verdict) (after : Option OpenRun) → after ≡ (settled size s told v).0.open_run
      → after ≡ (step size s told).0.open_run → RunIfDone size s told v after
  run_done s (command.Run order) (verdict.Change (change.Open row)) after is same = subst (λ run. IsOfMonth size s.books row.month run) (sym is) tt
  run_done s _ _ after is same = same

  -- what an answered command leaves, an interrupted one may leave
  pub told_done : (before after : State) (told : Command) (reply : Reply) → IsTold size told reply before after → IsCutDone size told before after
  told_done before after told reply h =
      let s = state_of size (as_tables before) in
      let left : after.open_run ≡ (step size s told).0.open_run = ap (λ (m : State × Reply). m.0.open_run) (sym h.0) in (
        record {
          books = ap (λ (m : State × Reply). m.0.books) (sym h.0);
          run = run_done s told (verdict_on (whole size before.books) before.open_run told) after.open_run left left;
        },
        h.1,
      )

  -- a run that was accepted may stand at any batch
  pub standing_done : (before opened after : State) (order : RunOrder) (rows : Change) (count : ℕ) → 1 ≤ size → before.open_run ≡ None
      → IsInOrder size before.books before.open_run → run_verdict before.books order ≡ verdict.Change rows → opened ≡ begun order rows before
      → IsInOrder size after.books after.open_run → whole size after.books ≡ whole size opened.books
      → after.open_run ≡ Some (record { month = order.month; done = at_most (batches size (whole size opened.books) order.month) (0 + count) })
      → IsCutDone size (command.Run order) before after
  standing_done before opened after order rows count pos none in_order h is ordered same stands =
      let row = opened_run before.books order in
      let itself = whole_itself size before.books (shows_none size before none in_order) in
      let s = state_of size (as_tables before) in
      let accepted = opening_verdict size before order pos none in_order rows h in
      let judged : verdict_on (whole size before.books) before.open_run (command.Run order) ≡ verdict.Change (change.Open row) =
      opening_judged size before order pos none in_order ∙ accepted in
      let at : opened ≡ begun order (change.Open row) before = is ∙ begun_is size before order pos none in_order rows h in
      let made = opened_whole size before.books order pos (none_in_order size before order pos none in_order) accepted in
      let all : batches size (whole size opened.books) order.month ≡ batches size (whole size before.books) order.month =
      batches_of_whole size opened.books order.month ∙ ap (λ (o : State). batches size o.books order.month) at
      ∙ sym (batches_of_whole size before.books order.month) in
      let few = subst (λ n. at_most (batches size (whole size opened.books) order.month) (0 + count) ≤ n) all
      (at_most_all (batches size (whole size opened.books) order.month) (0 + count)) in
      let of_month : IsOfMonth size (whole size before.books) row.month after.open_run =
      subst (λ run. IsOfMonth size (whole size before.books) row.month run) (sym stands) (refl, few) in (
        record {
          books = same ∙ ap (λ (o : State). whole size o.books) at ∙ made ∙ ap (λ b. ran size b order.key) (sym itself)
              ∙ sym (ap (λ v. (settled size s (command.Run order) v).0.books) judged);
          run = subst (λ v. RunIfDone size s (command.Run order) v after.open_run) (sym judged) of_month;
        },
        ordered,
      )

-- no other command than a run stands anywhere
pub other_stands : (before after : State) (told : Command) (count : ℕ) → is_run told ≡ false → Stands before (Some count) told after
other_stands before after (command.Run order) count h = absurd (false≢true (sym h))
other_stands before after _ count h = tt

-- a run stands as the verdict on it says
pub judged_stands : (before after : State) (order : RunOrder) (count : ℕ) → before.open_run ≡ None → StandsAt order count (run_verdict before.books order) after
    → Stands before (Some count) (command.Run order) after
judged_stands before after order count none h =
    subst (λ (o : Option OpenRun). StandsAt order count (verdict_on before.books o (command.Run order)) after) (sym none) h

-- what was answered stands where the machine does
pub told_stands : (before after : State) (told : Command) (reply : Reply) → IsTold batch_size told reply before after → Stands before None told after
told_stands before after told reply h = ap (λ (m : State × Reply). m.0.open_run) (sym h.0)
