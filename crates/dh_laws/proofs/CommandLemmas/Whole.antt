-- Commands that are told over tables without an open run.
use Rattle.std.proofs.Common.{◌≡◌, ◌∙◌, refl, sym, ap, subst, ℕ, ◌≤◌, false, None}
use Rattle.std.specs.FinMap.{values}
use Rattle.dh_types.specs.declared.command.Command.{Command}
use Rattle.dh_types.specs.declared.command.Command.TheVariants as command
use Rattle.dh_types.specs.declared.reply.Reply.{Reply}
use Rattle.dh_model.specs.declared.rows.Change.{Change}
use Rattle.dh_model.specs.declared.rows.Change.TheVariants as change
use Rattle.dh_model.specs.declared.rows.Verdict.{Verdict}
use Rattle.dh_model.specs.declared.rows.Verdict.TheVariants as verdict
use Rattle.dh_model.specs.Books.{Books, State}
use Rattle.dh_model.specs.Machine.{carried_out, resumed, settled, step}
use Rattle.dh_model.specs.Rules.{IsLawful}
use Rattle.dh_model.specs.Verdicts.{verdict_on}
use Rattle.dh_model.specs.Whole.{IsOpenAt, completed, open_row, whole}
use Rattle.dh_model.proofs.Among.{is_among}
use Rattle.dh_laws.specs.InOrder.{AreKeyed, IsEntered, IsInOrder}
use Rattle.dh_laws.proofs.InvariantLemmas.Order.{changes_keep_order}
use Rattle.dh_laws.proofs.MonthLemmas.Shown.{none_open}
use Rattle.dh_laws.proofs.MonthLemmas.Steps.{steps_keep}
use Rattle.dh_laws.proofs.MonthLemmas.Whole.{lawful_closed, whole_is_lawful}
use Rattle.dh_laws.proofs.BatchLemmas.Opening.{run_is_opening_made_whole}
use Rattle.dh_laws.specs.Events.{state_of}
use Rattle.dh_laws.specs.StateTables.{as_tables}
use Rattle.dh_laws.specs.Telling.{IsTold, is_opening}

module _ (size : ℕ) where
  -- books that show no open run are their own whole
  pub whole_itself : (books : Books) → open_row books ≡ None → whole size books ≡ books
  whole_itself books none = ap (completed size books) none

  pub shows_none : (s : State) → s.open_run ≡ None → IsInOrder size s.books s.open_run → open_row s.books ≡ None
  shows_none s none in_order = subst (λ run. IsOpenAt size s.books run) none in_order.shown

  -- the machine stands where such tables are
  pub own_state : (s : State) → open_row s.books ≡ None → state_of size (as_tables s) ≡ s
  own_state s none = ap (λ (b : Books). record { books = b; open_run = s.open_run }) (whole_itself s.books none)

  -- only an opening leaves a run open
  carried_closed : (s : State) (told : Command) (rows : Change) → s.open_run ≡ None → is_opening told ≡ false → (carried_out size s told rows).0.open_run ≡ None
  carried_closed s (command.Run order) (change.Open row) none other = refl
  carried_closed s (command.Open order) rows none other = cc
  carried_closed s (command.Post count) change.Post none other = ap (λ run. (resumed size s.books count run).0.open_run) none
  carried_closed s _ rows none other = none

  settled_closed : (s : State) (told : Command) (v : Verdict) → s.open_run ≡ None → is_opening told ≡ false → (settled size s told v).0.open_run ≡ None
  settled_closed s told (verdict.Change rows) none other = carried_closed s told rows none other
  settled_closed s told (verdict.Already kept) none other = none
  settled_closed s told (verdict.Refused why) none other = none

  abbrev Law : State × Reply → Type 0
  Law made = AreKeyed made.0.books × IsLawful made.0.books size

  -- a step of the machine, other than an opening
  pub stepped_told : (before after : State) (told : Command) (reply : Reply) → 1 ≤ size → before.open_run ≡ None → is_opening told ≡ false
      → IsInOrder size before.books before.open_run → IsEntered told → (after, reply) ≡ step size before told → IsTold size told reply before after
  stepped_told before after told reply pos none other in_order entered is =
      let shown = shows_none before none in_order in
      let lawful = lawful_closed size before.books pos in_order.keyed in_order.rules shown in
      let law = subst Law (sym is)
      (steps_keep size (changes_keep_order size) (whole_is_lawful size) (run_is_opening_made_whole size) before told pos in_order.keyed lawful entered) in
      let closed : open_row after.books ≡ None = none_open after.books (λ run a. law.1.closed run (is_among (values after.books.runs) run a)) in
      let left : after.open_run ≡ None =
      ap (λ (made : State × Reply). made.0.open_run) is ∙ settled_closed before told (verdict_on before.books before.open_run told) none other in (
        ap (λ (s : State). step size s told) (own_state before shown) ∙ sym is ∙ ap (λ (s : State). (s, reply)) (sym (own_state after closed)),
        record { keyed = law.0; rules = law.1.rules; shown = subst (λ run. IsOpenAt size after.books run) (sym left) closed },
      )
