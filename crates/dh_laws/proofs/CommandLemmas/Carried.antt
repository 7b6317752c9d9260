-- What a command leaves, answered or interrupted, from what the transactions leave.
use Rattle.std.proofs.Common.{◌≡◌, ◌∙◌, refl, sym, ap, subst, inl, inr, ℕ, ◌+◌, ◌≤◌, Bool, true, false, nat_le, if◌then◌else◌, Option, Some, None, arith}
use Rattle.std.proofs.lemmas.Bool.{false≢true}
use Rattle.std.specs.FinMap.{get}
use Rattle.std.specs.Option.{IsSome}
use Rattle.dh_types.specs.declared.command.Command.{Command}
use Rattle.dh_types.specs.declared.command.Command.TheVariants as command
use Rattle.dh_types.specs.declared.command.RunOrder.{RunOrder}
use Rattle.dh_types.specs.declared.run.RunSum.{RunSum}
use Rattle.dh_types.specs.declared.reply.Reply.{Reply}
use Rattle.dh_types.specs.declared.reply.Reply.TheVariants as reply
use Rattle.dh_types.specs.declared.reply.Refusal.{Refusal}
use Rattle.dh_model.specs.declared.open_run.OpenRun.{OpenRun}
use Rattle.dh_model.specs.declared.rows.Change.{Change}
use Rattle.dh_model.specs.declared.rows.Change.TheVariants as change
use Rattle.dh_model.specs.declared.rows.Verdict.TheVariants as verdict
use Rattle.dh_model.specs.Books.{Books, State}
use Rattle.dh_model.specs.Machine.{accepted, changed, posted, posted_sum, settled}
use Rattle.dh_model.specs.MachineLaws.{is_post}
use Rattle.dh_model.specs.Runs.{batch_size, batches, ran}
use Rattle.dh_model.specs.Verdicts.{opened_run, run_verdict, verdict_on}
use Rattle.dh_model.specs.Whole.{whole}
use Rattle.dh_laws.specs.InOrder.{IsEntered, IsInOrder, run_after}
use Rattle.dh_laws.proofs.InvariantLemmas.Order.{changes_keep_order}
use Rattle.dh_laws.proofs.VerdictLemmas.Cases.{case_of, run_stays}
use Rattle.dh_laws.specs.Events.{Interrupted, Happens, IsFurtherBy, IsMovedBy, IsMovedOn, IsOfMonth}
use Rattle.dh_laws.specs.Events.{RunIfDone, RunIfUndone, Answered, RecoveryInterrupted, state_of}
use Rattle.dh_laws.specs.StateTables.{IsStateInOrder, as_tables}
use Rattle.dh_laws.specs.Telling.{IsTold, begun, is_opening}
use Rattle.dh_laws.specs.Batches.{IsPostedInPart, is_plain}
use Rattle.dh_laws.proofs.CommandLemmas.Cuts.{told_done}
use Rattle.dh_laws.proofs.CommandLemmas.Meanwhile.{judged_whole, plain_carried, rows_told}
use Rattle.dh_laws.proofs.BatchLemmas.Moving.{batches_of_whole}
use Rattle.dh_laws.proofs.CommandLemmas.Runs.{none_in_order, opened_whole, opening_judged, opening_told}
use Rattle.dh_laws.proofs.CommandLemmas.Whole.{shows_none, stepped_told, whole_itself}

-- ---- any command

-- a command that was interrupted before anything was written
run_kept : (books : Books) (told : Command) (run : Option OpenRun) → RunIfUndone batch_size books told run run
run_kept books (command.Post count) run = inl refl
run_kept books _ run = refl

pub same_cut : (told : Command) (s t : State) → t ≡ s → Happens batch_size (Interrupted told) (as_tables s) (as_tables t)
same_cut told s t is =
    subst (λ (it : State). Happens batch_size (Interrupted told) (as_tables s) (as_tables it)) (sym is)
    (inl (record { books = refl; run = run_kept (whole batch_size s.books) told s.open_run }))

-- what an answer leaves, a cut may leave
pub said_cut : (told : Command) (reply : Reply) (s t : State) → IsStateInOrder t → Happens batch_size (Answered told reply) (as_tables s) (as_tables t)
    → Happens batch_size (Interrupted told) (as_tables s) (as_tables t)
said_cut told reply s t order said = inr (told_done batch_size s t told reply (said, order)).0

-- ---- recoveries

moved_on : (books : Books) (most : ℕ) (before after : Option OpenRun) → IsMovedBy batch_size books most before after → IsMovedOn batch_size books before after
moved_on books most before after (inl same) = inl same
moved_on books most before None (inr (run, is, by)) = inr (run, is, tt)
moved_on books most before (Some at) (inr (run, is, by)) = inr (run, is, by.0)

pub part_is_mid_recovery : (most : ℕ) (s t : State) → IsPostedInPart most s t → Happens batch_size RecoveryInterrupted (as_tables s) (as_tables t)
part_is_mid_recovery most s t h = record { books = h.books; run = moved_on (whole batch_size s.books) most s.open_run t.open_run h.run }

-- what a `post` answers that closed the run
abbrev ended : Books → OpenRun → State × Reply
ended books run = (record { books = books; open_run = None }, reply.Posted (posted_sum run.month (get books.runs run.month)))

abbrev going : Books → ℕ → OpenRun → State × Reply
going books count run = (
  record { books = books; open_run = Some (record { month = run.month; done = run.done + count }) },
  reply.Progress (record { month = run.month; done = run.done + count; of = batches batch_size books run.month }),
)

posted_ends : (books : Books) (count : ℕ) (run : OpenRun) (left : State) (sum : RunSum) → posted batch_size books count run ≡ (left, reply.Posted sum)
    → posted batch_size books count run ≡ ended books run
posted_ends books count run left sum h = by (nat_le (batches batch_size books run.month) (run.done + count)) refl
  where
    by : (b : Bool) → nat_le (batches batch_size books run.month) (run.done + count) ≡ b → posted batch_size books count run ≡ ended books run
    by true e = ap (λ (b : Bool). if b then ended books run else going books count run) e
    by false e =
        let other : going books count run ≡ (left, reply.Posted sum) = sym (ap (λ (b : Bool). if b then ended books run else going books count run) e) ∙ h in
        let replies : (going books count run).1 ≡ reply.Posted sum = ap (λ (m : State × Reply). m.1) other in
        absurd (cc)

-- ---- openings, and runs

module _ (s : State) (order : RunOrder) (none : s.open_run ≡ None) (in_order : IsStateInOrder s)
    (h : run_verdict s.books order ≡ verdict.Change (change.Open (opened_run s.books order))) where
  abbrev opened : State
  opened = begun order (change.Open (opened_run s.books order)) s

  pub opening_said : (t : State) → t ≡ opened → Happens batch_size (Answered (command.Open order) (reply.Opened order.month)) (as_tables s) (as_tables t)
  opening_said t is =
      subst (λ (it : State). Happens batch_size (Answered (command.Open order) (reply.Opened order.month)) (as_tables s) (as_tables it)) (sym is)
      (opening_told batch_size s order (omega arith) none in_order (change.Open (opened_run s.books order)) h).0

  pub opened_in_order : IsStateInOrder opened
  opened_in_order = (opening_told batch_size s order (omega arith) none in_order (change.Open (opened_run s.books order)) h).1

  pub opening_cut : (t : State) → t ≡ opened → Happens batch_size (Interrupted (command.Open order)) (as_tables s) (as_tables t)
  opening_cut t is = said_cut (command.Open order) (reply.Opened order.month) s t (subst (λ (it : State). IsStateInOrder it) (sym is) opened_in_order)
      (opening_said t is)

  made : whole batch_size opened.books ≡ ran batch_size s.books order.key
  made = opened_whole batch_size s.books order (omega arith) (none_in_order batch_size s order (omega arith) none in_order) h

  itself : whole batch_size s.books ≡ s.books
  itself = whole_itself batch_size s.books (shows_none batch_size s none in_order)

  judged : verdict_on (whole batch_size s.books) s.open_run (command.Run order) ≡ verdict.Change (change.Open (opened_run s.books order))
  judged = opening_judged batch_size s order (omega arith) none in_order ∙ h

  abbrev all : ℕ
  all = batches batch_size (whole batch_size s.books) order.month

  alike : batches batch_size (whole batch_size opened.books) order.month ≡ all
  alike = batches_of_whole batch_size opened.books order.month ∙ sym (batches_of_whole batch_size s.books order.month)

  of_month : (most : ℕ) (run : OpenRun) (after : Option OpenRun) → run ≡ record { month = order.month; done = 0 }
      → IsFurtherBy batch_size (whole batch_size opened.books) most run after
      → IsOfMonth batch_size (whole batch_size s.books) order.month after
  of_month most run None is by = tt
  of_month most run (Some at) is by =
      let month : run.month ≡ order.month = ap (λ (it : OpenRun). it.month) is in
      let few : at.done ≤ batches batch_size (whole batch_size opened.books) order.month =
      subst (λ m. at.done ≤ batches batch_size (whole batch_size opened.books) m) month by.0.2 in
      let same = alike in
      (by.0.0 ∙ month, omega (arith, few, same))

  stands : (most : ℕ) (after : Option OpenRun)
      → IsMovedBy batch_size (whole batch_size opened.books) most (Some (record { month = order.month; done = 0 })) after
      → IsOfMonth batch_size (whole batch_size s.books) order.month after
  stands most after (inl same) = subst (λ it. IsOfMonth batch_size (whole batch_size s.books) order.month it) (sym same) (refl, omega arith)
  stands most after (inr (run, is, by)) = of_month most run after (let back : run ≡ record { month = order.month; done = 0 } = cc in back) by

  -- a run that was opened, and posted in part, was carried out
  pub run_cut : (most : ℕ) (o t : State) → o ≡ opened → IsPostedInPart most o t
      → Happens batch_size (Interrupted (command.Run order)) (as_tables s) (as_tables t)
  run_cut most o t is part =
      let it = subst (λ (o : State). IsPostedInPart most o t) is part in
      let now = state_of batch_size (as_tables s) in
      inr (record {
        books = it.books ∙ made ∙ ap (λ b. ran batch_size b order.key) (sym itself)
            ∙ sym (ap (λ v. (settled batch_size now (command.Run order) v).0.books) judged);
        run = subst (λ v. RunIfDone batch_size now (command.Run order) v t.open_run) (sym judged) (stands most t.open_run it.run);
      })

  -- and where all was posted, it was answered so
  pub run_said : (most : ℕ) (sum : RunSum) (o t : State) → o ≡ opened
      → Happens batch_size (Answered (command.Post most) (reply.Posted sum)) (as_tables o) (as_tables t)
      → Happens batch_size (Answered (command.Run order) (reply.Posted sum)) (as_tables s) (as_tables t)
  run_said most sum o t is said =
      let run : OpenRun = record { month = order.month; done = 0 } in
      let at = subst (λ (o : State). Happens batch_size (Answered (command.Post most) (reply.Posted sum)) (as_tables o) (as_tables t)) is said in
      let ends = posted_ends (whole batch_size opened.books) most run (state_of batch_size (as_tables t)) sum at in
      ap (settled batch_size (state_of batch_size (as_tables s)) (command.Run order)) judged
      ∙ ap (λ b. ended (ran batch_size b order.key) run) itself
      ∙ ap (λ b. ended b run) (sym made) ∙ sym ends ∙ at

-- ---- other commands

not_opening : (books : Books) (run : Option OpenRun) (told : Command) (rows : Change) → verdict_on books run told ≡ verdict.Change rows → is_plain rows ≡ true
    → is_opening told ≡ false
not_opening books run (command.Open order) rows h plain = absurd (false≢true (sym (ap is_plain (case_of books run rows (command.Open order) h).0) ∙ plain))
not_opening books run _ rows h plain = refl

not_post : (books : Books) (run : Option OpenRun) (told : Command) (rows : Change) → verdict_on books run told ≡ verdict.Change rows → is_plain rows ≡ true
    → is_post told ≡ false
not_post books None (command.Post count) rows h plain = cc
not_post books (Some at) (command.Post count) rows h plain = let is : change.Post ≡ rows = cc in absurd (false≢true (ap is_plain is ∙ plain))
not_post books run _ rows h plain = refl

module _ (s : State) (told : Command) (rows : Change) (in_order : IsStateInOrder s) (entered : IsEntered told)
    (h : verdict_on s.books s.open_run told ≡ verdict.Change rows) where
  abbrev after : State
  after = record { books = changed rows s.books; open_run = run_after s.open_run rows }

  pub rows_in_order : IsStateInOrder after
  rows_in_order = changes_keep_order batch_size s.books s.open_run told rows (omega arith) in_order entered h

  module _ (plain : is_plain rows ≡ true) where
    stays : after ≡ record s { books = changed rows s.books }
    stays = ap (λ run. record s { books = changed rows s.books; open_run = run }) (run_stays s.open_run rows plain)

    said_of : (run : Option OpenRun) → s.open_run ≡ run → IsTold batch_size told (accepted rows) s (record s { books = changed rows s.books })
    said_of None is =
        stepped_told batch_size s (record s { books = changed rows s.books }) told (accepted rows) (omega arith) is
        (not_opening s.books s.open_run told rows h plain) in_order entered
        (sym (ap (settled batch_size s told) h ∙ plain_carried batch_size s told rows plain))
    said_of (Some at) is =
        rows_told batch_size s (record s { books = changed rows s.books }) told rows (accepted rows) (omega arith) (subst IsSome (sym is) refl)
        (not_post s.books s.open_run told rows h plain)
        in_order entered h refl refl

    pub rows_said : (reply : Reply) (t : State) → reply ≡ accepted rows → t ≡ after → Happens batch_size (Answered told reply) (as_tables s) (as_tables t)
    rows_said reply t answered is =
        subst (λ r. Happens batch_size (Answered told r) (as_tables s) (as_tables t)) (sym answered)
        (subst (λ (it : State). Happens batch_size (Answered told (accepted rows)) (as_tables s) (as_tables it)) (sym (is ∙ stays)) (said_of s.open_run refl).0)

    pub rows_cut : (t : State) → t ≡ after → Happens batch_size (Interrupted told) (as_tables s) (as_tables t)
    rows_cut t is = said_cut told (accepted rows) s t (subst (λ (it : State). IsStateInOrder it) (sym is) rows_in_order) (rows_said (accepted rows) t refl is)

-- ---- what changes nothing

-- each command is judged as over the whole books
judged_alike : (s : State) (told : Command) (run : Option OpenRun) → s.open_run ≡ run → IsStateInOrder s
    → verdict_on (whole batch_size s.books) s.open_run told ≡ verdict_on s.books s.open_run told
judged_alike s told None is in_order = ap (λ b. verdict_on b s.open_run told) (whole_itself batch_size s.books (shows_none batch_size s is in_order))
judged_alike s told (Some at) is in_order =
    let here : IsInOrder batch_size s.books (Some at) = subst (λ it. IsInOrder batch_size s.books it) is in_order in
    subst (λ it. verdict_on (whole batch_size s.books) it told ≡ verdict_on s.books it told) (sym is)
    (judged_whole batch_size s.books at (omega arith) here told)

pub refused_said : (s t : State) (told : Command) (why : Refusal) → IsStateInOrder s → verdict_on s.books s.open_run told ≡ verdict.Refused why → t ≡ s
    → Happens batch_size (Answered told (reply.Refused why)) (as_tables s) (as_tables t)
refused_said s t told why in_order h is =
    ap (settled batch_size (state_of batch_size (as_tables s)) told) (judged_alike s told s.open_run refl in_order ∙ h)
    ∙ ap (λ (it : State). (state_of batch_size (as_tables it), reply.Refused why)) (sym is)

-- ---- which rows are accepted

pub order_accepted : (books : Books) (run : Option OpenRun) (order : RunOrder) (rows : Change) → verdict_on books run (command.Open order) ≡ verdict.Change rows
    → (run ≡ None) × (run_verdict books order ≡ verdict.Change (change.Open (opened_run books order)))
order_accepted books (Some at) order rows h = absurd (cc)
order_accepted books None order rows h = (refl, h ∙ ap (λ it. verdict.Change it) (case_of books None rows (command.Open order) h).0)
