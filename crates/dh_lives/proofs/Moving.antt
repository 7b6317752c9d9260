-- What an answered command moves and keeps.
use Rattle.std.proofs.Common.{◌≡◌, ◌∙◌, refl, sym, ap, subst, ℕ, ℤ, pos, ◌+◌, ◌+ℤ◌}
use Rattle.std.proofs.Common.{Bool, true, false, nat_eq, [], ◌∷◌, Option, Some, None, if◌then◌else◌, arith}
use Rattle.std.proofs.lemmas.Bool.{false≢true}
use Rattle.std.specs.FinMap.{get, len}
use Rattle.std.specs.Option.{option_map}
use Rattle.sqlite_trees.specs.Tree.{Trees}
use Rattle.dh_types.specs.declared.fee.BranchFee.{BranchFee}
use Rattle.dh_types.specs.declared.lease.Ending.{Ending}
use Rattle.dh_types.specs.declared.lease.Receipt.{Receipt}
use Rattle.dh_types.specs.declared.run.Run.{Run}
use Rattle.dh_types.specs.declared.run.RunSum.{RunSum}
use Rattle.dh_types.specs.declared.command.Command.{Command}
use Rattle.dh_types.specs.declared.command.Command.TheVariants as command
use Rattle.dh_types.specs.declared.command.ReceiptOrder.{ReceiptOrder}
use Rattle.dh_types.specs.declared.command.RunOrder.{RunOrder}
use Rattle.dh_types.specs.declared.reply.Reply.{Reply}
use Rattle.dh_types.specs.declared.reply.Reply.TheVariants as reply
use Rattle.dh_types.specs.declared.reply.Refusal.{Refusal}
use Rattle.dh_types.specs.declared.reply.Refusal.TheVariants as refusal
use Rattle.dh_types.specs.Records.{is_same_payment}
use Rattle.dh_model.specs.declared.open_run.OpenRun.{OpenRun}
use Rattle.dh_model.specs.declared.rows.Change.{Change}
use Rattle.dh_model.specs.declared.rows.Change.TheVariants as change
use Rattle.dh_model.specs.declared.rows.Verdict.{Verdict}
use Rattle.dh_model.specs.declared.rows.Verdict.TheVariants as verdict
use Rattle.dh_model.specs.Answers.{balance}
use Rattle.dh_model.specs.Books.{Books, State}
use Rattle.dh_model.specs.Machine.{settled, step}
use Rattle.dh_model.specs.Runs.{batch_size, sum_of}
use Rattle.dh_model.specs.Rules.{IsLawful}
use Rattle.dh_model.specs.Verdicts.{Frozen, ending_rows, fee_rows, receipt_ruling, run_ruling, verdict_on}
use Rattle.dh_laws.proofs.VerdictLemmas.Rulings.{of_ruling}
use Rattle.dh_model.specs.Whole.{open_row}
use Rattle.dh_laws.specs.Balances as owed
use Rattle.dh_laws.specs.Balances.{BalancesMoveAsTold, moved}
use Rattle.dh_laws.specs.Events.{state_of}
use Rattle.dh_laws.specs.InOrder.{AreKeyed}
use Rattle.dh_laws.specs.Keeping.{StepsKeepTheLaw, WholeIsLawful}
use Rattle.dh_laws.specs.Repeating as repeated
use Rattle.dh_laws.specs.Repeating.{is_of_nothing_new, with_no_run}
use Rattle.dh_laws.proofs.VerdictLemmas.Cases.{rows_are, rows_of}
use Rattle.dh_laws.proofs.CommandLemmas.Whole.{own_state}
use Rattle.dh_schema.specs.Tables.{IsSound, books_in, state_in, tables_in}
use Rattle.dh_lives.specs.Answered.{AnswersKeepTheRules, AnswersMoveBalances, ChargesAreDues, SentAgainGetsTheSameReply, StandAlike, added, whole_in}
use Rattle.dh_lives.proofs.Ending.{sound_in_order}

-- ---- what was carried out before is told as nothing new

abbrev is_old : Verdict → Bool
is_old (verdict.Already kept) = is_of_nothing_new kept
is_old _ = true

module _ (books : Books) (run : Option OpenRun) (order : ReceiptOrder) where
  old_receipt : is_old (verdict_on books run (command.Receipt order)) ≡ true
  old_receipt = of_ruling (λ v. is_old v ≡ true) (λ why. refl) Frozen run (receipt_ruling books (len books.receipts) order) (refl, tt) refl

module _ (books : Books) (run : Option OpenRun) (order : RunOrder) where
  old_run : is_old (verdict_on books run (command.Open order)) ≡ true
  old_run = of_ruling (λ v. is_old v ≡ true) (λ why. refl) Frozen run (run_ruling books order) (refl, tt) refl

-- ---- what a lease owes more

-- what is told as nothing new adds nothing
none_added : (books : Books) (told : Command) (kept : Reply) (lease : ℕ) → is_of_nothing_new kept ≡ true → added books told kept lease ≡ pos 0
none_added books (command.Run order) (reply.Posted sum) lease old = absurd (false≢true old)
none_added books (command.Run order) _ lease old = refl
none_added books (command.Open order) (reply.Opened month) lease old = absurd (false≢true old)
none_added books (command.Open order) _ lease old = refl
none_added books (command.Receipt order) (reply.Receipt number) lease old = absurd (false≢true old)
none_added books (command.Receipt order) _ lease old = refl
none_added books _ kept lease old = refl

module _ (s : State) (lease : ℕ) where
  -- what the verdict moves is what the reply tells
  abbrev MovesSo : Command → Verdict → Type 0
  MovesSo told v = moved s.books v lease ≡ added s.books told (settled batch_size s told v).1 lease

  abbrev AcceptsSo : Command → Change → Type 0
  AcceptsSo told rows = verdict_on s.books s.open_run told ≡ verdict.Change rows → MovesSo told (verdict.Change rows)

  -- so it is of rows that are these
  so_of : (told : Command) (rows given : Change) → rows ≡ given → MovesSo told (verdict.Change given) → MovesSo told (verdict.Change rows)
  so_of told rows given is so = subst (λ (r : Change). MovesSo told (verdict.Change r)) (sym is) so

  fee_so : (it : BranchFee) (found : Option BranchFee) → MovesSo (command.Fee it) (verdict.Change (fee_rows it found))
  fee_so it None = refl
  fee_so it (Some was) = refl

  end_so : (it : Ending) (found : Option Ending) → MovesSo (command.End it) (verdict.Change (ending_rows it found))
  end_so it None = refl
  end_so it (Some was) = refl

  own_so : (told : Command) → MovesSo told (verdict.Change (rows_of s.books told))
  own_so (command.Branch it) = refl
  own_so (command.Fee it) = fee_so it (get s.books.branch_fees it.branch)
  own_so (command.End it) = end_so it (get s.books.endings it.lease)
  own_so _ = refl

  accepted_so : (told : Command) (rows : Change) → AcceptsSo told rows
  accepted_so told rows e = so_of told rows (rows_of s.books told) (rows_are s.books s.open_run rows told e) (own_so told)

  kept_so : (told : Command) (kept : Reply) → verdict_on s.books s.open_run told ≡ verdict.Already kept → MovesSo told (verdict.Already kept)
  kept_so (command.Receipt order) kept e =
      sym (none_added s.books (command.Receipt order) kept lease (sym (ap is_old e) ∙ old_receipt s.books s.open_run order))
  kept_so (command.Run order) kept e =
      sym (none_added s.books (command.Run order) kept lease (sym (ap is_old e) ∙ old_run s.books s.open_run order))
  kept_so (command.Open order) kept e =
      sym (none_added s.books (command.Open order) kept lease (sym (ap is_old e) ∙ old_run s.books s.open_run order))
  kept_so _ kept e = refl

  told_so : (told : Command) (v : Verdict) → verdict_on s.books s.open_run told ≡ v → MovesSo told v
  told_so told (verdict.Change rows) e = accepted_so told rows e
  told_so told (verdict.Already kept) e = kept_so told kept e
  told_so told (verdict.Refused why) e = sym (none_added s.books told (reply.Refused why) lease refl)

-- ---- where no run is open

-- none is where a receipt, or a run, is told what it came to
shut_receipt : (s after : State) (run : Option OpenRun) (order : ReceiptOrder) (number : ℕ) → s.open_run ≡ run
    → step batch_size s (command.Receipt order) ≡ (after, reply.AlreadyReceipt number) → run ≡ None
shut_receipt s after None order number is e = refl
shut_receipt s after (Some run) order number is e =
    let told = ap (λ (now : Option OpenRun). (step batch_size (record s { open_run = now }) (command.Receipt order)).1) (sym is)
    ∙ ap (λ (r : State × Reply). r.1) e in
    cc

shut_run : (s after : State) (run : Option OpenRun) (order : RunOrder) (sum : RunSum) → s.open_run ≡ run
    → step batch_size s (command.Run order) ≡ (after, reply.AlreadyPosted sum) → run ≡ None
shut_run s after None order sum is e = refl
shut_run s after (Some run) order sum is e =
    let told = ap (λ (now : Option OpenRun). (step batch_size (record s { open_run = now }) (command.Run order)).1) (sym is)
    ∙ ap (λ (r : State × Reply). r.1) e in
    cc

none_mapped : {X Y : Type 0} (f : X → Y) (found : Option X) → option_map f found ≡ None → found ≡ None
none_mapped f None e = refl
none_mapped f (Some x) e = cc

-- ---- the laws

module _ (lawful : WholeIsLawful batch_size) where
  -- the whole of sound tables
  whole_lawful : (trees : Trees) → IsSound trees → AreKeyed (whole_in trees) × IsLawful (whole_in trees) batch_size
  whole_lawful trees sound = lawful (books_in trees) (tables_in trees).run (omega arith) (sound_in_order trees sound)

  pub answers_move_balances : BalancesMoveAsTold batch_size → AnswersMoveBalances
  answers_move_balances moves before after told answer lease sound is =
      let s = state_of batch_size (tables_in before) in
      let all = whole_lawful before sound in
      let v = verdict_on s.books s.open_run told in
      ap (λ (r : State × Reply). balance r.0.books lease) (sym is)
      ∙ moves s told lease (omega arith) all.0 all.1
      ∙ ap (λ (z : ℤ). balance s.books lease +ℤ z) (told_so s lease told v refl ∙ ap (λ (r : State × Reply). added s.books told r.1 lease) is)

  pub charges_are_dues : owed.ChargesAreDues batch_size → ChargesAreDues
  charges_are_dues charged trees charge sound = let all = whole_lawful trees sound in charged (whole_in trees) charge (omega arith) all.0 all.1

  pub answers_keep_the_rules : StepsKeepTheLaw batch_size → AnswersKeepTheRules
  answers_keep_the_rules keep before after told answer sound entered is =
      let s = state_of batch_size (tables_in before) in
      let all = whole_lawful before sound in
      subst (λ (r : State × Reply). AreKeyed r.0.books × IsLawful r.0.books batch_size) is (keep s told (omega arith) all.0 all.1 entered)

  -- one step has one outcome
  one_outcome : (r : State × Reply) (t u : State) (kept told : Reply) → r ≡ (t, kept) → r ≡ (u, told) → (told ≡ kept) × (u ≡ t)
  one_outcome r t u kept told e f = (ap (λ (x : State × Reply). x.1) (sym f ∙ e), ap (λ (x : State × Reply). x.0) (sym f ∙ e))

  -- where no run is open the machine stands at the tables themselves
  own : (trees : Trees) → (state_in trees).open_run ≡ None → state_of batch_size (tables_in trees) ≡ state_in trees
  own trees none = own_state batch_size (state_in trees) (none_mapped _ (open_row (books_in trees)) none)

  same_tables : (after again : Trees) → (state_in after).open_run ≡ None → StandAlike after again → state_in again ≡ state_in after
  same_tables after again none alike =
      let also : (state_in again).open_run ≡ None = ap (λ (s : State). s.open_run) alike ∙ none in
      sym (own again also) ∙ alike ∙ own after none

  pub sent_again_gets_the_same_reply : repeated.SentAgainGetsTheSameReply batch_size → SentAgainGetsTheSameReply
  sent_again_gets_the_same_reply again_so before after again told sound none =
      let all = whole_lawful before sound in
      let books = whole_in before in
      let repeats = again_so books (omega arith) all.0 all.1 in
      let s = state_of batch_size (tables_in before) in
      let t = state_of batch_size (tables_in after) in
      let u = state_of batch_size (tables_in again) in
      let shut : s ≡ with_no_run books = ap (λ (run : Option OpenRun). record { books = books; open_run = run }) none in (
        λ order number first next.
            let kept = repeats.0 order t number (subst (λ (x : State). step batch_size x (command.Receipt order) ≡ (t, reply.Receipt number)) shut first) in
            let out = one_outcome (step batch_size t (command.Receipt order)) t u (reply.AlreadyReceipt number) told kept next in
            (out.0, same_tables after again (shut_receipt t t t.open_run order number refl kept) out.1),
        λ order sum first next.
            let kept = (repeats.1 order t sum (subst (λ (x : State). step batch_size x (command.Run order) ≡ (t, reply.Posted sum)) shut first)).0 in
            let out = one_outcome (step batch_size t (command.Run order)) t u (reply.AlreadyPosted sum) told kept next in
            (out.0, same_tables after again (shut_run t t t.open_run order sum refl kept) out.1),
      )
