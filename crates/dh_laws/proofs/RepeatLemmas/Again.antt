-- What was carried out and is sent again gets the reply that is kept of it.
use Rattle.std.proofs.Common.{◌≡◌, ◌∙◌, refl, sym, ap, subst, ℕ, ◌+◌, ◌≤◌, Bool, true, false, nat_le, Some, None, if◌then◌else◌}
use Rattle.std.specs.FinMap.{get, values}
use Rattle.dh_types.specs.declared.lease.Receipt.{Receipt}
use Rattle.dh_types.specs.declared.run.RunSum.{RunSum}
use Rattle.dh_types.specs.declared.command.Command.{Command}
use Rattle.dh_types.specs.declared.command.Command.TheVariants as command
use Rattle.dh_types.specs.declared.command.ReceiptOrder.{ReceiptOrder}
use Rattle.dh_types.specs.declared.command.RunOrder.{RunOrder}
use Rattle.dh_types.specs.declared.reply.Reply.{Reply}
use Rattle.dh_types.specs.declared.reply.Reply.TheVariants as reply
use Rattle.dh_model.specs.declared.rows.Verdict.{Verdict}
use Rattle.dh_model.specs.declared.rows.Verdict.TheVariants as verdict
use Rattle.dh_model.specs.Books.{Books, State}
use Rattle.dh_model.specs.Machine.{posted_sum, settled, step}
use Rattle.dh_model.specs.Rules.{IsLawful}
use Rattle.dh_model.specs.Rules.Rule.{Keys}
use Rattle.dh_model.specs.Runs.{batches, ran, sum_of}
use Rattle.dh_model.specs.Verdicts.{verdict_on}
use Rattle.dh_model.proofs.Among.{is_among}
use Rattle.dh_model.proofs.KeyOrders.{nat_ties, nat_total}
use Rattle.dh_model.proofs.MapRows.{of_row}
use Rattle.dh_laws.specs.InOrder.{AreKeyed}
use Rattle.dh_laws.specs.Repeating.{IsAlreadyPosted, IsRunOf, SentAgainGetsTheSameReply, with_no_run}
use Rattle.dh_laws.proofs.ReceiptLemmas.Stays.{IsKept, kept_steps, told}
use Rattle.dh_laws.proofs.ReceiptLemmas.Steps.{Has}
use Rattle.dh_laws.proofs.RepeatLemmas.Replies.{openings_repeat, receipts_repeat, runs_repeat}
use Rattle.dh_laws.proofs.RunLemmas.Told.{made, made_there, was_opened, was_posted}

abbrev state : State × Reply → State
state r = r.0

abbrev answer : State × Reply → Reply
answer r = r.1

abbrev either : Bool → State × Reply → State × Reply → State × Reply
either b x y = if b then x else y

module _ (size : ℕ) where
  -- a receipt begins and ends no run
  keeps_the_run : (s : State) (order : ReceiptOrder) (v : Verdict) → (settled size s (command.Receipt order) v).0.open_run ≡ s.open_run
  keeps_the_run s order (verdict.Change rows) = refl
  keeps_the_run s order (verdict.Already kept) = refl
  keeps_the_run s order (verdict.Refused why) = refl

  -- what is told over books with no run is told in the state of them
  told_in : (s : State) (it : Command) (kept : Reply) → s.open_run ≡ None → step size (with_no_run s.books) it ≡ (with_no_run s.books, kept)
      → step size s it ≡ (s, kept)
  told_in s it kept none h =
      let same : with_no_run s.books ≡ s = λ i. record { books = s.books; open_run = sym none i } in
      subst (λ (t : State). step size t it ≡ (t, kept)) same h

  -- all batches that are left are posted, or some still are
  all_by : (b : Bool) (done more : State) (sum told_sum : RunSum) (part : Reply) (after : State) → (part ≡ reply.Posted told_sum → ⊥)
      → either b (done, reply.Posted sum) (more, part) ≡ (after, reply.Posted told_sum) → (after ≡ done) × (told_sum ≡ sum)
  all_by true done more sum told_sum part after apart e =
      let replies : reply.Posted sum ≡ reply.Posted told_sum = ap answer e in
      let is : sum ≡ told_sum = cc in
      (sym (ap state e), sym is)
  all_by false done more sum told_sum part after apart e = absurd (apart (ap answer e))

  all_posted : (books : Books) (month count : ℕ) (after : State) (sum : RunSum)
      → step size (record { books = books; open_run = Some (record { month = month; done = 0 }) }) (command.Post count) ≡ (after, reply.Posted sum)
      → (after ≡ with_no_run books) × (sum ≡ posted_sum month (get books.runs month))
  all_posted books month count after sum e =
      all_by (nat_le (batches size books month) (0 + count)) (with_no_run books)
      (record { books = books; open_run = Some (record { month = month; done = 0 + count }) })
      (posted_sum month (get books.runs month)) sum
      (reply.Progress (record { month = month; done = 0 + count; of = batches size books month })) after (λ same. cc) e

  module _ (pos : 1 ≤ size) (books : Books) (keyed : AreKeyed books) (lawful : IsLawful books size) where
    receipt_again : (order : ReceiptOrder) (after : State) (number : ℕ) → step size (with_no_run books) (command.Receipt order) ≡ (after, reply.Receipt number)
        → step size after (command.Receipt order) ≡ (after, reply.AlreadyReceipt number)
    receipt_again order after number e =
        let row : Receipt = record { number = number; key = order.key; payment = order.payment } in
        let has : get after.books.receipts number ≡ Some row =
        subst (Has number row) (ap (λ (r : State × Reply). r.0.books) e) (told size (with_no_run books) order number (ap answer e)) in
        let kept : IsKept size after.books = subst (λ (r : State × Reply). IsKept size r.0.books) e
        (kept_steps size pos (with_no_run books) (command.Receipt order) tt (record { keyed = keyed; lawful = lawful })) in
        let none : after.open_run ≡ None =
        sym (ap (λ (r : State × Reply). r.0.open_run) e) ∙ keeps_the_run (with_no_run books) order (verdict_on books None (command.Receipt order)) in
        told_in after (command.Receipt order) (reply.AlreadyReceipt number) none
        ((receipts_repeat size after.books order (kept.lawful.rules Keys)).0 row
        (is_among (values after.books.receipts) row (of_row nat_total nat_ties after.books.receipts number row has), refl) refl)

    -- over the books that a run made
    run_again : (order : RunOrder) → order.month ≡ books.next → IsKept size (ran size books order.key)
        → IsAlreadyPosted size (with_no_run (ran size books order.key)) order (sum_of (made size (with_no_run books) order))
    run_again order next kept =
        let after = ran size books order.key in
        let row = made size (with_no_run books) order in
        let there = made_there size (with_no_run books) order next in
        let has : IsRunOf after order.key row = (is_among (values after.runs) row (of_row nat_total nat_ties after.runs order.month row there), refl) in
        let keys = kept.lawful.rules Keys in (
          (runs_repeat size after order keys).0 row has next,
          (openings_repeat size after order keys).0 row has next,
        )

    posted_again : (order : RunOrder) (after : State) (sum : RunSum) → step size (with_no_run books) (command.Run order) ≡ (after, reply.Posted sum)
        → IsAlreadyPosted size after order sum
    posted_again order after sum e =
        let was = was_posted size (with_no_run books) order sum (ap answer e) in
        let is : after ≡ with_no_run (ran size books order.key) = sym (ap state e) ∙ was.state in
        let kept : IsKept size (ran size books order.key) = subst (λ (s : State). IsKept size s.books) was.state
        (kept_steps size pos (with_no_run books) (command.Run order) tt (record { keyed = keyed; lawful = lawful })) in
        subst (λ (s : State). IsAlreadyPosted size s order sum) (sym is)
        (subst (IsAlreadyPosted size (with_no_run (ran size books order.key)) order) (sym was.sum_is) (run_again order was.month kept))

    opened_again : (order : RunOrder) (opened after : State) (month count : ℕ) (sum : RunSum)
        → step size (with_no_run books) (command.Open order) ≡ (opened, reply.Opened month)
        → step size opened (command.Post count) ≡ (after, reply.Posted sum) → IsAlreadyPosted size after order sum
    opened_again order opened after month count sum e f =
        let was = was_opened size (with_no_run books) order month (ap answer e) in
        let is : opened ≡ record { books = ran size books order.key; open_run = Some (record { month = order.month; done = 0 }) } =
        sym (ap state e) ∙ was.state in
        let kept : IsKept size (ran size books order.key) = subst (λ (s : State). IsKept size s.books) was.state
        (kept_steps size pos (with_no_run books) (command.Open order) tt (record { keyed = keyed; lawful = lawful })) in
        let all = all_posted (ran size books order.key) order.month count after sum
        (subst (λ (s : State). step size s (command.Post count) ≡ (after, reply.Posted sum)) is f) in
        let told_sum : sum ≡ sum_of (made size (with_no_run books) order) =
        all.1 ∙ ap (posted_sum order.month) (made_there size (with_no_run books) order was.next) in
        subst (λ (s : State). IsAlreadyPosted size s order sum) (sym all.0)
        (subst (IsAlreadyPosted size (with_no_run (ran size books order.key)) order) (sym told_sum) (run_again order was.next kept))

pub sent_again_gets_the_same_reply : (size : ℕ) → SentAgainGetsTheSameReply size
sent_again_gets_the_same_reply size books pos keyed lawful =
    (receipt_again size pos books keyed lawful, posted_again size pos books keyed lawful, opened_again size pos books keyed lawful)
