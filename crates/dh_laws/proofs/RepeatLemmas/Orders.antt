-- A receipt or a run that was carried out and is sent again changes nothing more.
use Rattle.std.proofs.Common.{◌≡◌, ◌∙◌, refl, sym, ap, subst, ℕ, ◌+◌, Bool, true, false, nat_eq, List, Option, Some, None, if◌then◌else◌, [], ◌∷◌, not}
use Rattle.std.specs.FinMap.{insert, len, values}
use Rattle.dh_types.specs.declared.lease.Receipt.{Receipt}
use Rattle.dh_types.specs.declared.run.Run.{Run}
use Rattle.dh_types.specs.declared.command.Command.{Command}
use Rattle.dh_types.specs.declared.command.Command.TheVariants as command
use Rattle.dh_types.specs.declared.command.ReceiptOrder.{ReceiptOrder}
use Rattle.dh_types.specs.declared.command.RunOrder.{RunOrder}
use Rattle.dh_types.specs.declared.reply.Reply.{Reply}
use Rattle.dh_types.specs.declared.reply.Refusal.{Refusal}
use Rattle.dh_types.specs.declared.reply.Refusal.TheVariants as refusal
use Rattle.dh_types.specs.Records.{is_same_payment}
use Rattle.dh_types.proofs.SameValues.{texts}
use Rattle.dh_model.specs.declared.rows.Change.{Change}
use Rattle.dh_model.specs.declared.rows.Verdict.{Verdict}
use Rattle.dh_model.specs.declared.rows.Verdict.TheVariants as verdict
use Rattle.dh_model.specs.Books.{Books, State}
use Rattle.dh_model.specs.Leases.{dues}
use Rattle.dh_model.specs.Runs.{closed_run, ran}
use Rattle.dh_model.specs.Checks.{is_same_text, receipt_of_key, run_of_key, some_is}
use Rattle.std.specs.Option.{is_some}
use Rattle.dh_model.specs.Verdicts.{Finding, Known, Must, first_finding, judged, receipt_ruling, run_ruling, verdict_on}
use Rattle.dh_model.specs.Machine.{settled, step}
use Rattle.dh_model.proofs.KeyOrders.{nat_ties, nat_total}
use Rattle.dh_model.proofs.MapRows.{get_new, of_row}
use Rattle.dh_laws.proofs.VerdictLemmas.Cases.{case_of}
use Rattle.dh_laws.proofs.VerdictLemmas.Checks.{found_none}
use Rattle.dh_laws.specs.Lives.{SentAgainIsOnce}

-- a key that was used is told as such, or refused: either way the state stays
module _ (size : ℕ) (s : State) (sent : Command) where
  abbrev Stays : Verdict → Type 0
  Stays v = (settled size s sent v).0 ≡ s

  stays_if : (b : Bool) (kept : Reply) (why : Refusal) → Stays (if b then verdict.Already kept else verdict.Refused why)
  stays_if true kept why = refl
  stays_if false kept why = refl

  stays_there : {X : Type 0} (is_so : X → Bool) (found : Option X) (kept : Reply) (why : Refusal) (rest : List Finding) (otherwise : Verdict)
      → (found ≡ None → ⊥) → Stays (first_finding (Known (some_is is_so found) kept ∷ Must (not (is_some found)) why ∷ rest) otherwise)
  stays_there is_so None kept why rest otherwise there = absurd (there refl)
  stays_there is_so (Some row) kept why rest otherwise there = stays_if (is_so row) kept why

-- the key of a row that was put in is found
receipt_is_found : (books : Books) (k : ℕ) (row : Receipt) → receipt_of_key (record books { receipts = insert books.receipts k row }) row.key ≡ None → ⊥
receipt_is_found books k row none =
    let rows = insert books.receipts k row in
    let new = of_row nat_total nat_ties rows k row (get_new nat_total nat_ties books.receipts k row) in
    let apart = found_none (λ (receipt : Receipt). is_same_text receipt.key row.key) (values rows) none row new in
    let same = (texts row.key row.key).1 refl in
    cc

run_is_found : (size : ℕ) (books : Books) (key : List ℕ) → run_of_key (ran size books key) key ≡ None → ⊥
run_is_found size books key none =
    let row = closed_run books.next key (dues books books.next) in
    let rows = insert books.runs books.next row in
    let new = of_row nat_total nat_ties rows books.next row (get_new nat_total nat_ties books.runs books.next row) in
    let apart = found_none (λ (run : Run). is_same_text run.key key) (values rows) none row new in
    let same = (texts key key).1 refl in
    cc

module _ (size : ℕ) (books : Books) where
  abbrev closed : Books → State
  closed b = record { books = b; open_run = None }

  -- told again, it leaves the state that it made
  abbrev IsOnce : Command → State → Type 0
  IsOnce told done = (step size done told).0 ≡ done

  receipt_again : (order : ReceiptOrder) (rows : Change) → verdict_on books None (command.Receipt order) ≡ verdict.Change rows
      → IsOnce (command.Receipt order) (step size (closed books) (command.Receipt order)).0
  receipt_again order rows h =
      let told = command.Receipt order in
      let row : Receipt = record { number = len books.receipts + 1; key = order.key; payment = order.payment } in
      let after : Books = record books { receipts = insert books.receipts (len books.receipts + 1) row } in
      let it = receipt_ruling after (len after.receipts) order in
      let same = (case_of books None rows (command.Receipt order) h).0 in
      let made : (step size (closed books) told).0 ≡ closed after = ap (λ v. (settled size (closed books) told v).0) (h ∙ ap (λ r. verdict.Change r) same) in
      subst (IsOnce told) (sym made)
      (stays_there size (closed after) told (λ receipt. is_same_payment order.payment receipt.payment) (receipt_of_key after order.key) _ refusal.KeyUsed
      (Must (not (is_some (run_of_key after order.key))) refusal.KeyUsed ∷ []) (judged it.checks it.rows) (receipt_is_found books (len books.receipts + 1) row))

  run_again : (order : RunOrder) (rows : Change) → verdict_on books None (command.Run order) ≡ verdict.Change rows
      → IsOnce (command.Run order) (step size (closed books) (command.Run order)).0
  run_again order rows h =
      let told = command.Run order in
      let after = ran size books order.key in
      let it = run_ruling after order in
      let same = (case_of books None rows (command.Open order) h).0 in
      let made : (step size (closed books) told).0 ≡ closed after = ap (λ v. (settled size (closed books) told v).0) (h ∙ ap (λ r. verdict.Change r) same) in
      subst (IsOnce told) (sym made) (stays_there size (closed after) told (λ run. nat_eq order.month run.month) (run_of_key after order.key) _ refusal.KeyUsed
      (Must (not (is_some (receipt_of_key after order.key))) refusal.KeyUsed ∷ []) (judged it.checks it.rows) (run_is_found size books order.key))

pub sent_again_is_once : (size : ℕ) → SentAgainIsOnce size
sent_again_is_once size books rows pos keyed lawful = (λ order h. receipt_again size books order rows h, λ order h. run_again size books order rows h)
