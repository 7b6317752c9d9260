-- What is found by a key, and what a command gets whose key was used.
use Rattle.std.specs.Prelude.{◌≡◌, ◌≢◌, ◌↔◌, ◌≤◌, ℕ, Bool, true, false, List, None, Some, is_some}
use Rattle.std.specs.List.{IsAmong}
use Rattle.std.specs.FinMap.{values}
use Rattle.dh_types.specs.declared.lease.Receipt.{Receipt}
use Rattle.dh_types.specs.declared.run.Run.{Run}
use Rattle.dh_types.specs.declared.run.RunSum.{RunSum}
use Rattle.dh_types.specs.declared.command.Command.{Command}
use Rattle.dh_types.specs.declared.command.Command.TheVariants as command
use Rattle.dh_types.specs.declared.command.ReceiptOrder.{ReceiptOrder}
use Rattle.dh_types.specs.declared.command.RunOrder.{RunOrder}
use Rattle.dh_types.specs.declared.reply.Reply.{Reply}
use Rattle.dh_types.specs.declared.reply.Reply.TheVariants as reply
use Rattle.dh_types.specs.declared.reply.Refusal.TheVariants as refusal
use Rattle.dh_model.specs.Books.{Books, State}
use Rattle.dh_model.specs.Checks.{receipt_of_key, run_of_key}
use Rattle.dh_model.specs.Machine.{step}
use Rattle.dh_model.specs.Rules.{IsLawful, KeysInOrder}
use Rattle.dh_model.specs.Runs.{sum_of}
use Rattle.dh_laws.specs.InOrder.{AreKeyed}

-- the receipt, or the run, is of the books and has the key
abbrev pub IsReceiptOf : Books → List ℕ → Receipt → Type 0
IsReceiptOf books key receipt = IsAmong (values books.receipts) receipt × (receipt.key ≡ key)

abbrev pub IsRunOf : Books → List ℕ → Run → Type 0
IsRunOf books key run = IsAmong (values books.runs) run × (run.key ≡ key)

-- something is found by a key exactly where a receipt, or a run, has it
abbrev pub KeysAreFound : Type 0
KeysAreFound = (books : Books) (key : List ℕ)
    → ((is_some (receipt_of_key books key) ≡ true) ↔ ((receipt : Receipt) × IsReceiptOf books key receipt))
    × ((is_some (run_of_key books key) ≡ true) ↔ ((run : Run) × IsRunOf books key run))

-- where no key stands twice, exactly the one that has the key is found, and never a receipt and a run
abbrev pub KeysAreOfOne : Type 0
KeysAreOfOne = (books : Books) (key : List ℕ) → KeysInOrder books
    → ((receipt : Receipt) → (receipt_of_key books key ≡ Some receipt) ↔ IsReceiptOf books key receipt)
    × ((run : Run) → (run_of_key books key ≡ Some run) ↔ IsRunOf books key run)
    × ((receipt : Receipt) → IsReceiptOf books key receipt → run_of_key books key ≡ None)
    × ((run : Run) → IsRunOf books key run → receipt_of_key books key ≡ None)

-- a refusal, or a reply that it was carried out before
abbrev pub is_of_nothing_new : Reply → Bool
is_of_nothing_new reply.Already = true
is_of_nothing_new (reply.AlreadyReceipt number) = true
is_of_nothing_new (reply.AlreadyPosted sum) = true
is_of_nothing_new (reply.Refused why) = true
is_of_nothing_new _ = false

abbrev pub with_no_run : Books → State
with_no_run books = record { books = books; open_run = None }

module _ (size : ℕ) where
  -- what is answered so leaves the state as it was, whatever the command
  abbrev pub NothingNewChangesNothing : Type 0
  NothingNewChangesNothing = (s : State) (told : Command) → is_of_nothing_new (step size s told).1 ≡ true → (step size s told).0 ≡ s

  -- the command gets the reply, and the state of these books with no open run stays
  abbrev pub Gets : Books → Command → Reply → Type 0
  Gets books told answer = step size (with_no_run books) told ≡ (with_no_run books, answer)

  abbrev pub IsRefusedTheKey : Books → Command → Type 0
  IsRefusedTheKey books told = Gets books told (reply.Refused refusal.KeyUsed)

  -- a receipt with the key of a receipt is told this one's number, where the payments are equal, and else refused; with that of a
  -- run it is refused
  abbrev pub ReceiptsRepeat : Type 0
  ReceiptsRepeat = (books : Books) (order : ReceiptOrder) → KeysInOrder books
      → ((receipt : Receipt) → IsReceiptOf books order.key receipt → order.payment ≡ receipt.payment
      → Gets books (command.Receipt order) (reply.AlreadyReceipt receipt.number))
      × ((receipt : Receipt) → IsReceiptOf books order.key receipt → order.payment ≢ receipt.payment → IsRefusedTheKey books (command.Receipt order))
      × ((run : Run) → IsRunOf books order.key run → IsRefusedTheKey books (command.Receipt order))

  -- a run, or an opening, with the key of a run is told what this one came to, where the months are equal, and else refused; with
  -- that of a receipt it is refused
  abbrev pub RunsRepeat : (RunOrder → Command) → Type 0
  RunsRepeat tell = (books : Books) (order : RunOrder) → KeysInOrder books
      → ((run : Run) → IsRunOf books order.key run → order.month ≡ run.month → Gets books (tell order) (reply.AlreadyPosted (sum_of run)))
      × ((run : Run) → IsRunOf books order.key run → order.month ≢ run.month → IsRefusedTheKey books (tell order))
      × ((receipt : Receipt) → IsReceiptOf books order.key receipt → IsRefusedTheKey books (tell order))

  -- where no run is open, a command whose key was used gets the reply that is kept, or refusal 9, and the state stays
  abbrev pub RepeatsGetTheirReply : Type 0
  RepeatsGetTheirReply = ReceiptsRepeat × RunsRepeat command.Run × RunsRepeat command.Open

  -- a run of the order, and an opening of it, is told that it was posted before, with this sum, and the state stays
  abbrev pub IsAlreadyPosted : State → RunOrder → RunSum → Type 0
  IsAlreadyPosted s order sum =
      (step size s (command.Run order) ≡ (s, reply.AlreadyPosted sum))
      × (step size s (command.Open order) ≡ (s, reply.AlreadyPosted sum))

  -- What was accepted over lawful books with no run open, and is sent again next, gets the reply that is kept of it: a receipt its
  -- number; a run, made in one step or by its opening and the posting of all its batches, its sum, whether it is sent as a run or as an
  -- opening.
  abbrev pub SentAgainGetsTheSameReply : Type 0
  SentAgainGetsTheSameReply = (books : Books) → 1 ≤ size → AreKeyed books → IsLawful books size
      → ((order : ReceiptOrder) (after : State) (number : ℕ) → step size (with_no_run books) (command.Receipt order) ≡ (after, reply.Receipt number)
      → step size after (command.Receipt order) ≡ (after, reply.AlreadyReceipt number))
      × ((order : RunOrder) (after : State) (sum : RunSum) → step size (with_no_run books) (command.Run order) ≡ (after, reply.Posted sum)
      → IsAlreadyPosted after order sum)
      × ((order : RunOrder) (opened after : State) (month count : ℕ) (sum : RunSum)
      → step size (with_no_run books) (command.Open order) ≡ (opened, reply.Opened month)
      → step size opened (command.Post count) ≡ (after, reply.Posted sum) → IsAlreadyPosted after order sum)
