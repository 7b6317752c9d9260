-- What is kept of every list of events.
use Rattle.std.specs.Prelude.{◌≡◌, ◌≤◌, ◌↔◌, ℕ, List, [], ◌∷◌, ◌++◌, Some, None}
use Rattle.std.specs.List.{IsAmong}
use Rattle.std.specs.FinMap.{get, values}
use Rattle.dh_types.specs.declared.lease.Charge.{Charge}
use Rattle.dh_types.specs.declared.run.Run.{Run}
use Rattle.dh_types.specs.declared.run.RunSum.{RunSum}
use Rattle.dh_types.specs.declared.command.Command.{Command}
use Rattle.dh_types.specs.declared.command.Command.TheVariants as command
use Rattle.dh_types.specs.declared.command.ReceiptOrder.{ReceiptOrder}
use Rattle.dh_types.specs.declared.command.RunOrder.{RunOrder}
use Rattle.dh_types.specs.declared.reply.Reply.TheVariants as reply
use Rattle.dh_model.specs.declared.rows.Change.{Change}
use Rattle.dh_model.specs.declared.rows.Verdict.TheVariants as verdict
use Rattle.dh_model.specs.Books.{Books, State, empty_books}
use Rattle.dh_model.specs.Leases.{dues}
use Rattle.dh_model.specs.Rules.{IsLawful, IsThere, MonthIsClosed}
use Rattle.dh_model.specs.Runs.{sum_of}
use Rattle.dh_model.specs.Verdicts.{verdict_on}
use Rattle.dh_model.specs.Machine.{step}
use Rattle.dh_laws.specs.InOrder.{AreKeyed, IsEntered, IsInOrder}
use Rattle.dh_laws.specs.Events.{Event, Answered, Interrupted, Recovered, Follow, IsShown, Tables, state_of}
use Rattle.dh_laws.specs.Kept.{Kept}

-- the tables of books without a row
abbrev pub empty_tables : ℕ → Tables
empty_tables month = record { books = empty_books month; run = None }

-- what was called is what lines can hold
abbrev pub AreEntered : List (Event × Tables) → Type 0
AreEntered [] = Unit {0}
AreEntered ((Answered it reply, after) ∷ events) = IsEntered it × AreEntered events
AreEntered ((Interrupted it, after) ∷ events) = IsEntered it × AreEntered events
AreEntered (_ ∷ events) = AreEntered events

-- the commands that were called, in their order
abbrev pub calls : List (Event × Tables) → List Command
calls [] = []
calls ((Answered it reply, after) ∷ events) = it ∷ calls events
calls ((Interrupted it, after) ∷ events) = it ∷ calls events
calls (_ ∷ events) = calls events

-- within one life: nothing is called after a command that was interrupted
abbrev pub IsOneLife : List (Event × Tables) → Type 0
IsOneLife [] = Unit {0}
IsOneLife ((Interrupted it, after) ∷ events) = calls events ≡ []
IsOneLife (_ ∷ events) = IsOneLife events

-- the run stands under the order's month and has its key, and the month is charged with all its dues and nothing else
abbrev pub IsRunFor : Books → RunOrder → Run → Type 0
IsRunFor books order run = (get books.runs order.month ≡ Some run) × (run.key ≡ order.key) × MonthIsClosed books run

module _ (size : ℕ) where
  -- Whatever was answered, interrupted, attached and recovered, in whatever order: once a recovery is finished the tables are the
  -- machine's books after a list of commands that keeps the order of the calls, holds each that was answered, and of the others
  -- only such as a stop cut, each once at most; and no run is open.
  abbrev pub AllLives : Type 0
  AllLives = (start after : Tables) (events : List (Event × Tables)) → IsShown size start → Follow size start (events ++ (Recovered, after) ∷ [])
      → (told : List Command) × (last : State) × Kept size (state_of size start) (events ++ (Recovered, after) ∷ []) told last
      × (after.books ≡ last.books) × (last.open_run ≡ None)

  -- from empty books as well
  abbrev pub EmptyTablesAreShown : Type 0
  EmptyTablesAreShown = (month : ℕ) → IsShown size (empty_tables month)

  -- within one life the list is a beginning of the calls
  abbrev pub OneLifeKeepsABeginning : Type 0
  OneLifeKeepsABeginning = (s last : State) (events : List (Event × Tables)) (told : List Command) → IsOneLife events → Kept size s events told last
      → (rest : List Command) × (calls events ≡ told ++ rest)

  -- once a recovery is finished the books are lawful: no month is charged in part, or twice
  abbrev pub RecoveredBooksAreLawful : Type 0
  RecoveredBooksAreLawful = (start after : Tables) (events : List (Event × Tables)) → 1 ≤ size → IsInOrder size start.books start.run → AreEntered events
      → Follow size start (events ++ (Recovered, after) ∷ []) → AreKeyed after.books × IsLawful after.books size

  -- a month that was run is charged with each of its dues, and nothing else
  abbrev pub MonthsAreChargedOnce : Type 0
  MonthsAreChargedOnce = (start after : Tables) (events : List (Event × Tables)) (month : ℕ) (charge : Charge) → 1 ≤ size → IsInOrder size start.books start.run
      → AreEntered events
      → Follow size start (events ++ (Recovered, after) ∷ [])
      → (IsAmong (values after.books.charges) charge × (charge.month ≡ month)) ↔ (IsThere after.books.runs month × IsAmong (dues after.books month) charge)

  -- a receipt that was acknowledged is in the books for good, under its number
  abbrev pub AcknowledgedReceiptsStay : Type 0
  AcknowledgedReceiptsStay = (start after said : Tables) (before later : List (Event × Tables)) (order : ReceiptOrder) (number : ℕ) → 1 ≤ size
      → IsInOrder size start.books start.run → AreEntered (before ++ later)
      → Follow size start (before ++ (Answered (command.Receipt order) (reply.Receipt number), said) ∷ later ++ (Recovered, after) ∷ [])
      → get after.books.receipts number ≡ Some (record { number = number; key = order.key; payment = order.payment })

  -- a run or an opening that was acknowledged is in the books for good, and its month is charged exactly once
  abbrev pub AcknowledgedRunsStay : Type 0
  AcknowledgedRunsStay = (start after said : Tables) (before later : List (Event × Tables)) (order : RunOrder) → 1 ≤ size
      → IsInOrder size start.books start.run → AreEntered (before ++ later)
      → ((sum : RunSum) → Follow size start (before ++ (Answered (command.Run order) (reply.Posted sum), said) ∷ later ++ (Recovered, after) ∷ [])
      → (run : Run) × IsRunFor after.books order run × (sum_of run ≡ sum))
      × ((month : ℕ) → Follow size start (before ++ (Answered (command.Open order) (reply.Opened month), said) ∷ later ++ (Recovered, after) ∷ [])
      → (run : Run) × IsRunFor after.books order run × (month ≡ order.month))

  -- a receipt or a run that was accepted with no run open, and is sent again next, changes nothing more
  abbrev pub SentAgainIsOnce : Type 0
  SentAgainIsOnce = (books : Books) (rows : Change) → 1 ≤ size → AreKeyed books → IsLawful books size
      → ((order : ReceiptOrder) → verdict_on books None (command.Receipt order) ≡ verdict.Change rows
      → let done = (step size (record { books = books; open_run = None }) (command.Receipt order)).0 in
      (step size done (command.Receipt order)).0 ≡ done)
      × ((order : RunOrder) → verdict_on books None (command.Run order) ≡ verdict.Change rows
      → let done = (step size (record { books = books; open_run = None }) (command.Run order)).0 in
      (step size done (command.Run order)).0 ≡ done)
