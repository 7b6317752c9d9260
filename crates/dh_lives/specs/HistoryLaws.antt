-- What holds of every history of calls.
use Rattle.std.specs.Prelude.{◌≡◌, ◌↔◌, ℕ, List, [], ◌∷◌, ◌++◌, None, Some}
use Rattle.std.specs.List.{IsAmong}
use Rattle.std.specs.FinMap.{get, values}
use Rattle.sqlite.specs.Store.{Ghosts}
use Rattle.sqlite.specs.Held.{Held, state}
use Rattle.dh_types.specs.declared.lease.Charge.{Charge}
use Rattle.dh_types.specs.declared.run.Run.{Run}
use Rattle.dh_types.specs.declared.run.RunSum.{RunSum}
use Rattle.dh_types.specs.declared.command.Command.{Command}
use Rattle.dh_types.specs.declared.command.Command.TheVariants as command
use Rattle.dh_types.specs.declared.command.ReceiptOrder.{ReceiptOrder}
use Rattle.dh_types.specs.declared.command.RunOrder.{RunOrder}
use Rattle.dh_types.specs.declared.reply.Refusal.{Refusal}
use Rattle.dh_types.specs.declared.reply.Reply.TheVariants as reply
use Rattle.dh_types.specs.declared.version.Version.{Version}
use Rattle.dh_model.specs.Books as machine
use Rattle.dh_model.specs.Books.{Books, start}
use Rattle.dh_model.specs.Leases.{dues}
use Rattle.dh_model.specs.Rules.{IsLawful, IsThere}
use Rattle.dh_model.specs.Runs.{batch_size, sum_of}
use Rattle.dh_laws.specs.EachLife.{AreBeginnings, AreLives, joined, lives_of}
use Rattle.dh_laws.specs.Events.{Follow, state_of}
use Rattle.dh_laws.specs.InOrder.{AreKeyed}
use Rattle.dh_laws.specs.Kept.{Kept}
use Rattle.dh_laws.specs.Lives.{IsRunFor}
use Rattle.dh_schema.specs.Store.{tables}
use Rattle.dh_schema.specs.Tables.{books_in}
use Rattle.dh_runs.specs.Taking.{GivesVersion, IsRefusedFor}
use Rattle.dh_lives.specs.Calls.{Recovered, Stepped}
use Rattle.dh_lives.specs.Histories.{AreFoundSound, IsHistory, IsSoundIn, Moment, StayWhereNothingIsNew, events_of, tables_of}

module _ {S : Type 0} (g : Ghosts S) where
  -- From sound tables the calls are such events as the law of all lives speaks of, and the tables that are found after each are sound:
  -- no rule of the audit is broken, and the file has our tables and indexes and no others.
  abbrev pub HistoriesAreEvents : Type 0
  HistoriesAreEvents = (first : Held S) (history : List (Moment S)) → IsSoundIn g first → IsHistory g first history
      → Follow batch_size (tables_of g first) (events_of g history) × AreFoundSound g history

  -- From tables of a version none that is found is refused where this version is wanted: neither for its version nor for a rule.
  abbrev pub NoneIsRefused : Type 0
  NoneIsRefused = (version : Version) (first : Held S) (history : List (Moment S)) (last : Moment S) (why : Refusal) → IsSoundIn g first
      → GivesVersion version (state g first).now.trees → IsHistory g first (history ++ last ∷ [])
      → ¬ IsRefusedFor version (state g last.found).now.trees why

  -- A refusal, a reply that a command was carried out before and a question leave the tables row for row, while a run is open too; so
  -- do files that are taken as they are, and a question that was interrupted.
  abbrev pub TablesStayWhereNothingIsNew : Type 0
  TablesStayWhereNothingIsNew = (first : Held S) (history : List (Moment S)) → IsSoundIn g first → IsHistory g first history
      → StayWhereNothingIsNew g first history

  -- a history from sound tables whose last call is a recovery that was answered
  pub record EndsRecovered (first : Held S) (history : List (Moment S)) (last : Moment S) : Type 0 where
    pub sound : IsSoundIn g first
    pub recovered : last.call ≡ Recovered
    pub calls : IsHistory g first (history ++ last ∷ [])

  -- Told these commands from there, the machine gives each answered call its reply, and ends there. The commands are those of the
  -- calls in their order: each that was answered, of the others some that a stop cut, each once at most.
  abbrev pub StandBehind : machine.State → List Command → machine.State → List (Moment S) → Type 0
  StandBehind from told end history = Kept batch_size from (events_of g history) told end

  -- the tables are the machine's, row for row, and no run is open
  pub record IsTheMachines (found : Held S) (end : machine.State) : Type 0 where
    pub same : tables (state g found) ≡ end
    pub closed : end.open_run ≡ None

  -- Whichever of these calls were made, answered or interrupted (no migration is among them): once a recovery is finished, the
  -- tables that are found are the machine's after such commands.
  abbrev pub TablesAreTheMachines : Type 0
  TablesAreTheMachines = (first : Held S) (history : List (Moment S)) (last : Moment S) → EndsRecovered first history last
      → (told : List Command) × (end : machine.State)
      × StandBehind (state_of batch_size (tables_of g first)) told end (history ++ last ∷ []) × IsTheMachines last.found end

  -- so from the tables that `create` made
  abbrev pub FromTheBeginning : Type 0
  FromTheBeginning = (month : ℕ) (first : Held S) (history : List (Moment S)) (last : Moment S) → tables (state g first) ≡ start month
      → EndsRecovered first history last
      → (told : List Command) × (end : machine.State) × StandBehind (start month) told end (history ++ last ∷ []) × IsTheMachines last.found end

  -- life after life these commands are a beginning of its calls: all, or all but the last; where no life goes on after a command
  -- that was interrupted, as it does not: the agency has stopped
  abbrev pub EachLifeKeepsABeginning : Type 0
  EachLifeKeepsABeginning = (first : Held S) (history : List (Moment S)) (last : Moment S) → EndsRecovered first history last
      → AreLives (lives_of (events_of g (history ++ last ∷ [])))
      → (parts : List (List Command)) × (end : machine.State)
      × StandBehind (state_of batch_size (tables_of g first)) (joined parts) end (history ++ last ∷ []) × IsTheMachines last.found end
      × AreBeginnings parts (lives_of (events_of g (history ++ last ∷ [])))

  abbrev pub books_of : Held S → Books
  books_of it = books_in (state g it).now.trees

  -- once a recovery is finished the books are lawful: no month is charged in part, or twice
  abbrev pub RecoveredBooksAreLawful : Type 0
  RecoveredBooksAreLawful = (first : Held S) (history : List (Moment S)) (last : Moment S) → EndsRecovered first history last
      → AreKeyed (books_of last.found) × IsLawful (books_of last.found) batch_size

  -- a month that was run is charged with each of its dues, and nothing else
  abbrev pub MonthsAreChargedOnce : Type 0
  MonthsAreChargedOnce = (first : Held S) (history : List (Moment S)) (last : Moment S) (month : ℕ) (charge : Charge) → EndsRecovered first history last
      → (IsAmong (values (books_of last.found).charges) charge × (charge.month ≡ month))
      ↔ (IsThere (books_of last.found).runs month × IsAmong (dues (books_of last.found) month) charge)

  -- a receipt that was acknowledged is there for good, under its number
  abbrev pub AcknowledgedReceiptsStay : Type 0
  AcknowledgedReceiptsStay = (first : Held S) (before later : List (Moment S)) (said last : Moment S) (order : ReceiptOrder) (number : ℕ)
      → said.call ≡ Stepped (command.Receipt order) (reply.Receipt number) → EndsRecovered first (before ++ said ∷ later) last
      → get (books_of last.found).receipts number ≡ Some (record { number = number; key = order.key; payment = order.payment })

  -- a run or an opening that was acknowledged is there for good, and its month is charged exactly once
  abbrev pub AcknowledgedRunsStay : Type 0
  AcknowledgedRunsStay = (first : Held S) (before later : List (Moment S)) (said last : Moment S) (order : RunOrder)
      → EndsRecovered first (before ++ said ∷ later) last
      → ((sum : RunSum) → said.call ≡ Stepped (command.Run order) (reply.Posted sum)
      → (run : Run) × IsRunFor (books_of last.found) order run × (sum_of run ≡ sum))
      × ((month : ℕ) → said.call ≡ Stepped (command.Open order) (reply.Opened month)
      → (run : Run) × IsRunFor (books_of last.found) order run × (month ≡ order.month))
