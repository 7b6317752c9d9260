-- Histories whose last call is a recovery.
use Rattle.std.proofs.Common.{◌≡◌, ◌∙◌, refl, sym, ap, subst, ℕ, List, [], ◌∷◌, ◌++◌, Option, Some, None, arith}
use Rattle.sqlite.specs.Store.{Ghosts}
use Rattle.sqlite.specs.Held.{Held, state}
use Rattle.sqlite_trees.specs.Tree.{Trees}
use Rattle.dh_types.specs.declared.command.Command.{Command}
use Rattle.dh_types.specs.declared.command.Command.TheVariants as command
use Rattle.dh_types.specs.declared.reply.Reply.{Reply}
use Rattle.dh_types.specs.declared.reply.Reply.TheVariants as reply
use Rattle.dh_model.specs.Books as machine
use Rattle.dh_model.specs.Books.{Books, empty_books, start}
use Rattle.dh_model.specs.Runs.{batch_size}
use Rattle.dh_model.specs.Whole.{completed, whole}
use Rattle.dh_laws.specs.EachLife as eachlife
use Rattle.dh_laws.specs.Events as event
use Rattle.dh_laws.specs.Events.{Event, Follow, Tables, state_of}
use Rattle.dh_laws.specs.InOrder.{IsInOrder}
use Rattle.dh_laws.specs.Kept.{Kept}
use Rattle.dh_laws.specs.Lives as law
use Rattle.dh_laws.specs.Lives.{AllLives, AreEntered}
use Rattle.dh_laws.proofs.LifeLemmas.Tables.{empty_tables_are_shown}
use Rattle.dh_schema.specs.Tables.{IsSound, tables_in}
use Rattle.dh_schema.proofs.Keyed.{books_are_keyed, sound_tables_show_their_run}
use Rattle.dh_lives.specs.Calls.{Call, Recovered, Stepped}
use Rattle.dh_lives.specs.Calls.{StepInterrupted, Resumed, ResumeInterrupted, Shown, ShowInterrupted, Attached, AttachInterrupted, RecoveryInterrupted}
use Rattle.dh_lives.specs.Histories.{IsHistory, IsOfALine, Moment, event_of, events_of, tables_of, with_event}
use Rattle.dh_lives.specs.HistoryLaws.{AcknowledgedReceiptsStay, AcknowledgedRunsStay, EachLifeKeepsABeginning, EndsRecovered, FromTheBeginning}
use Rattle.dh_lives.specs.HistoryLaws.{IsTheMachines, MonthsAreChargedOnce, RecoveredBooksAreLawful, StandBehind, TablesAreTheMachines}
use Rattle.dh_lives.proofs.Following.{histories_are_events}

-- sound tables are those that an office works on
pub sound_in_order : (trees : Trees) → IsSound trees → IsInOrder batch_size (tables_in trees).books (tables_in trees).run
sound_in_order trees sound = record { keyed = books_are_keyed trees; rules = sound.rules; shown = sound_tables_show_their_run trees sound }

with_event_before : (event : Option Event) (t : Tables) (xs ys : List (Event × Tables)) → with_event event t (xs ++ ys) ≡ with_event event t xs ++ ys
with_event_before None t xs ys = refl
with_event_before (Some event) t xs ys = refl

entered_with : (call : Call) (t : Tables) (events : List (Event × Tables)) → IsOfALine call → AreEntered events
    → AreEntered (with_event (event_of call) t events)
entered_with (Stepped told reply) t events line later = (line, later)
entered_with (StepInterrupted told) t events line later = (line, later)
entered_with (Resumed most it) t events line later = (tt, later)
entered_with (ResumeInterrupted most) t events line later = (tt, later)
entered_with Shown t events line later = later
entered_with ShowInterrupted t events line later = later
entered_with Attached t events line later = later
entered_with AttachInterrupted t events line later = later
entered_with Recovered t events line later = later
entered_with RecoveryInterrupted t events line later = later

-- whole books of no row are these
empty_whole : (month : ℕ) → whole batch_size (empty_books month) ≡ empty_books month
empty_whole month = ap (completed batch_size (empty_books month)) (empty_tables_are_shown batch_size month)

-- after a recovery no run is shown
none_shown : (t after : Tables) (events : List (Event × Tables)) → Follow batch_size t (events ++ (event.Recovered, after) ∷ []) → after.run ≡ None
none_shown t after [] f = ap (λ (u : Tables). u.run) f.1
none_shown t after (event ∷ events) f = none_shown event.1 after events f.2

module _ {S : Type 0} (g : Ghosts S) where
  both : (xs ys : List (Moment S)) → events_of g (xs ++ ys) ≡ events_of g xs ++ events_of g ys
  both [] ys = refl
  both (it ∷ xs) ys =
      ap (with_event (event_of it.call) (tables_of g it.found)) (both xs ys)
      ∙ with_event_before (event_of it.call) (tables_of g it.found) (events_of g xs) (events_of g ys)

  -- each command is what a line can hold
  abbrev AreOfLines : List (Moment S) → Type 0
  AreOfLines [] = Unit {0}
  AreOfLines (it ∷ later) = IsOfALine it.call × AreOfLines later

  lines_of : (first : Held S) (history : List (Moment S)) → IsHistory g first history → AreOfLines history
  lines_of first [] so = tt
  lines_of first (it ∷ later) so = (so.0.line, lines_of it.found later so.1)

  front : (xs ys : List (Moment S)) → AreOfLines (xs ++ ys) → AreOfLines xs
  front [] ys lines = tt
  front (x ∷ xs) ys lines = (lines.0, front xs ys lines.1)

  without : (xs ys : List (Moment S)) (it : Moment S) → AreOfLines (xs ++ it ∷ ys) → AreOfLines (xs ++ ys)
  without [] ys it lines = lines.1
  without (x ∷ xs) ys it lines = (lines.0, without xs ys it lines.1)

  entered : (history : List (Moment S)) → AreOfLines history → AreEntered (events_of g history)
  entered [] lines = tt
  entered (it ∷ later) lines = entered_with it.call (tables_of g it.found) (events_of g later) lines.0 (entered later lines.1)

  module _ (first : Held S) (history : List (Moment S)) (last : Moment S) (ends : EndsRecovered g first history last) where
    abbrev all : List (Moment S)
    all = history ++ last ∷ []

    abbrev after : Tables
    after = tables_of g last.found

    listed : events_of g all ≡ events_of g history ++ (event.Recovered, after) ∷ []
    listed = both history (last ∷ []) ∙ ap (λ (c : Call). events_of g history ++ with_event (event_of c) after []) ends.recovered

    followed : Follow batch_size (tables_of g first) (events_of g history ++ (event.Recovered, after) ∷ [])
    followed =
        subst (λ (events : List (Event × Tables)). Follow batch_size (tables_of g first) events) listed
        (histories_are_events g first all ends.sound ends.calls).0

    in_order : IsInOrder batch_size (tables_of g first).books (tables_of g first).run
    in_order = sound_in_order (state g first).now.trees ends.sound

    lined : AreOfLines history
    lined = front history (last ∷ []) (lines_of first all ends.calls)

    machines : (end : machine.State) → after.books ≡ end.books → end.open_run ≡ None → IsTheMachines g last.found end
    machines end same closed =
        let none = none_shown (tables_of g first) after (events_of g history) followed in
        record { same = λ i. record { books = same i; open_run = (none ∙ sym closed) i }; closed = closed }

  pub tables_are_the_machines : AllLives batch_size → TablesAreTheMachines g
  tables_are_the_machines lives first history last ends =
      let from = state_of batch_size (tables_of g first) in
      let it = lives (tables_of g first) (tables_of g last.found) (events_of g history)
      (sound_tables_show_their_run (state g first).now.trees ends.sound) (followed first history last ends) in (
        it.0,
        it.1,
        subst (λ (events : List (Event × Tables)). Kept batch_size from events it.0 it.1) (sym (listed first history last ends)) it.2,
        machines first history last ends it.1 it.3 it.4,
      )

  pub from_the_beginning : AllLives batch_size → FromTheBeginning g
  from_the_beginning lives month first history last at ends =
      let it = tables_are_the_machines lives first history last ends in
      let begins : state_of batch_size (tables_of g first) ≡ start month =
      ap (λ (s : machine.State). state_of batch_size (record { books = s.books; run = s.open_run })) at
      ∙ ap (λ (b : Books). record { books = b; open_run = None }) (empty_whole month) in
      (it.0, it.1, subst (λ (from : machine.State). StandBehind g from it.0 it.1 (history ++ last ∷ [])) begins it.2, it.3)

  pub each_life_keeps_a_beginning : AllLives batch_size → eachlife.EachLifeKeepsABeginning batch_size → EachLifeKeepsABeginning g
  each_life_keeps_a_beginning lives keeps first history last ends alive =
      let all = history ++ last ∷ [] in
      let from = state_of batch_size (tables_of g first) in
      let it = tables_are_the_machines lives first history last ends in
      let kept = keeps from it.1 (events_of g all) it.0 alive it.2 in
      (kept.0, it.1, subst (λ (told : List Command). StandBehind g from told it.1 all) kept.1 it.2, it.3, kept.2)

  pub recovered_books_are_lawful : law.RecoveredBooksAreLawful batch_size → RecoveredBooksAreLawful g
  recovered_books_are_lawful was_recovered first history last ends =
      was_recovered (tables_of g first) (tables_of g last.found) (events_of g history) (omega arith)
      (in_order first history last ends) (entered history (lined first history last ends)) (followed first history last ends)

  pub months_are_charged_once : law.MonthsAreChargedOnce batch_size → MonthsAreChargedOnce g
  months_are_charged_once once first history last month charge ends =
      once (tables_of g first) (tables_of g last.found) (events_of g history) month charge (omega arith)
      (in_order first history last ends) (entered history (lined first history last ends)) (followed first history last ends)

  -- a call that was answered, among those of a history
  module _ (first : Held S) (before later : List (Moment S)) (said last : Moment S) (ends : EndsRecovered g first (before ++ said ∷ later) last) where
    others_entered : AreEntered (events_of g before ++ events_of g later)
    others_entered =
        subst AreEntered (both before later) (entered (before ++ later) (without before later said (lined first (before ++ said ∷ later) last ends)))

    abbrev IsFollowed : Event → Type 0
    IsFollowed it = Follow batch_size (tables_of g first)
        (events_of g before ++ (it, tables_of g said.found) ∷ events_of g later ++ (event.Recovered, tables_of g last.found) ∷ [])

    followed_by : (told : Command) (answer : Reply) → said.call ≡ Stepped told answer → IsFollowed (event.Answered told answer)
    followed_by told answer is =
        subst (λ (events : List (Event × Tables)). Follow batch_size (tables_of g first) (events ++ (event.Recovered, tables_of g last.found) ∷ []))
        (both before (said ∷ later)
        ∙ ap (λ (c : Call). events_of g before ++ with_event (event_of c) (tables_of g said.found) (events_of g later)) is)
        (followed first (before ++ said ∷ later) last ends)

  pub acknowledged_receipts_stay : law.AcknowledgedReceiptsStay batch_size → AcknowledgedReceiptsStay g
  acknowledged_receipts_stay receipts first before later said last order number is ends =
      receipts (tables_of g first) (tables_of g last.found) (tables_of g said.found) (events_of g before)
      (events_of g later) order number (omega arith) (in_order first (before ++ said ∷ later) last ends)
      (others_entered first before later said last ends)
      (followed_by first before later said last ends (command.Receipt order) (reply.Receipt number) is)

  pub acknowledged_runs_stay : law.AcknowledgedRunsStay batch_size → AcknowledgedRunsStay g
  acknowledged_runs_stay runs first before later said last order ends =
      let stay = runs (tables_of g first) (tables_of g last.found) (tables_of g said.found) (events_of g before)
      (events_of g later) order (omega arith) (in_order first (before ++ said ∷ later) last ends) (others_entered first before later said last ends) in (
        λ sum is. stay.0 sum (followed_by first before later said last ends (command.Run order) (reply.Posted sum) is),
        λ month is. stay.1 month (followed_by first before later said last ends (command.Open order) (reply.Opened month) is),
      )
