-- Calls and attempts to migrate, in any order.
use Rattle.std.proofs.Common.{◌≡◌, ◌≢◌, ◌⊎◌, ◌∙◌, inl, inr, refl, sym, ap, subst, List, [], ◌∷◌, ◌++◌, map, Option, Some, None}
use Rattle.sqlite.specs.Store.{Ghosts}
use Rattle.sqlite.specs.State.{State}
use Rattle.sqlite.specs.Held.{Held, state}
use Rattle.sqlite_trees.specs.Tree.{Trees}
use Rattle.dh_types.specs.declared.command.Command.{Command}
use Rattle.dh_types.specs.declared.version.Version.{Version}
use Rattle.dh_types.specs.declared.version.Version.TheVariants.{First, Second}
use Rattle.dh_model.specs.declared.open_run.OpenRun.{OpenRun}
use Rattle.dh_model.specs.Books as machine
use Rattle.dh_model.specs.Books.{Books}
use Rattle.dh_model.specs.Machine.{step}
use Rattle.dh_model.specs.Runs.{batch_size}
use Rattle.dh_model.specs.Whole.{whole}
use Rattle.dh_laws.specs.Events as event
use Rattle.dh_laws.specs.Events.{Event, Happens, IsShown, Tables, state_of}
use Rattle.dh_laws.specs.Kept.{Kept, NoneLeft, AnswerCounts, UndoneIsLeftOut, DoneCounts, AttachingIsPassed, RecoveryMovesOn, RecoveryEnds}
use Rattle.dh_laws.proofs.LifeLemmas.Tables.{recovered_whole}
use Rattle.dh_laws.proofs.CommandLemmas.Whole.{own_state, shows_none}
use Rattle.dh_schema.specs.Store.{AreTables, tables}
use Rattle.dh_schema.specs.Tables.{IsSound, state_in}
use Rattle.dh_schema.proofs.Keyed.{sound_tables_show_their_run}
use Rattle.dh_runs.specs.Migrated.{migrated_state}
use Rattle.dh_runs.specs.Moved.{CanBeMigrated}
use Rattle.dh_lives.specs.Calls.{Recovered}
use Rattle.dh_lives.specs.Histories.{IsSoundIn, Moment, event_of, events_of, tables_of, with_event}
use Rattle.dh_lives.specs.HistoryLaws.{StandBehind}
use Rattle.dh_lives.specs.Migrations as moved
use Rattle.dh_lives.specs.Migrations.{AreSteps, Attempt, Attempted, EndsWith, IsMigration, MachinesOverMigrations, Outcome}
use Rattle.dh_lives.specs.Migrations.{StandsThrough, StandsUnmoved, Step, StepsStandOverMigrations, calls_of, found_behind, stand_at}
use Rattle.dh_lives.specs.Migrations.{Called, Tried, Migrated, Refused, Broken}
use Rattle.dh_lives.specs.Migrations.{AnsweredAttemptsMigrate, DaysAreMigrated, FilesAreMigratedLater, MigratesFrom, RecoveredFilesAreMigrated}
use Rattle.dh_lives.proofs.Ending.{sound_in_order}
use Rattle.dh_lives.proofs.Following.{Comes, answered, found_after, found_so}
use Rattle.dh_lives.proofs.Migrating.{one_moves}
use Rattle.dh_lives.proofs.Taken.{comes_so}

-- ---- one event more

-- what is kept from the books and the run that the tables show is kept from other books that are the same
from_books : (t : Tables) (books : Books) (events : List (Event × Tables)) (told : List Command) (last : machine.State) → whole batch_size t.books ≡ books
    → Kept batch_size (state_of batch_size t) events told last → Kept batch_size (record { books = books; open_run = t.run }) events told last
from_books t books events told last is kept = subst (λ (b : Books). Kept batch_size (record { books = b; open_run = t.run }) events told last) is kept

kept_on : (event : Event) (t u : Tables) (events : List (Event × Tables)) (told : List Command) (last : machine.State) → IsShown batch_size u
    → Happens batch_size event t u
    → Kept batch_size (state_of batch_size u) events told last
    → (all : List Command) × Kept batch_size (state_of batch_size t) ((event, u) ∷ events) all last
kept_on (event.Answered it reply) t u events told last shown h kept = (it ∷ told, AnswerCounts h kept)
kept_on (event.Interrupted it) t u events told last shown (inl undone) kept =
    (told, UndoneIsLeftOut undone.run (from_books u (whole batch_size t.books) events told last undone.books kept))
kept_on (event.Interrupted it) t u events told last shown (inr done) kept =
    (it ∷ told, DoneCounts done.run (from_books u (step batch_size (state_of batch_size t) it).0.books events told last done.books kept))
kept_on event.Attached t u events told last shown h kept =
    (told, AttachingIsPassed (subst (λ (v : Tables). Kept batch_size (state_of batch_size v) events told last) h kept))
kept_on event.RecoveryInterrupted t u events told last shown h kept =
    (told, RecoveryMovesOn h.run (from_books u (whole batch_size t.books) events told last h.books kept))
kept_on event.Recovered t u events told last shown h kept =
    let books = from_books u (whole batch_size t.books) events told last (recovered_whole batch_size u (whole batch_size t.books) h shown) kept in
    let none : u.run ≡ None = ap (λ (v : Tables). v.run) h in (
      told,
      RecoveryEnds (subst (λ (run : Option OpenRun). Kept batch_size (record { books = whole batch_size t.books; open_run = run }) events told last)
          none books),
    )

-- ---- whether tables can be migrated

can_be : (trees : Trees) (version : Version) (run : Option OpenRun) → IsSound trees → (state_in trees).books.version ≡ version
    → (state_in trees).open_run ≡ run
    → CanBeMigrated trees ⊎ (CanBeMigrated trees → ⊥)
can_be trees First None sound is run_is = inl (record { sound = sound; first = is; closed = run_is })
can_be trees First (Some run) sound is run_is = inr (λ can. let no : Some run ≡ None = sym run_is ∙ can.closed in cc)
can_be trees Second run sound is run_is = inr (λ can. let no : Second ≡ First = sym is ∙ can.first in cc)

module _ {S : Type 0} (g : Ghosts S) where
  abbrev version_at : Held S → Version
  version_at it = (tables (state g it)).books.version

  -- alike tables are stood at alike
  stand_alike : (before found : Held S) → tables (state g found) ≡ tables (state g before) → stand_at g found ≡ stand_at g before
  stand_alike before found same = ap (λ (s : machine.State). state_of batch_size (record { books = s.books; run = s.open_run })) same

  -- where no run is open the machine stands at the tables themselves
  own : (it : Held S) → IsSoundIn g it → (tables (state g it)).open_run ≡ None → stand_at g it ≡ tables (state g it)
  own it sound none =
      own_state batch_size (tables (state g it))
      (shows_none batch_size (tables (state g it)) none (sound_in_order (state g it).now.trees sound))

  -- ---- one attempt

  -- It left sound tables, which are those before it, or they are migrated.
  pub record Leads (before : Held S) (it : Attempt S) : Type 0 where
    sound : IsSoundIn g it.found
    so : ((tables (state g it.found) ≡ tables (state g before)) × (it.outcome ≢ Migrated))
        ⊎ (IsMigration (tables (state g before)) (tables (state g it.found)) × (it.outcome ≢ Refused))

  stays : (before : Held S) (it : Attempt S) → IsSoundIn g before → (CanBeMigrated (state g before).now.trees → ⊥) → Attempted g before it
      → AreTables (λ t. t ≡ tables (state g before)) (state g it.found).now.trees
  stays before it sound never so =
      let these = tables (state g before) in
      let read = so.migrates.reads so.clean.0 in
      found_so g it.ended it.found (AreTables (λ t. t ≡ these)) (
        (λ up. let now = read up sound in (now.0, elim now.1 [ inl same ↦ same | inr moved ↦ absurd (never moved.0) ])),
        (λ left may. subst (AreTables (λ t. t ≡ these)) (sym (so.migrates.moves.untouched so.clean.0 never left may)) (sound, refl)),
      )
      so.finds so.clean.1

  leads : (before : Held S) (it : Attempt S) (outcome : Outcome) → it.outcome ≡ outcome → IsSoundIn g before → Attempted g before it → Leads before it
  leads before it Migrated is sound so =
      let told = subst (λ o. EndsWith o (state g before) (state g it.ended)) is so.ends in
      let found = found_so g it.ended it.found (AreTables (IsMigration (tables (state g before))))
      (answered (state g before) (state g it.ended) so.clean.0 IsMigration told) so.finds so.clean.1 in
      record { sound = found.0; so = inr (found.1, λ refused. let no : Migrated ≡ Refused = sym is ∙ refused in cc) }
  leads before it Refused is sound so =
      let these = tables (state g before) in
      let told = subst (λ o. EndsWith o (state g before) (state g it.ended)) is so.ends in
      let found = found_so g it.ended it.found (AreTables (λ t. t ≡ these)) (
        (λ up. let now = told.reads so.clean.0 up in (now.0 sound, now.1)),
        (λ left may. subst (AreTables (λ t. t ≡ these)) (sym (told.crash so.clean.0 left may)) (sound, refl)),
      )
      so.finds so.clean.1 in
      record { sound = found.0; so = inl (found.1, λ moved. let no : Refused ≡ Migrated = sym is ∙ moved in cc) }
  leads before it Broken is sound so =
      let unmoved : it.outcome ≢ Migrated = λ moved. let no : Broken ≡ Migrated = sym is ∙ moved in cc in
      let accepted : it.outcome ≢ Refused = λ refused. let no : Broken ≡ Refused = sym is ∙ refused in cc in
      elim (can_be (state g before).now.trees (version_at before) (tables (state g before)).open_run sound refl refl) [
        | inl can ↦
            let found = one_moves g before it can so in
            record {
              sound = found.0;
              so = elim found.1 [
                | inl same ↦ inl (same, unmoved)
                | inr moved ↦ inr (record { first = can.first; closed = can.closed; moved = moved }, accepted)
              ];
            }
        | inr never ↦
            let found = stays before it sound never so in
            record { sound = found.0; so = inl (found.1, unmoved) }
      ]

  -- ---- all of them

  -- a call more
  with_call : (before : Held S) (it : Moment S) (events : List (Event × Tables)) (told : List Command) (end : machine.State) (event : Option Event)
      → IsSoundIn g it.found
      → Comes event (tables (state g before)) (tables (state g it.found)) → Kept batch_size (stand_at g it.found) events told end
      → (all : List Command) × Kept batch_size (stand_at g before) (with_event event (tables_of g it.found) events) all end
  with_call before it events told end None sound same kept =
      (told, subst (λ (from : machine.State). Kept batch_size from events told end) (stand_alike before it.found same) kept)
  with_call before it events told end (Some event) sound comes kept =
      kept_on event (tables_of g before) (tables_of g it.found) events told end
      (sound_tables_show_their_run (state g it.found).now.trees sound) comes kept

  -- tables of the second version are migrated no more
  record Second_on (first : Held S) (steps : List (Step S)) : Type 0 where
    told : List Command
    stands : StandsUnmoved g (stand_at g first) steps told (stand_at g (found_behind first steps))
    sound : IsSoundIn g (found_behind first steps)

  second_on : (first : Held S) (steps : List (Step S)) → IsSoundIn g first → version_at first ≡ Second → AreSteps g first steps → Second_on first steps
  second_on first [] sound second so = record { told = []; stands = record { none = tt; kept = NoneLeft }; sound = sound }
  second_on first (Called it ∷ later) sound second so =
      let here = found_after g first it sound so.0 in
      let rest = second_on it.found later here.0 (comes_so (event_of it.call) (tables (state g first)) (tables (state g it.found)) here.1 ∙ second) so.1 in
      let more = with_call first it (events_of g (calls_of later)) rest.told (stand_at g (found_behind it.found later)) (event_of it.call) here.0 here.1
      rest.stands.kept in
      record { told = more.0; stands = record { none = rest.stands.none; kept = more.1 }; sound = rest.sound }
  second_on first (Tried it ∷ later) sound second so =
      let here = leads first it it.outcome refl sound so.0 in
      elim here.so [
        | inl same ↦
            let rest = second_on it.found later here.sound (ap (λ (s : machine.State). s.books.version) same.0 ∙ second) so.1 in
            record {
              told = rest.told;
              stands = record {
                none = (same.1, rest.stands.none);
                kept = subst (λ (from : machine.State). StandBehind g from rest.told (stand_at g (found_behind it.found later)) (calls_of later))
                    (stand_alike first it.found same.0) rest.stands.kept;
              };
              sound = rest.sound;
            }
        | inr moved ↦ let no : Second ≡ First = sym second ∙ moved.0.first in absurd (cc)
      ]

  record Through (first : Held S) (steps : List (Step S)) : Type 0 where
    told : List Command
    stands : StandsThrough g (stand_at g first) steps told (stand_at g (found_behind first steps))
    sound : IsSoundIn g (found_behind first steps)

  -- a call before what stands so
  call_before : (first : Held S) (it : Moment S) (later : List (Step S)) (told : List Command) (end : machine.State) → IsSoundIn g it.found
      → Comes (event_of it.call) (tables (state g first)) (tables (state g it.found)) → StandsThrough g (stand_at g it.found) later told end
      → (all : List Command) × StandsThrough g (stand_at g first) (Called it ∷ later) all end
  call_before first it later told end sound comes (inl stands) =
      let more = with_call first it (events_of g (calls_of later)) told end (event_of it.call) sound comes stands.kept in
      (more.0, inl (record { none = stands.none; kept = more.1 }))
  call_before first it later told end sound comes (inr stands) =
      let more = with_call first it (events_of g (calls_of stands.earlier)) stands.first_told stands.middle (event_of it.call) sound comes stands.kept in (
        more.0 ++ stands.then_told,
        inr (record {
          earlier = Called it ∷ stands.earlier;
          it = stands.it;
          later = stands.later;
          is = ap (λ (steps : List (Step S)). Called it ∷ steps) stands.is;
          accepted = stands.accepted;
          none_earlier = stands.none_earlier;
          none_later = stands.none_later;
          middle = stands.middle;
          first_told = more.0;
          then_told = stands.then_told;
          all_told = refl;
          kept = more.1;
          migrates = stands.migrates;
          kept_later = stands.kept_later;
        }),
      )

  -- an attempt that left the tables
  attempt_before : (first : Held S) (it : Attempt S) (later : List (Step S)) (told : List Command) (end : machine.State) → it.outcome ≢ Migrated
      → stand_at g it.found ≡ stand_at g first
      → StandsThrough g (stand_at g it.found) later told end → StandsThrough g (stand_at g first) (Tried it ∷ later) told end
  attempt_before first it later told end unmoved alike (inl stands) =
      inl (record {
        none = (unmoved, stands.none);
        kept = subst (λ (from : machine.State). StandBehind g from told end (calls_of later)) alike stands.kept;
      })
  attempt_before first it later told end unmoved alike (inr stands) =
      inr (record {
        earlier = Tried it ∷ stands.earlier;
        it = stands.it;
        later = stands.later;
        is = ap (λ (steps : List (Step S)). Tried it ∷ steps) stands.is;
        accepted = stands.accepted;
        none_earlier = (unmoved, stands.none_earlier);
        none_later = stands.none_later;
        middle = stands.middle;
        first_told = stands.first_told;
        then_told = stands.then_told;
        all_told = stands.all_told;
        kept = subst (λ (from : machine.State). StandBehind g from stands.first_told stands.middle (calls_of stands.earlier)) alike stands.kept;
        migrates = stands.migrates;
        kept_later = stands.kept_later;
      })

  -- the attempt that moved the tables
  moved_here : (first : Held S) (it : Attempt S) (later : List (Step S)) → IsSoundIn g first → IsSoundIn g it.found
      → IsMigration (tables (state g first)) (tables (state g it.found))
      → it.outcome ≢ Refused → Second_on it.found later → Through first (Tried it ∷ later)
  moved_here first it later sound found is accepted rest =
      let here = own first sound is.closed in
      let none : (tables (state g it.found)).open_run ≡ None = ap (λ (s : machine.State). s.open_run) is.moved ∙ is.closed in
      let there : stand_at g it.found ≡ migrated_state (stand_at g first) = own it.found found none ∙ is.moved ∙ ap migrated_state (sym here) in
      record {
        told = rest.told;
        stands = inr (record {
          earlier = [];
          it = it;
          later = later;
          is = refl;
          accepted = accepted;
          none_earlier = tt;
          none_later = rest.stands.none;
          middle = stand_at g first;
          first_told = [];
          then_told = rest.told;
          all_told = refl;
          kept = NoneLeft;
          migrates = record {
            first = ap (λ (s : machine.State). s.books.version) here ∙ is.first;
            closed = ap (λ (s : machine.State). s.open_run) here ∙ is.closed;
            moved = refl;
          };
          kept_later = subst (λ (from : machine.State). StandBehind g from rest.told (stand_at g (found_behind it.found later)) (calls_of later)) there
              rest.stands.kept;
        });
        sound = rest.sound;
      }

  through : (first : Held S) (steps : List (Step S)) → IsSoundIn g first → AreSteps g first steps → Through first steps
  through first [] sound so = record { told = []; stands = inl (record { none = tt; kept = NoneLeft }); sound = sound }
  through first (Called it ∷ later) sound so =
      let here = found_after g first it sound so.0 in
      let rest = through it.found later here.0 so.1 in
      let more = call_before first it later rest.told (stand_at g (found_behind it.found later)) here.0 here.1 rest.stands in
      record { told = more.0; stands = more.1; sound = rest.sound }
  through first (Tried it ∷ later) sound so =
      let here = leads first it it.outcome refl sound so.0 in
      elim here.so [
        | inl same ↦
            let rest = through it.found later here.sound so.1 in
            record {
              told = rest.told;
              stands = attempt_before first it later rest.told (stand_at g (found_behind it.found later)) same.1 (stand_alike first it.found same.0)
                  rest.stands;
              sound = rest.sound;
            }
        | inr moved ↦
            let second : version_at it.found ≡ Second = ap (λ (s : machine.State). s.books.version) moved.0.moved in
            moved_here first it later sound here.sound moved.0 moved.1 (second_on it.found later here.sound second so.1)
      ]

  pub steps_stand : StepsStandOverMigrations g
  steps_stand first steps sound so = let it = through first steps sound so in (it.told, it.stands, it.sound)

  -- ---- where the last call is a recovery

  last_of : (first : Held S) (steps : List (Step S)) (last : Moment S) → found_behind first (steps ++ Called last ∷ []) ≡ last.found
  last_of first [] last = refl
  last_of first (Called it ∷ later) last = last_of it.found later last
  last_of first (Tried it ∷ later) last = last_of it.found later last

  shut : (first : Held S) (steps : List (Step S)) (last : Moment S) → IsSoundIn g first → AreSteps g first (steps ++ Called last ∷ []) → last.call ≡ Recovered
      → (tables (state g last.found)).open_run ≡ None
  shut first [] last sound so is =
      let here = found_after g first last sound so.0 in
      let was_recovered = subst (λ c. Comes (event_of c) (tables (state g first)) (tables (state g last.found))) is here.1 in
      ap (λ (t : Tables). t.run) was_recovered
  shut first (Called it ∷ later) last sound so is = shut it.found later last (found_after g first it sound so.0).0 so.1 is
  shut first (Tried it ∷ later) last sound so is = shut it.found later last (leads first it it.outcome refl sound so.0).sound so.1 is

  pub machines_stand : MachinesOverMigrations g
  machines_stand first steps last sound so is =
      let all = steps ++ Called last ∷ [] in
      let it = through first all sound so in
      let at = last_of first steps last in
      let found : IsSoundIn g last.found = subst (IsSoundIn g) at it.sound in
      let none = shut first steps last sound so is in
      let same = own last.found found none in (
        it.told,
        stand_at g last.found,
        subst (λ (h : Held S). StandsThrough g (stand_at g first) all it.told (stand_at g h)) at it.stands,
        record { same = sym same; closed = ap (λ (s : machine.State). s.open_run) same ∙ none },
      )

  -- ---- an attempt that was answered

  still_second : (first : Held S) (steps : List (Step S)) → IsSoundIn g first → version_at first ≡ Second → AreSteps g first steps
      → version_at (found_behind first steps) ≡ Second
  still_second first [] sound second so = second
  still_second first (Called it ∷ later) sound second so =
      let here = found_after g first it sound so.0 in
      still_second it.found later here.0 (comes_so (event_of it.call) (tables (state g first)) (tables (state g it.found)) here.1 ∙ second) so.1
  still_second first (Tried it ∷ later) sound second so =
      let here = leads first it it.outcome refl sound so.0 in
      elim here.so [
        | inl same ↦ still_second it.found later here.sound (ap (λ (s : machine.State). s.books.version) same.0 ∙ second) so.1
        | inr moved ↦ let no : Second ≡ First = sym second ∙ moved.0.first in absurd (cc)
      ]

  -- tables that are of the first version in the end were never migrated
  record First_on (first : Held S) (steps : List (Step S)) : Type 0 where
    told : List Command
    kept : StandBehind g (stand_at g first) told (stand_at g (found_behind first steps)) (calls_of steps)
    sound : IsSoundIn g (found_behind first steps)

  first_on : (first : Held S) (steps : List (Step S)) → IsSoundIn g first → version_at (found_behind first steps) ≡ First → AreSteps g first steps
      → First_on first steps
  first_on first [] sound is so = record { told = []; kept = NoneLeft; sound = sound }
  first_on first (Called it ∷ later) sound is so =
      let here = found_after g first it sound so.0 in
      let rest = first_on it.found later here.0 is so.1 in
      let more = with_call first it (events_of g (calls_of later)) rest.told (stand_at g (found_behind it.found later)) (event_of it.call) here.0 here.1
      rest.kept in
      record { told = more.0; kept = more.1; sound = rest.sound }
  first_on first (Tried it ∷ later) sound is so =
      let here = leads first it it.outcome refl sound so.0 in
      elim here.so [
        | inl same ↦
            let rest = first_on it.found later here.sound is so.1 in
            record {
              told = rest.told;
              kept = subst (λ (from : machine.State). StandBehind g from rest.told (stand_at g (found_behind it.found later)) (calls_of later))
                  (stand_alike first it.found same.0) rest.kept;
              sound = rest.sound;
            }
        | inr moved ↦
            let second : version_at it.found ≡ Second = ap (λ (s : machine.State). s.books.version) moved.0.moved in
            let no : First ≡ Second = sym is ∙ still_second it.found later here.sound second so.1 in
            absurd (cc)
      ]

  steps_before : (first : Held S) (steps : List (Step S)) (it : Attempt S) → AreSteps g first (steps ++ Tried it ∷ [])
      → AreSteps g first steps × Attempted g (found_behind first steps) it
  steps_before first [] it so = (tt, so.0)
  steps_before first (Called step ∷ later) it so = let rest = steps_before step.found later it so.1 in ((so.0, rest.0), rest.1)
  steps_before first (Tried step ∷ later) it so = let rest = steps_before step.found later it so.1 in ((so.0, rest.0), rest.1)

  sound_behind : (first : Held S) (steps : List (Step S)) → IsSoundIn g first → AreSteps g first steps → IsSoundIn g (found_behind first steps)
  sound_behind first steps sound so = (through first steps sound so).sound

  pub answered_attempts_migrate : AnsweredAttemptsMigrate g
  answered_attempts_migrate first steps it sound so is =
      let parts = steps_before first steps it so in
      let before = found_behind first steps in
      let here = leads before it Migrated is (sound_behind first steps sound parts.0) parts.1 in
      elim here.so [
        | inl same ↦ absurd (same.1 is)
        | inr moved ↦
            let all = first_on first steps sound moved.0.first parts.0 in
            let at = own before all.sound moved.0.closed in (
              all.told,
              stand_at g before,
              all.kept,
              subst (λ (s : machine.State). IsMigration s (tables (state g it.found))) (sym at) moved.0,
            )
      ]

  -- ---- every day

  both_calls : (xs ys : List (Step S)) → calls_of (xs ++ ys) ≡ calls_of xs ++ calls_of ys
  both_calls [] ys = refl
  both_calls (Called it ∷ xs) ys = ap (λ (calls : List (Moment S)). it ∷ calls) (both_calls xs ys)
  both_calls (Tried it ∷ xs) ys = both_calls xs ys

  only_calls : (day : List (Moment S)) → calls_of (map Called day) ≡ day
  only_calls [] = refl
  only_calls (it ∷ day) = ap (λ (calls : List (Moment S)). it ∷ calls) (only_calls day)

  of_calls : (first : Held S) (steps : List (Step S)) (calls : List (Moment S)) (it : Attempt S) → calls_of steps ≡ calls
      → MigratesFrom g first (calls_of steps) it
      → MigratesFrom g first calls it
  of_calls first steps calls it is h = subst (λ (c : List (Moment S)). MigratesFrom g first c it) is h

  pub days_are_migrated : DaysAreMigrated g
  days_are_migrated first day it sound so is =
      of_calls first (map Called day) day it (only_calls day) (answered_attempts_migrate first (map Called day) it sound so is)

  pub recovered_files_are_migrated : RecoveredFilesAreMigrated g
  recovered_files_are_migrated first day refused it recovery sound so was_refused recovered is =
      let steps = map Called day ++ Tried refused ∷ Called recovery ∷ [] in
      of_calls first steps (day ++ recovery ∷ []) it
      (both_calls (map Called day) (Tried refused ∷ Called recovery ∷ []) ∙ ap (λ (calls : List (Moment S)). calls ++ recovery ∷ []) (only_calls day))
      (answered_attempts_migrate first steps it sound so is)

  pub files_are_migrated_later : FilesAreMigratedLater g
  files_are_migrated_later first day next cut it sound so was_cut is =
      let steps = map Called day ++ Tried cut ∷ map Called next in
      of_calls first steps (day ++ next) it
      (both_calls (map Called day) (Tried cut ∷ map Called next) ∙ ap (λ (calls : List (Moment S)). calls ++ calls_of (map Called next)) (only_calls day)
      ∙ ap (λ (calls : List (Moment S)). day ++ calls) (only_calls next))
      (answered_attempts_migrate first steps it sound so is)
