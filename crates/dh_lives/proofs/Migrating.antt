-- Attempts to migrate, and lives before and after them.
use Rattle.std.proofs.Common.{◌≡◌, ◌⊎◌, ◌∙◌, inl, inr, refl, sym, ap, subst, List, [], ◌∷◌, ◌++◌, Some, None, pos}
use Rattle.sqlite.specs.Store.{Ghosts}
use Rattle.sqlite.specs.Held.{Held, state}
use Rattle.sqlite_trees.specs.Tree.{Trees}
use Rattle.dh_types.specs.declared.version.Version.TheVariants.{First, Second}
use Rattle.dh_model.specs.Books as machine
use Rattle.dh_model.specs.Runs.{batch_size}
use Rattle.dh_laws.specs.Events.{state_of}
use Rattle.dh_laws.specs.Lives.{AllLives}
use Rattle.dh_laws.proofs.CommandLemmas.Whole.{own_state, shows_none}
use Rattle.dh_schema.specs.Store.{AreTables, tables}
use Rattle.dh_schema.specs.Tables.{IsSound, state_in}
use Rattle.dh_runs.specs.Migrated.{migrated_state}
use Rattle.dh_types.specs.declared.reply.Refusal.{Refusal}
use Rattle.dh_types.specs.declared.reply.Refusal.TheVariants as refusal
use Rattle.dh_types.specs.declared.version.Version.{Version}
use Rattle.dh_rows.specs.Cells.{version_number}
use Rattle.dh_runs.specs.Taking.{GivesVersion}
use Rattle.dh_runs.specs.Moved.{CanBeMigrated, IsNotMigratedFor, IsOf}
use Rattle.dh_lives.specs.Histories.{IsHistory, IsSoundIn, Moment, event_of, tables_of}
use Rattle.dh_lives.specs.HistoryLaws.{StandBehind}
use Rattle.dh_lives.specs.Migrations.{AreAttempts, Attempt, Attempted, LivesGoOnOverMigrations, MigrationsMoveOnce}
use Rattle.dh_lives.proofs.Ending.{sound_in_order, tables_are_the_machines}
use Rattle.dh_lives.proofs.Following.{found_after, found_so}
use Rattle.dh_lives.proofs.Taken.{comes_so, number_given, sound_is_taken}

-- tables that are refused can't be migrated
pub never_migrated : (trees : Trees) (why : Refusal) → IsNotMigratedFor trees why → CanBeMigrated trees → ⊥
never_migrated trees (refusal.RunOpen month) it can = subst (IsOf month) can.closed it.run
never_migrated trees why it can =
    let given : GivesVersion First trees = number_given trees can.sound ∙ ap (λ (v : Version). Some (pos (version_number v))) can.first in
    sound_is_taken First trees why can.sound given it

-- sound tables that are these or those
abbrev Are : machine.State → machine.State → Trees → Type 0
Are these those = AreTables (λ t. (t ≡ these) ⊎ (t ≡ those))

-- migrated tables are not migrated again
not_again : (s : machine.State) (trees : Trees) → state_in trees ≡ migrated_state s → CanBeMigrated trees → ⊥
not_again s trees is can =
    let two : Second ≡ First = sym (ap (λ (t : machine.State). t.books.version) is) ∙ can.first in
    cc

-- tables that are those of a file that can be migrated can be migrated
still_can : (before found : Trees) → CanBeMigrated before → IsSound found → state_in found ≡ state_in before → CanBeMigrated found
still_can before found can sound same = record {
  sound = sound;
  first = ap (λ (t : machine.State). t.books.version) same ∙ can.first;
  closed = ap (λ (t : machine.State). t.open_run) same ∙ can.closed;
}

module _ {S : Type 0} (g : Ghosts S) where
  abbrev trees_of : Held S → Trees
  trees_of it = (state g it).now.trees

  -- one attempt on tables that can be migrated
  pub one_moves : (before : Held S) (it : Attempt S) → CanBeMigrated (trees_of before) → Attempted g before it
      → Are (tables (state g before)) (migrated_state (tables (state g before))) (trees_of it.found)
  one_moves before it can so =
      let these = tables (state g before) in
      let read = so.migrates.reads so.clean.0 in
      found_so g it.ended it.found (Are these (migrated_state these)) (
        (λ up. let now = read up can.sound in (now.0, elim now.1 [ inl same ↦ inl same | inr moved ↦ inr moved.1 ])),
        so.migrates.moves.crash so.clean.0 can,
      )
      so.finds so.clean.1

  -- one attempt on tables that are migrated
  one_stays : (s : machine.State) (before : Held S) (it : Attempt S) → IsSound (trees_of before) → tables (state g before) ≡ migrated_state s
      → Attempted g before it → AreTables (λ t. t ≡ migrated_state s) (trees_of it.found)
  one_stays s before it sound is so =
      let never = not_again s (trees_of before) is in
      let read = so.migrates.reads so.clean.0 in
      found_so g it.ended it.found (AreTables (λ t. t ≡ migrated_state s)) (
        (λ up. let now = read up sound in (now.0, elim now.1 [ inl same ↦ same ∙ is | inr moved ↦ absurd (never moved.0) ])),
        (λ left may. subst (AreTables (λ t. t ≡ migrated_state s)) (sym (so.migrates.moves.untouched so.clean.0 never left may)) (sound, is)),
      )
      so.finds so.clean.1

  all_stay : (s : machine.State) (before after : Held S) (attempts : List (Attempt S)) → AreTables (λ t. t ≡ migrated_state s) (trees_of before)
      → AreAttempts g before attempts after → AreTables (λ t. t ≡ migrated_state s) (trees_of after)
  all_stay s before after [] here so = subst (λ (h : Held S). AreTables (λ t. t ≡ migrated_state s) (trees_of h)) (sym so) here
  all_stay s before after (it ∷ later) here so = all_stay s it.found after later (one_stays s before it here.0 here.1 so.0) so.1

  -- from tables that are still these
  all_move : (these : machine.State) (before after : Held S) (attempts : List (Attempt S)) → CanBeMigrated (trees_of before)
      → tables (state g before) ≡ these → AreAttempts g before attempts after → Are these (migrated_state these) (trees_of after)
  all_move these before after [] can is so = subst (λ (h : Held S). Are these (migrated_state these) (trees_of h)) (sym so) (can.sound, inl is)
  all_move these before after (it ∷ later) can is so =
      let here = one_moves before it can so.0 in
      elim here.1 [
        | inl same ↦
            all_move these it.found after later (still_can (trees_of before) (trees_of it.found) can here.0 same) (same ∙ is) so.1
        | inr moved ↦
            let all = all_stay these it.found after later (here.0, moved ∙ ap migrated_state is) so.1 in
            (all.0, inr all.1)
      ]

  pub migrations_move_once : MigrationsMoveOnce g
  migrations_move_once before after attempts can so = all_move (tables (state g before)) before after attempts can refl so

  -- the calls of a history leave the version
  version_goes_on : (first : Held S) (history : List (Moment S)) (last : Moment S) → IsSoundIn g first → IsHistory g first (history ++ last ∷ [])
      → IsSoundIn g last.found × ((tables (state g last.found)).books.version ≡ (tables (state g first)).books.version)
  version_goes_on first [] last sound so =
      let here = found_after g first last sound so.0 in
      (here.0, comes_so (event_of last.call) (tables (state g first)) (tables (state g last.found)) here.1)
  version_goes_on first (it ∷ later) last sound so =
      let here = found_after g first it sound so.0 in
      let rest = version_goes_on it.found later last here.0 so.1 in
      (rest.0, rest.1 ∙ comes_so (event_of it.call) (tables (state g first)) (tables (state g it.found)) here.1)

  pub lives_go_on_over_migrations : AllLives batch_size → LivesGoOnOverMigrations g
  lives_go_on_over_migrations lives first moved earlier later last final attempts was_first ends tried is_second ends_again =
      let one = tables_are_the_machines g lives first earlier last ends in
      let two = tables_are_the_machines g lives moved later final ends_again in
      let middle = one.1 in
      let kept = version_goes_on first earlier last ends.sound ends.calls in
      let closed : (tables (state g last.found)).open_run ≡ None = ap (λ (t : machine.State). t.open_run) one.3.same ∙ one.3.closed in
      let can : CanBeMigrated (trees_of last.found) = record { sound = kept.0; first = kept.1 ∙ was_first; closed = closed } in
      let after = all_move middle last.found moved attempts can one.3.same tried in
      let is : tables (state g moved) ≡ migrated_state middle = elim after.1 [
        | inl same ↦
            let version = ap (λ (t : machine.State). t.books.version) same in
            let of_first : middle.books.version ≡ First = sym (ap (λ (t : machine.State). t.books.version) one.3.same) ∙ kept.1 ∙ was_first in
            let two_are_one : Second ≡ First = sym is_second ∙ version ∙ of_first in
            cc
        | inr so ↦ so
      ] in
      let none : (tables (state g moved)).open_run ≡ None = ap (λ (t : machine.State). t.open_run) is ∙ one.3.closed in
      let order = sound_in_order (trees_of moved) after.0 in
      let begins : state_of batch_size (tables_of g moved) ≡ migrated_state middle =
      own_state batch_size (tables (state g moved)) (shows_none batch_size (tables (state g moved)) none order) ∙ is in (
        one.0,
        two.0,
        middle,
        two.1,
        one.2,
        subst (λ (from : machine.State). StandBehind g from two.0 two.1 (later ++ final ∷ [])) begins two.2,
        two.3,
      )
