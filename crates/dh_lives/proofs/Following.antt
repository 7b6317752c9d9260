-- What is found after a call, and that histories are events.
use Rattle.std.proofs.Common.{◌≡◌, ◌⊎◌, inl, inr, refl, sym, ap, subst, IsTrue, List, [], ◌∷◌, Option, Some, None}
use Rattle.sqlite.specs.Store.{Ghosts}
use Rattle.sqlite.specs.State.{State, HasCleanDisk}
use Rattle.sqlite.specs.Effect.{Database, IsDatabase}
use Rattle.sqlite.specs.Held.{Held, state}
use Rattle.sqlite_trees.specs.Tree.{Trees}
use Rattle.dh_types.specs.declared.command.Command.TheVariants as command
use Rattle.dh_model.specs.Books as machine
use Rattle.dh_model.specs.Runs.{batch_size}
use Rattle.dh_laws.specs.Batches.{IsPostedInPart}
use Rattle.dh_laws.specs.Events.{Event, Follow, Happens, Tables}
use Rattle.dh_laws.specs.StateTables as tabled
use Rattle.dh_ddl.specs.Versions.{each_is_ours}
use Rattle.dh_tables.specs.Calls.{HasOurTables}
use Rattle.dh_schema.specs.Store.{AreTables, tables}
use Rattle.dh_schema.specs.Tables.{IsSound, state_in, version_of_tables}
use Rattle.dh_schema.proofs.Keyed.{sound_tables_show_their_run}
use Rattle.dh_runs.proofs.Taken.{its_schema}
use Rattle.dh_runs.specs.Outcomes.{IsInterrupted, IsRecovered, IsAnsweredBy, IsMidRecovery, reply_of}
use Rattle.dh_agency.specs.Taken.{TakesAsTheyAre}
use Rattle.dh_lives.specs.Calls.{Answers, Breaks, BreaksRecovery, Call, IsSame, Tells}
use Rattle.dh_lives.specs.Calls.{Stepped, StepInterrupted, Resumed, ResumeInterrupted, Shown}
use Rattle.dh_lives.specs.Calls.{ShowInterrupted, Attached, AttachInterrupted, Recovered, RecoveryInterrupted}
use Rattle.dh_lives.specs.Histories.{GoesOn, Happened, IsOpenedAnew, IsSoundIn, Moment, event_of, events_of, tables_of, with_event}
use Rattle.dh_lives.specs.HistoryLaws.{HistoriesAreEvents}

-- what the event makes of the tables, or that they are the same where there is none
abbrev pub Comes : Option Event → machine.State → machine.State → Type 0
Comes None before after = after ≡ before
Comes (Some event) before after = Happens batch_size event (tabled.as_tables before) (tabled.as_tables after)

-- the tables that are read while the store is open are such, and each outcome of a crash
abbrev pub IsLeft : State → (Trees → Type 0) → Type 0
IsLeft s P = (IsTrue s.is_open → P s.now.trees) × ((left : Trees) → s.may_leave left → P left)

module _ (old new : State) (clean : HasCleanDisk new) where
  abbrev pub Becomes : (machine.State → machine.State → Type 0) → Trees → Type 0
  Becomes P = AreTables (P (tables old))

  pub answered : (P : machine.State → machine.State → Type 0) → Answers old new P → IsLeft new (Becomes P)
  answered P told =
      let alone = told.left clean in
      let here : Becomes P new.now.trees = (alone.sound, told.said clean) in
      (λ up. here, λ left may. subst (Becomes P) (sym (alone.only left may)) here)

  pub broken : (P : machine.State → machine.State → Type 0) → Breaks old new P → IsLeft new (Becomes P)
  broken P told = (λ up. let it = told.halted clean up in (it.0.sound, it.1), told.crash clean)

  pub mid_recovery : IsSound old.now.trees → BreaksRecovery old new → IsLeft new (Becomes IsMidRecovery)
  mid_recovery sound told = (λ up. let it = told.halted clean up sound in (it.1, it.2), told.forward.crash clean sound)

  left_be : IsSound old.now.trees → TakesAsTheyAre old new → IsLeft new (Becomes IsSame)
  left_be sound told =
      let here : Becomes IsSame old.now.trees = (sound, refl) in (
        λ up. subst (λ (d : Database). Becomes IsSame d.trees) (sym (told.same clean up).1) here,
        λ left may. subst (Becomes IsSame) (sym (told.crash clean left may)) here,
      )

  -- of any weaker fact as well
  weaker : (P Q : machine.State → machine.State → Type 0) → ((t : machine.State) → P (tables old) t → Q (tables old) t) → IsLeft new (Becomes P)
      → IsLeft new (Becomes Q)
  weaker P Q f it =
      (λ up. let read = it.0 up in (read.0, f (tables new) read.1), λ left may. let left_so = it.1 left may in (left_so.0, f (state_in left) left_so.1))

  -- a call leaves what its event makes of the tables
  pub left_by : (call : Call) → IsSound old.now.trees → Tells call old new → IsLeft new (Becomes (Comes (event_of call)))
  left_by (Stepped told reply) sound it = answered (IsAnsweredBy told reply) it
  left_by (StepInterrupted told) sound it = broken (IsInterrupted told) it
  left_by (Resumed most run) sound it = answered (IsAnsweredBy (command.Post most) (reply_of run)) it
  left_by (ResumeInterrupted most) sound it = weaker (IsPostedInPart most) (IsInterrupted (command.Post most)) (λ t part. inl part)
      (broken (IsPostedInPart most) it)
  left_by Shown sound it = answered IsSame it
  left_by ShowInterrupted sound it = broken IsSame it
  left_by Attached sound it =
      weaker IsSame (λ before after. tabled.as_tables after ≡ tabled.as_tables before) (λ t same. ap tabled.as_tables same) (answered IsSame it)
  left_by AttachInterrupted sound it = left_be sound it
  left_by Recovered sound it = answered IsRecovered it
  left_by RecoveryInterrupted sound it = mid_recovery sound it

module _ {S : Type 0} (g : Ghosts S) where
  -- what is read of it
  pub found_so : (ended found : Held S) (P : Trees → Type 0) → IsLeft (state g ended) P → GoesOn g ended found ⊎ IsOpenedAnew g ended found
      → HasCleanDisk (state g found) → P (state g found).now.trees
  found_so ended found P left (inl on) clean = subst (λ (h : Held S). P (state g h).now.trees) (sym on.0) (left.0 on.1)
  found_so ended found P left (inr anew) clean = left.1 (state g found).now.trees (anew clean)

  pub found_after : (before : Held S) (it : Moment S) → IsSoundIn g before → Happened g before it
      → AreTables (Comes (event_of it.call) (tables (state g before))) (state g it.found).now.trees
  found_after before it sound so =
      found_so it.ended it.found (AreTables (Comes (event_of it.call) (tables (state g before))))
      (left_by (state g before) (state g it.ended) so.clean.0 it.call sound so.tells) so.finds so.clean.1

  joined : (event : Option Event) (before found : Held S) (events : List (Event × Tables)) → IsSoundIn g found
      → Comes event (tables (state g before)) (tables (state g found)) → Follow batch_size (tables_of g found) events
      → Follow batch_size (tables_of g before) (with_event event (tables_of g found) events)
  joined None before found events sound same later = subst (λ (t : Tables). Follow batch_size t events) (ap tabled.as_tables same) later
  joined (Some event) before found events sound it later = (sound_tables_show_their_run (state g found).now.trees sound, it, later)

  -- sound tables have the schema of their version, which is one of ours
  ours : (it : Held S) → IsSoundIn g it → IsDatabase (state g it).now → HasOurTables (state g it)
  ours it sound lists =
      let now = (state g it).now in
      each_is_ours (version_of_tables now.trees) now.schema (its_schema now lists sound)

  pub histories_are_events : HistoriesAreEvents g
  histories_are_events start [] sound so = (tt, tt)
  histories_are_events start (it ∷ later) sound so =
      let here = found_after start it sound so.0 in
      let next = histories_are_events it.found later here.0 so.1 in
      (joined (event_of it.call) start it.found (events_of g later) here.0 here.1 next.0, (here.0, ours it.found here.0 so.0.lists, next.1))
