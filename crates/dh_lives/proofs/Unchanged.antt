-- Sound tables with which the machine stands alike are the same.
use Rattle.std.proofs.Common.{◌≡◌, ap, true, [], ◌∷◌, Result, Ok, Err, IfOk, OnOk}
use Rattle.std.proofs.lemmas.Bool.{false≢true}
use Rattle.sqlite.specs.Store.{Ghosts}
use Rattle.sqlite.specs.Held.{state}
use Rattle.sqlite_trees.specs.Tree.{Trees}
use Rattle.dh_types.specs.declared.command.Command.{Command}
use Rattle.dh_types.specs.declared.command.Command.TheVariants as command
use Rattle.dh_types.specs.declared.reply.Reply.{Reply}
use Rattle.dh_model.specs.Books as machine
use Rattle.dh_model.specs.Runs.{batch_size}
use Rattle.dh_laws.specs.Events.{Tables}
use Rattle.dh_laws.specs.Repeating.{is_of_nothing_new}
use Rattle.dh_laws.specs.Standings as laws
use Rattle.dh_schema.specs.Tables.{IsSound, state_in, tables_in}
use Rattle.dh_runs.specs.Outcomes.{IsAnsweredBy, reply_of}
use Rattle.dh_agency.specs.Agency.{LeavesItsTables, machine as machine_of}
use Rattle.dh_agency.specs.AgencyView.{AgencyView}
use Rattle.dh_lives.specs.Answered.{NothingNewLeavesTheTables, StandingDeterminesTheTables}
use Rattle.dh_lives.specs.Calls.{Call}
use Rattle.dh_lives.specs.Calls.{Stepped, StepInterrupted, Resumed, ResumeInterrupted, Shown}
use Rattle.dh_lives.specs.Calls.{ShowInterrupted, Attached, AttachInterrupted, Recovered, RecoveryInterrupted}
use Rattle.dh_lives.specs.Histories.{IsSoundIn, brings_nothing_new, event_of}
use Rattle.dh_lives.specs.HistoryLaws.{TablesStayWhereNothingIsNew}
use Rattle.dh_lives.proofs.Ending.{sound_in_order}
use Rattle.dh_lives.proofs.Following.{Comes, found_after}

abbrev as_state : Tables → machine.State
as_state t = record { books = t.books; open_run = t.run }

pub standing_determines_the_tables : laws.StandingDeterminesTheTables batch_size → StandingDeterminesTheTables
standing_determines_the_tables tells before after sound sound_after alike =
    ap as_state (tells (tables_in before) (tables_in after) (sound_in_order before sound) (sound_in_order after sound_after) alike)

pub nothing_new_leaves_the_tables : laws.NothingNewLeavesTheTables batch_size → NothingNewLeavesTheTables
nothing_new_leaves_the_tables leaves before after told reply sound sound_after said nothing =
    ap as_state (leaves (tables_in before) (tables_in after) told reply (sound_in_order before sound) (sound_in_order after sound_after) said nothing)

module _ (leaves : NothingNewLeavesTheTables) where
  -- where nothing new comes of the call, its event leaves the tables
  stay_by : (call : Call) (before after : Trees) → IsSound before → IsSound after → brings_nothing_new call ≡ true
      → Comes (event_of call) (state_in before) (state_in after) → state_in after ≡ state_in before
  stay_by (Stepped told reply) before after sound sound_after nothing so = leaves before after told reply sound sound_after so nothing
  stay_by (StepInterrupted told) before after sound sound_after nothing so = absurd (false≢true nothing)
  stay_by (Resumed most it) before after sound sound_after nothing so =
      leaves before after (command.Post most) (reply_of it) sound sound_after so nothing
  stay_by (ResumeInterrupted most) before after sound sound_after nothing so = absurd (false≢true nothing)
  stay_by Shown before after sound sound_after nothing so = so
  stay_by ShowInterrupted before after sound sound_after nothing so = so
  stay_by Attached before after sound sound_after nothing so = ap as_state so
  stay_by AttachInterrupted before after sound sound_after nothing so = so
  stay_by Recovered before after sound sound_after nothing so = absurd (false≢true nothing)
  stay_by RecoveryInterrupted before after sound sound_after nothing so = absurd (false≢true nothing)

module _ {S : Type 0} (g : Ghosts S) where
  pub tables_stay_where_nothing_is_new : laws.NothingNewLeavesTheTables batch_size → TablesStayWhereNothingIsNew g
  tables_stay_where_nothing_is_new leaves first [] sound so = tt
  tables_stay_where_nothing_is_new leaves first (it ∷ later) sound so =
      let here = found_after g first it sound so.0 in (
        λ nothing. stay_by (nothing_new_leaves_the_tables leaves) it.call (state g first).now.trees (state g it.found).now.trees sound here.0 nothing here.1,
        tables_stay_where_nothing_is_new leaves it.found later here.0 so.1,
      )

  -- so no row moves where nothing new came of a step
  pub step_stays : {E : Type 0} → NothingNewLeavesTheTables → (old new : AgencyView S) (told : Command) (result : Result Reply E) → IsSoundIn g old.conn
      → IfOk result (λ reply. IsAnsweredBy told reply (machine_of g old) (machine_of g new)) → OnOk result (LeavesItsTables g new)
      → IfOk result (λ reply. is_of_nothing_new reply ≡ true → machine_of g new ≡ machine_of g old)
  step_stays leaves old new told (Ok reply) sound said left =
      λ nothing. leaves (state g old.conn).now.trees (state g new.conn).now.trees told reply sound left.sound said nothing
  step_stays leaves old new told (Err e) sound said left = tt
