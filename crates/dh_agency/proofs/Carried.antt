-- What a command makes of the tables, from what its transactions make of them.
use Rattle.std.proofs.Common.{◌≡◌, ◌∙◌, ◌⊎◌, sym, inl, inr, true, None, Result, Ok, Err, OnErr}
use Rattle.sqlite.specs.State.{State}
use Rattle.sqlite_trees.specs.Tree.{Trees}
use Rattle.dh_types.specs.declared.command.Command.{Command}
use Rattle.dh_types.specs.declared.command.Command.TheVariants as command
use Rattle.dh_types.specs.declared.command.RunOrder.{RunOrder}
use Rattle.dh_types.specs.declared.reply.Reply.{Reply}
use Rattle.dh_types.specs.declared.reply.Reply.TheVariants as reply
use Rattle.dh_types.specs.declared.reply.Refusal.{Refusal}
use Rattle.dh_types.specs.declared.version.Version.{Version}
use Rattle.dh_types.specs.declared.version.Version.TheVariants.{First, Second}
use Rattle.dh_model.specs.Books as machine
use Rattle.dh_model.specs.declared.rows.Change.{Change}
use Rattle.dh_model.specs.declared.rows.Verdict.{Verdict}
use Rattle.dh_model.specs.declared.rows.Verdict.TheVariants as verdict
use Rattle.dh_model.specs.Kinds.{IsSince}
use Rattle.dh_model.specs.Machine.{accepted}
use Rattle.dh_model.specs.Runs.{batch_size}
use Rattle.dh_model.specs.Verdicts.{run_verdict, verdict_on}
use Rattle.dh_laws.specs.Batches.{is_plain}
use Rattle.dh_laws.specs.InOrder.{IsEntered}
use Rattle.dh_laws.specs.Looks.{AcceptedChangesFit, FitsIn}
use Rattle.dh_laws.specs.Events.{Answered}
use Rattle.dh_laws.specs.StateTables.{IsStateInOrder, as_tables}
use Rattle.dh_laws.proofs.CommandLemmas.Carried.{opening_cut, opening_said, refused_said, rows_cut, rows_in_order, rows_said, same_cut}
use Rattle.dh_laws.proofs.InvariantLemmas.Versions.{the_version_stays}
use Rattle.dh_schema.specs.Store as store
use Rattle.dh_schema.specs.Store.{IsReady, Leaves, with_change}
use Rattle.dh_schema.specs.Tables.{IsSound, state_in}
use Rattle.dh_schema.proofs.Keyed.{books_are_keyed, sound_tables_show_their_run}
use Rattle.dh_schema.specs.Changes.{HasPlace, came_with_rows}
use Rattle.dh_runs.specs.Outcomes.{IsInterrupted, IsAnsweredBy}
use Rattle.dh_runs.proofs.Carried.{begins, open_is_accepted, opening_accepted}

pub on_err : {A E P : Type 0} (r : Result A E) → P → OnErr r P
on_err (Ok a) p = tt
on_err (Err e) p = p

-- sound tables are those that an office works on
pub sound_in_order : (trees : Trees) → IsSound trees → IsStateInOrder (state_in trees)
sound_in_order trees sound = record { keyed = books_are_keyed trees; rules = sound.rules; shown = sound_tables_show_their_run trees sound }

in_order : (s : State) → IsReady s → IsStateInOrder (store.tables s)
in_order s ready = sound_in_order s.now.trees ready.sound

pub refused : (told : Command) (why : Refusal) (it : Verdict) (old : State) (t : machine.State) → IsReady old
    → it ≡ verdict_on (store.tables old).books (store.tables old).open_run told → it ≡ verdict.Refused why → t ≡ store.tables old
    → IsAnsweredBy told (reply.Refused why) (store.tables old) t
refused told why it old t ready found h is = refused_said (store.tables old) t told why (in_order old ready) (sym found ∙ h) is

-- ---- the version

since_second : (since version : Version) → version ≡ Second → IsSince since version
since_second First version is = tt
since_second Second version is = is

-- tables of the second version have a place for all rows
pub has_place : {version : Version} (rows : Change) → version ≡ Second → HasPlace version rows
has_place {version = version} rows is = since_second (came_with_rows rows) version is

-- and stay so where a command was answered
pub still_second : (told : Command) (said : Reply) (s t : machine.State) → IsAnsweredBy told said s t → s.books.version ≡ Second → t.books.version ≡ Second
still_second told said s t is second = the_version_stays batch_size (Answered told said) (as_tables s) (as_tables t) is ∙ second

-- ---- what a crash leaves

pub leaves_weaker : (s : State) (P Q : machine.State → Type 0) → ((t : machine.State) → P t → Q t) → Leaves s P → Leaves s Q
leaves_weaker s P Q f h left may = let it = h left may in (it.0, f (state_in left) it.1)

pub same_crash : (told : Command) (s : machine.State) (new : State) → Leaves new (λ t. t ≡ s) → Leaves new (IsInterrupted told s)
same_crash told s new left = leaves_weaker new (λ t. t ≡ s) (IsInterrupted told s) (λ t is. same_cut told s t is) left

-- nothing or all of a transaction
either_cut : (told : Command) (s b : machine.State) (new : State) → ((t : machine.State) → t ≡ b → IsInterrupted told s t)
    → Leaves new (λ t. (t ≡ s) ⊎ (t ≡ b)) → Leaves new (IsInterrupted told s)
either_cut told s b new done left = leaves_weaker new (λ t. (t ≡ s) ⊎ (t ≡ b)) (IsInterrupted told s) by left
  where
    by : (t : machine.State) → (t ≡ s) ⊎ (t ≡ b) → IsInterrupted told s t
    by t (inl same) = same_cut told s t same
    by t (inr is) = done t is

-- ---- an opening

module _ (order : RunOrder) (rows : Change) (old : State) (ready : IsReady old)
    (h : verdict_on (store.tables old).books (store.tables old).open_run (command.Open order) ≡ verdict.Change rows) where
  abbrev before : machine.State
  before = store.tables old

  it : (before.open_run ≡ None) × (run_verdict before.books order ≡ verdict.Change rows)
  it = open_is_accepted before.books before.open_run order rows h

  abbrev opened : machine.State
  opened = with_change rows before

  pub open_said : (t : machine.State) → t ≡ opened → IsAnsweredBy (command.Open order) (reply.Opened order.month) before t
  open_said t is =
      opening_said before order it.0 (in_order old ready) (opening_accepted order rows before it.1) t (is ∙ begins order rows before it.1)

  pub open_crash : (new : State) → Leaves new (λ t. (t ≡ before) ⊎ (t ≡ opened)) → Leaves new (IsInterrupted (command.Open order) before)
  open_crash new left =
      either_cut (command.Open order) before opened new
      (λ t is. opening_cut before order it.0 (in_order old ready) (opening_accepted order rows before it.1) t (is ∙ begins order rows before it.1)) left

-- ---- rows of an accepted command

module _ (told : Command) (rows : Change) (old : State) (ready : IsReady old)
    (h : verdict_on (store.tables old).books (store.tables old).open_run told ≡ verdict.Change rows) where
  abbrev s : machine.State
  s = store.tables old

  pub put_fits : AcceptedChangesFit batch_size → FitsIn rows s.books
  put_fits law = law s.books s.open_run told rows (in_order old ready) h

  module _ (entered : IsEntered told) where
    pub put_in_order : IsStateInOrder (with_change rows s)
    put_in_order = rows_in_order s told rows (in_order old ready) entered h

    module _ (plain : is_plain rows ≡ true) where
      pub put_said : (it : Reply) (t : machine.State) → it ≡ accepted rows → t ≡ with_change rows s → IsAnsweredBy told it s t
      put_said it t answered is = rows_said s told rows (in_order old ready) entered h plain it t answered is

      pub put_crash : (new : State) → Leaves new (λ t. (t ≡ s) ⊎ (t ≡ with_change rows s)) → Leaves new (IsInterrupted told s)
      put_crash new left = either_cut told s (with_change rows s) new (rows_cut s told rows (in_order old ready) entered h plain) left
