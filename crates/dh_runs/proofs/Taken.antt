-- Tables that were only looked at, as what a recovery may leave.
use Rattle.std.proofs.Common.{◌≡◌, ◌≤◌, ◌∙◌, sym, ap, subst, pos, Some, Result, Ok, Err, OnOk, IfErr, IsTrue, arith}
use Rattle.sqlite_trees.specs.Objects.{catalog_tree}
use Rattle.sqlite_trees.specs.Tree.{Trees}
use Rattle.sqlite_catalog.proofs.ReadLemmas.{lists_once}
use Rattle.sqlite.specs.Effect.{Database, IsDatabase}
use Rattle.sqlite.specs.Store.{Ghosts}
use Rattle.sqlite.specs.State.{HasCleanDisk, State}
use Rattle.sqlite.specs.Held.{Held, state}
use Rattle.sqlite_trees.specs.View.{doubt}
use Rattle.dh_types.specs.declared.version.Version.{Version}
use Rattle.dh_types.specs.declared.reply.Refusal.TheVariants as refusal
use Rattle.dh_rows.specs.Cells.{version_number}
use Rattle.dh_model.specs.Books as machine
use Rattle.dh_model.specs.Runs.{batch_size}
use Rattle.dh_laws.specs.Events.{Recovered}
use Rattle.dh_laws.specs.StateTables.{as_tables}
use Rattle.dh_laws.proofs.InvariantLemmas.Versions.{the_version_stays}
use Rattle.dh_laws.proofs.CommandLemmas.Carried.{part_is_mid_recovery}
use Rattle.dh_laws.proofs.StandingLemmas.Batches.{same_in_part}
use Rattle.dh_ddl.specs.Versions.{each_is_ours, schema_of}
use Rattle.dh_tables.specs.Calls.{HasOurTables}
use Rattle.dh_schema.specs.Store.{AreTables, IsReadyWith, Leaves, tables}
use Rattle.dh_schema.specs.Tables.{IsSound, state_in, version_of_tables}
use Rattle.dh_schema.proofs.ReadTables.{version_given}
use Rattle.dh_runs.specs.declared.problem.Problem.{Problem}
use Rattle.dh_runs.specs.declared.problem.Problem.TheVariants as problem
use Rattle.dh_runs.specs.Taken.{Halts, RestsMidRecovery, TakesForward}
use Rattle.dh_runs.specs.Taking.{CanBeTaken, GivesVersion, HasTablesOfAnother, HasVersion, IsFirstProblem, IsOfVersion, IsProblemOf, ReadsAsItDid}
use Rattle.dh_runs.specs.Taking.{Takes, TakesAsTheyAre}
use Rattle.dh_runs.specs.Outcomes.{IsRecovered, IsMidRecovery}

-- sound tables are listed by the schema of their version, and a list tells one schema
pub its_schema : (d : Database) → IsDatabase d → IsSound d.trees → d.schema ≡ schema_of (version_of_tables d.trees)
its_schema d lists sound =
    lists_once (d.trees catalog_tree) d.schema (schema_of (version_of_tables d.trees)) lists.lists sound.in_order.listed.lists

-- a recovery that was stopped before its first batch
same_is_mid_recovery : (s t : machine.State) → t ≡ s → IsMidRecovery s t
same_is_mid_recovery s t is = part_is_mid_recovery 0 s t (same_in_part 0 s t is)

pub left_mid_recovery : (old : State) → IsSound old.now.trees → (left : Trees) → left ≡ old.now.trees → AreTables (IsMidRecovery (tables old)) left
left_mid_recovery old sound left is = (subst IsSound (sym is) sound, same_is_mid_recovery (tables old) (state_in left) (ap state_in is))

module _ (old new : State) where
  pub same_tables : ReadsAsItDid old new → tables new ≡ tables old
  same_tables it = ap (λ (d : Database). state_in d.trees) it.1

  pub rests_mid_recovery : IsSound old.now.trees → ReadsAsItDid old new → RestsMidRecovery old new
  rests_mid_recovery sound it =
      let trees : old.now.trees ≡ new.now.trees = ap (λ (d : Database). d.trees) (sym it.1) in
      (it.0, subst IsSound trees sound, same_is_mid_recovery (tables old) (tables new) (same_tables it))

  pub still_mid_recovery : IsDatabase old.now → IsSound old.now.trees → ReadsAsItDid old new → IsReadyWith new (IsMidRecovery (tables old))
  still_mid_recovery lists sound it =
      let rests = rests_mid_recovery sound it in
      let its = its_schema new.now (subst IsDatabase (sym it.1) lists) rests.1 in (
        record {
          is_open = it.0.is_open;
          autocommit = it.0.autocommit;
          schema = each_is_ours (version_of_tables new.now.trees) new.now.schema its;
          version = its;
          settled = it.0.settled;
          sound = rests.1;
        },
        rests.2,
      )

  pub ready_rests : IsReadyWith new (IsMidRecovery (tables old)) → RestsMidRecovery old new
  ready_rests it = (
    record { is_open = it.0.is_open; autocommit = it.0.autocommit; settled = it.0.settled },
    it.0.sound,
    it.1,
  )

-- sound tables of which meta gives a version are those of this version
pub version_taken : (version : Version) (old mid new : State) → GivesVersion version old.now.trees → mid.now ≡ old.now → IsSound mid.now.trees
    → new.now ≡ mid.now → HasVersion version new
version_taken version old mid new given first sound same =
    ap (λ (d : Database). version_of_tables d.trees) same
    ∙ version_given version mid.now.trees sound.in_order (subst (λ (d : Database). GivesVersion version d.trees) (sym first) given)

-- and so they are what is taken
pub can_be_taken : (version : Version) (old mid : State) → GivesVersion version old.now.trees → mid.now ≡ old.now → IsSound mid.now.trees
    → CanBeTaken version old.now.trees
can_be_taken version old mid given first sound =
    let was : IsSound old.now.trees = subst (λ (d : Database). IsSound d.trees) first sound in
    record { sound = was; version = version_given version old.now.trees was.in_order given }

-- nor are they refused as those of another
of_its_version : (wanted : Version) (trees : Trees) (it : Problem) → GivesVersion wanted trees → IsProblemOf wanted trees it → IsOfVersion it → ⊥
of_its_version wanted trees (problem.Refused (refusal.Version found)) given h is =
    let same : Some found ≡ Some (pos (version_number wanted)) = sym h.0 ∙ given in
    h.1 (cc)
of_its_version wanted trees _ given h is = is

-- the rows were looked at behind the version
pub rows_taken : {S X : Type 0} (g : Ghosts S) (wanted : Version) (old mid new : Held S) (result : Result X Problem) → HasOurTables (state g old)
    → (HasCleanDisk (state g mid) → GivesVersion wanted (state g old).now.trees)
    → (HasCleanDisk (state g mid) → HasTablesOfAnother wanted (state g old) → ⊥)
    → (HasCleanDisk (state g mid) → (state g mid).now ≡ (state g old).now) → doubt (state g mid).is_clean ≤ doubt (state g new).is_clean
    → (HasCleanDisk (state g new) → OnOk result (IsSound (state g mid).now.trees))
    → (HasCleanDisk (state g new) → IfErr result (IsProblemOf wanted (state g mid).now.trees)) → IfErr result IsFirstProblem
    → Takes g wanted old new result
rows_taken g wanted old mid new (Ok x) ours given never first was sound refused cause = record {
  taken = λ clean.
      let early : HasCleanDisk (state g mid) = omega (arith, was, clean) in
      can_be_taken wanted (state g old) (state g mid) (given early) (first early) (sound clean);
  refused = λ clean. tt;
  cause = tt;
  of_version = λ clean. tt;
  others = λ wrong. absurd (wrong ours);
  another = λ clean has. absurd (never (omega (arith, was, clean)) has);
}
rows_taken g wanted old mid new (Err e) ours given never first was sound refused cause =
    let early : HasCleanDisk (state g new) → HasCleanDisk (state g mid) = λ clean. omega (arith, was, clean) in
    let told : HasCleanDisk (state g new) → IsProblemOf wanted (state g old).now.trees e =
    λ clean. subst (λ (d : Database). IsProblemOf wanted d.trees e) (first (early clean)) (refused clean) in
    record {
      taken = λ clean. tt;
      refused = told;
      cause = cause;
      of_version = λ clean is. absurd (of_its_version wanted (state g old).now.trees e (given (early clean)) (told clean) is);
      others = λ wrong. absurd (wrong ours);
      another = λ clean has. absurd (never (early clean) has);
    }

-- they stay so where a recovery came to its end
pub version_recovered : (version : Version) (mid new : State) → HasVersion version mid → IsRecovered (tables mid) (tables new) → HasVersion version new
version_recovered version mid new was was_recovered = the_version_stays batch_size Recovered (as_tables (tables mid)) (as_tables (tables new)) was_recovered
    ∙ was

-- ---- a recovery

-- of tables that were not taken
pub left_forward : (old new : State) → TakesAsTheyAre old new → TakesForward old new
left_forward old new kept = record {
  was_clean = kept.was_clean;
  crash = λ clean sound left may. left_mid_recovery old sound left (kept.crash clean left may);
  untouched = λ wrong. kept;
}

pub left_halted : (old new : State) → (HasCleanDisk new → IsDatabase old.now) → TakesAsTheyAre old new → Halts old new
left_halted old new lists kept = record {
  ready = λ clean up ours sound. still_mid_recovery old new (lists clean) sound (kept.same clean up);
  resting = λ clean up sound. rests_mid_recovery old new sound (kept.same clean up);
}

-- of those that were, and then moved on
module _ (wanted : Version) (old mid new : State) (kept : TakesAsTheyAre old mid) (up : HasCleanDisk mid → IsTrue mid.is_open)
    (taken : HasCleanDisk mid → CanBeTaken wanted old.now.trees) (was : doubt mid.is_clean ≤ doubt new.is_clean) where
  early : HasCleanDisk new → HasCleanDisk mid
  early clean = omega (arith, was, clean)

  same : HasCleanDisk new → tables mid ≡ tables old
  same clean = let at = early clean in same_tables old mid (kept.same at (up at))

  unless_taken : (HasCleanDisk new → ⊥) → TakesAsTheyAre old new
  unless_taken never = record {
    was_clean = omega (arith, kept.was_clean, was);
    same = λ clean. absurd (never clean);
    crash = λ clean. absurd (never clean);
  }

  pub not_untaken : ¬ CanBeTaken wanted old.now.trees → TakesAsTheyAre old new
  not_untaken wrong = unless_taken (λ clean. wrong (taken (early clean)))

  pub moved_forward : (HasCleanDisk new → Leaves new (IsMidRecovery (tables mid))) → TakesForward old new
  moved_forward crash = record {
    was_clean = omega (arith, kept.was_clean, was);
    crash = λ clean sound. subst (λ (t : machine.State). Leaves new (IsMidRecovery t)) (same clean) (crash clean);
    untouched = λ wrong. unless_taken (λ clean. wrong (taken (early clean)).sound);
  }

  pub moved_halted : (HasCleanDisk new → IsTrue new.is_open → IsReadyWith new (IsMidRecovery (tables mid))) → Halts old new
  moved_halted halted =
      let ready = λ (clean : HasCleanDisk new) (up : IsTrue new.is_open).
      subst (λ (t : machine.State). IsReadyWith new (IsMidRecovery t)) (same clean) (halted clean up) in
      record { ready = λ clean up ours sound. ready clean up; resting = λ clean up sound. ready_rests old new (ready clean up) }
