-- Which tables are taken, and why others are not.
use Rattle.std.specs.Prelude.{◌≡◌, ◌≤◌, ◌⊎◌, false, IsTrue, pos, Some, None, ⊤, ℕ, Result, OnOk, IfErr}
use Rattle.sqlite.specs.Store.{Ghosts}
use Rattle.sqlite.specs.State.{HasCleanDisk, State}
use Rattle.sqlite.specs.Held.{Held, state}
use Rattle.sqlite_trees.specs.View.{doubt}
use Rattle.sqlite_trees.specs.Tree.{Trees}
use Rattle.dh_types.specs.declared.version.Version.{Version}
use Rattle.dh_types.specs.declared.reply.Refusal.{Refusal}
use Rattle.dh_types.specs.declared.reply.Refusal.TheVariants as refusal
use Rattle.dh_rows.specs.Cells.{version_number}
use Rattle.dh_model.specs.Runs.{batch_size}
use Rattle.dh_audit.specs.Audit.{IsLeastBroken}
use Rattle.dh_tables.specs.Calls.{HasOurTables}
use Rattle.dh_tables.specs.MetaTable.{meta_rows}
use Rattle.dh_schema.specs.Faults.{IsFirstFault}
use Rattle.dh_schema.specs.Store.{tables}
use Rattle.dh_schema.specs.Tables.{HasValues, IsSound, books_in, state_in}
use Rattle.dh_schema.specs.Version.{GivesAnother, only_version}
use Rattle.dh_runs.specs.declared.problem.Problem.{Problem}
use Rattle.dh_runs.specs.declared.problem.Problem.TheVariants as problem
use Rattle.dh_runs.specs.Problems.{IsNotRead}

-- Open, between transactions, with the tables that were committed last, sound or not.
pub record IsResting (s : State) : Type 0 where
  pub is_open : IsTrue s.is_open
  pub autocommit : s.in_transaction ≡ false
  pub settled : s.now ≡ s.committed

-- its tables are those of this version
abbrev pub HasVersion : Version → State → Type 0
HasVersion version s = (tables s).books.version ≡ version

-- Sound tables of this version.
pub record CanBeTaken (wanted : Version) (trees : Trees) : Type 0 where
  pub sound : IsSound trees
  pub version : (state_in trees).books.version ≡ wanted

-- meta gives this version
abbrev pub GivesVersion : Version → Trees → Type 0
GivesVersion version trees = only_version (meta_rows trees) ≡ Some (pos (version_number version))

-- it gives this version, and the tables are those of another
abbrev pub HasTablesOfAnother : Version → State → Type 0
HasTablesOfAnother version s = GivesVersion version s.now.trees × GivesAnother s

-- rule 0 is broken, where the version is not another one: a column does not hold a value of its kind, or meta gives no version
abbrev pub BreaksRuleZero : Version → Trees → Type 0
BreaksRuleZero wanted trees = (only_version (meta_rows trees) ≡ None) ⊎ (GivesVersion wanted trees × ¬ HasValues trees)

-- the rule of this number is the least that is broken
abbrev pub BreaksRule : Version → ℕ → Trees → Type 0
BreaksRule wanted rule trees = (rule ≡ 0) × BreaksRuleZero wanted trees
    ⊎ (GivesVersion wanted trees × HasValues trees × IsLeastBroken (books_in trees) batch_size rule)

-- so tables are refused of which those of one version were wanted: for another version first, then for the least rule that is broken
abbrev pub IsRefusedFor : Version → Trees → Refusal → Type 0
IsRefusedFor wanted trees (refusal.Version found) = (only_version (meta_rows trees) ≡ Some found) × ¬ (found ≡ pos (version_number wanted))
IsRefusedFor wanted trees (refusal.Damaged rule) = BreaksRule wanted rule trees
IsRefusedFor wanted trees _ = ⊥

-- a refusal that holds of the tables, or a fault of which they say nothing
abbrev pub IsProblemOf : Version → Trees → Problem → Type 0
IsProblemOf wanted trees (problem.Refused why) = IsRefusedFor wanted trees why
IsProblemOf wanted trees (problem.Fault fault) = IsFirstFault fault

-- it is refusal 16 or 17
abbrev pub IsOfTables : Refusal → Type 0
IsOfTables (refusal.Version found) = ⊤
IsOfTables (refusal.Damaged rule) = ⊤
IsOfTables _ = ⊥

abbrev pub IsFirstProblem : Problem → Type 0
IsFirstProblem (problem.Refused why) = IsOfTables why
IsFirstProblem (problem.Fault fault) = IsFirstFault fault

-- a crash leaves what the tables were
abbrev pub LeavesAsTheyWere : State → State → Type 0
LeavesAsTheyWere old new = (left : Trees) → new.may_leave left → left ≡ old.now.trees

-- it is open between transactions, and what it reads is what it read
abbrev pub ReadsAsItDid : State → State → Type 0
ReadsAsItDid old new = IsResting new × (new.now ≡ old.now)

-- What a crash leaves, and what it reads while it is open, is what the tables were.
pub record TakesAsTheyAre (old new : State) : Type 0 where
  pub was_clean : doubt old.is_clean ≤ doubt new.is_clean
  pub same : HasCleanDisk new → IsTrue new.is_open → ReadsAsItDid old new
  pub crash : HasCleanDisk new → LeavesAsTheyWere old new

-- the tables are of another version
abbrev pub IsOfVersion : Problem → Type 0
IsOfVersion (problem.Refused (refusal.Version found)) = ⊤
IsOfVersion _ = ⊥

-- Tables of the version that is wanted are taken or not: which ones, for which problem others are not, and which problems there are.
pub record Sorts {S X : Type 0} (g : Ghosts S) (wanted : Version) (CanBe : Trees → Type 0) (IsProblem : Trees → Problem → Type 0)
    (IsKnown : Problem → Type 0) (old new : Held S) (result : Result X Problem) : Type 0 where
  pub taken : HasCleanDisk (state g new) → OnOk result (CanBe (state g old).now.trees)
  pub refused : HasCleanDisk (state g new) → IfErr result (IsProblem (state g old).now.trees)
  pub cause : IfErr result IsKnown
  -- those of another version are as they were
  pub of_version : HasCleanDisk (state g new) → IfErr result (λ problem. IsOfVersion problem → ReadsAsItDid (state g old) (state g new))
  -- tables that are not ours are not touched
  pub others : ¬ HasOurTables (state g old) → IsNotRead result × (new ≡ old)
  -- nor are they refused where meta gives this version and they are those of another
  pub another : HasCleanDisk (state g new) → HasTablesOfAnother wanted (state g old) → IsNotRead result

-- sound tables of this version are wanted
abbrev pub Takes : {S X : Type 0} → Ghosts S → Version → Held S → Held S → Result X Problem → Type 0
Takes g wanted old new result = Sorts g wanted (CanBeTaken wanted) (IsProblemOf wanted) IsFirstProblem old new result
