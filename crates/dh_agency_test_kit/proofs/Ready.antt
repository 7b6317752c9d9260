-- Sound tables that were read, and stand as they were.
use Rattle.std.proofs.Common.{◌≡◌, ◌∙◌, sym, subst}
use Rattle.sqlite.specs.Effect.{Database}
use Rattle.sqlite.specs.State.{IsUnchanged, State}
use Rattle.dh_model.specs.Rules.{MeetsRules}
use Rattle.dh_model.specs.Runs.{batch_size}
use Rattle.dh_ddl.specs.Versions.{IsOurs, schema_of}
use Rattle.dh_tables.specs.Calls.{HasOurTables}
use Rattle.dh_schema.specs.Store.{HasItsSchema, IsReady, tables}
use Rattle.dh_schema.specs.Tables.{AreInOrder, IsSound, version_of_tables}
use Rattle.dh_runs.specs.Taking.{IsResting}

pub ready_now : (old new : State) → IsResting old → HasOurTables old → HasItsSchema old → AreInOrder old.now.trees
    → MeetsRules (tables old).books batch_size → IsUnchanged old new → IsReady new
ready_now old new rests ours its order rules same = record {
  is_open = same.0.is_open;
  autocommit = same.0.mode ∙ rests.autocommit;
  schema = subst (λ (d : Database). IsOurs d.schema) (sym same.0.now_is) ours;
  version = subst (λ (d : Database). d.schema ≡ schema_of (version_of_tables d.trees)) (sym same.0.now_is) its;
  settled = same.0.now_is ∙ rests.settled ∙ sym same.0.committed_is;
  sound = subst (λ (d : Database). IsSound d.trees) (sym same.0.now_is) (record { in_order = order; rules = rules });
}
