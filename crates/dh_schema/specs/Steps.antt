-- What each call promises that has one transaction.
use Rattle.std.specs.Prelude.{◌≡◌, ◌⊎◌, ◌≤◌, IsTrue, Result, IfErr, OnErr, OnOk}
use Rattle.sqlite_trees.specs.View.{doubt}
use Rattle.sqlite.specs.State.{HasCleanDisk, State}
use Rattle.dh_types.specs.declared.reply.Fault.{Fault}
use Rattle.dh_model.specs.Books as machine
use Rattle.dh_schema.specs.Faults.{IsFirstFault}
use Rattle.dh_schema.specs.Store.{IsReadyWith, Leaves, StaysReady, tables}

-- One step in one transaction: an answer leaves the tables that it makes, and a fault these or those before, while the store is open those
-- before. A fault is of memory or of the store.
pub record Steps {X : Type 0} (next : machine.State → machine.State) (result : Result X Fault) (old new : State) : Type 0 where
  pub done : HasCleanDisk new → OnOk result (IsReadyWith new (λ t. t ≡ next (tables old)))
  pub undone : HasCleanDisk new → IsTrue new.is_open → OnErr result (StaysReady old new)
  pub cause : IfErr result IsFirstFault
  pub crash : HasCleanDisk new → Leaves new (λ t. (t ≡ tables old) ⊎ (t ≡ next (tables old)))
  pub was_clean : doubt old.is_clean ≤ doubt new.is_clean
