-- From what the store says of its files to what is said of those of a job.
use Rattle.std.proofs.Common.{◌≡◌, false}
use Rattle.std.specs.Prelude.{IfOk, Result, Ok, Err}
use Rattle.sqlite_disk.specs.declared.Disk as disk
use Rattle.sqlite_wal.specs.Recovery.{Image}
use Rattle.sqlite_store.specs.declared.store.FileStore.{FileStore}
use Rattle.sqlite_store.specs.FileStore.{view}
use Rattle.sqlite.specs.Files.{IsBlankAs, IsOpened, file_state}
use Rattle.sqlite.specs.Held.{Held, IsNew}
use Rattle.sqlite.specs.Start.{FindsIn}
use Rattle.sqlite.specs.State.{HasCleanDisk}
use Rattle.dh_jobs.specs.OnFile.{IsOpenedOn}

-- an open that gave a connection
module _ {D E : Type 0} {g : disk.Ghosts D} (held : Image) where
  pub opened_on : (r : Result (Held (FileStore D g)) E) → IfOk r IsNew → IfOk r (λ c. HasCleanDisk (file_state c) → IsOpened c)
      → IfOk r (λ c. HasCleanDisk (file_state c) → FindsIn held (file_state c))
      → IfOk r (λ c. HasCleanDisk (file_state c) → (file_state c).IsShielded)
      → IfOk r (λ c. HasCleanDisk (file_state c) → IsBlankAs false held → (view c.store).has_sums ≡ false) → IfOk r (IsOpenedOn held)
  opened_on (Ok conn) fresh opened found guarded plain =
      record { fresh = fresh; opened = opened; found = found; guarded = guarded; plain = plain }
  opened_on (Err error) fresh opened found guarded plain = tt
