-- A job on a file: done over the store that was opened, which is then closed; or it was not opened.
use Rattle.std.specs.Prelude.{◌≡◌, ◌⊎◌, List, [], ℕ, Option, Result, Ok, Err, IfErr, IfSome, IsOk, IsSomeAnd, IsTrue, false}
use Rattle.sqlite_disk.specs.declared.Disk as disk
use Rattle.sqlite_disk.specs.declared.Files.{Files}
use Rattle.sqlite_wal.specs.Reads.{AreClean}
use Rattle.sqlite_wal.specs.Recovery.{Image}
use Rattle.sqlite_store.specs.declared.store.FileStore.{FileStore}
use Rattle.sqlite_store.specs.FileStore.{view}
use Rattle.sqlite_trees.specs.View.{IsClean}
use Rattle.sqlite.specs.Closing.{IsCopied}
use Rattle.sqlite.specs.Files.{FailsToClose, FailsToOpenFiles, IsBlankAs, IsCleanLeft, IsClosed, IsOpened, LeavesFiles, file_state, image_of}
use Rattle.sqlite.specs.Held.{Held, IsNew}
use Rattle.sqlite.specs.Start.{FindsIn}
use Rattle.sqlite.specs.State as conn
use Rattle.sqlite.specs.State.{HasCleanDisk}
use Rattle.sqlite.specs.declared.error.Error.{Error}
use Rattle.sqlite.specs.declared.file.Leftover.{Leftover}
use Rattle.dh_model.specs.Books.{start}
use Rattle.dh_types.specs.declared.reply.Fault.{Fault}
use Rattle.dh_types.specs.declared.reply.Fault.TheVariants as fault
use Rattle.dh_agency.specs.Faults.{IsFirstFault, fault_of}
use Rattle.dh_agency.specs.Store.{Commits, IsBlank, LeavesItsTables, tables}
use Rattle.dh_jobs.specs.declared.remains.Remains.{Remains}
use Rattle.dh_jobs.specs.declared.remains.Remains.TheVariants as remains
use Rattle.dh_jobs.specs.declared.store_jobs.FileJob.{FileJob}
use Rattle.dh_jobs.specs.declared.status.Status.{Status}
use Rattle.dh_jobs.specs.declared.status.Status.TheVariants.{Done}
use Rattle.dh_jobs.specs.Statuses.{IsFailed}
use Rattle.dh_jobs.specs.Ends.{JobEnds}
use Rattle.dh_jobs.specs.Leaving.{IsKept, JobLeaves}
use Rattle.dh_jobs.specs.Printed.{Closes, EndsByFault, EndsBySomeFault, IsMakingEnd, Prints, PrintsJob, PutsAs}
use Rattle.dh_jobs.specs.Texts.{created_line}

-- the tables of books that begin so were made, and a crash leaves these alone
abbrev pub IsMade : ℕ → conn.State → Type 0
IsMade first new = HasCleanDisk new → (tables new ≡ start first) × LeavesItsTables new

-- what was committed is as it was
abbrev pub IsUnmade : conn.State → conn.State → Type 0
IsUnmade old new = HasCleanDisk new → IsTrue new.is_open → new.committed ≡ old.committed

module _ {D : Type 0} {g : disk.Ghosts D} where
  -- what was committed last is in the database file, as it reads now and after a crash
  abbrev pub HasCommits : Held (FileStore D g) → Files D → Type 0
  HasCommits store files = AreClean g files.log files.db → IsCopied store files

  -- The store could not be closed, and this one is left of it: a crash leaves no more of that than before. The fault says why.
  pub record FailsToCloseAs (last : Held (FileStore D g)) (why : Fault) (rest : FileStore D g) : Type 0 where
    pub first : IsFirstFault why
    pub left : IsClosed last rest
    pub cause : IsClean (view rest) → (error : Error) × FailsToClose last rest error × (why ≡ fault_of error)

  -- A store was closed so: its files have all that was committed, or it could not be closed.
  abbrev pub ClosesTo : Held (FileStore D g) → Result (Files D) (Fault × FileStore D g) → Type 0
  ClosesTo last (Ok files) = HasCommits last files
  ClosesTo last (Err failed) = FailsToCloseAs last failed.0 failed.1

  -- The job was done over this store, and what it printed and left is told of it: where it was answered, a crash leaves the tables alone that it
  -- left. Then the store was closed so: the job's status stands, or what failed is told. Where nothing failed, there are the files.
  pub record EndsOnFile (old : Held (FileStore D g)) (it : FileJob) (input a b : Option (List ℕ)) (status : Status)
      (closed : Result (Files D) (Fault × FileStore D g))
      : Type 0 where
    pub last : Held (FileStore D g)
    pub done : Status
    pub told : Option (List ℕ)
    pub was_clean : HasCleanDisk (file_state last) → HasCleanDisk (file_state old)
    pub ends : HasCleanDisk (file_state last) → JobEnds (file_state old) (file_state last) a told input it done
    pub left : JobLeaves (file_state old) (file_state last) it
    pub kept : IsKept (file_state last) done
    pub closes : Closes told b done status
    pub closed_to : ClosesTo last closed
    pub failed : ¬ IsFailed done → IfErr closed (λ it. EndsByFault it.0 told b [] status)
    pub whole : ¬ IsFailed status → IsOk closed

  -- This connection was opened on files that held this: it reads the database in them, or an empty one where they are no database yet, whose
  -- pages have no check sums.
  pub record IsOpenedOn (held : Image) (conn : Held (FileStore D g)) : Type 0 where
    pub fresh : IsNew conn
    pub opened : HasCleanDisk (file_state conn) → IsOpened conn
    pub found : HasCleanDisk (file_state conn) → FindsIn held (file_state conn)
    pub guarded : HasCleanDisk (file_state conn) → (file_state conn).IsShielded
    pub plain : HasCleanDisk (file_state conn) → IsBlankAs false held → (view conn.store).has_sums ≡ false

  -- These files held this, and an open of them failed with this error, which left this of them: a crash leaves no more than before, but where no
  -- database was in them.
  pub record IsUnopenedOn (held : Image) (error : Error) (left : Leftover D g) : Type 0 where
    pub files : Files D
    pub held_so : image_of g files ≡ held
    pub failed : IsCleanLeft left → FailsToOpenFiles files left error
    pub left_so : IsCleanLeft left → LeavesFiles files left

  -- what is left of files that held this, and of which no connection was taken
  abbrev pub IsLeftOf : Image → Remains D g → Type 0
  IsLeftOf held (remains.Unopened left) = IfSome left (λ left. (error : Error) × IsUnopenedOn held error left)
  IsLeftOf held (remains.Astray conn) = IsOpenedOn held conn

  -- The tables of empty books were made in this store, and its files were closed; then that was told. Or a fault came, and is told: what was
  -- committed is as it was, or the tables were made. A store that is not blank is left untouched, and that it can't be used is told. Where it was
  -- closed, it was so.
  pub record MakesOnFile (old : Held (FileStore D g)) (first : ℕ) (a b : Option (List ℕ)) (status : Status)
      (closed : Option (Result (Files D) (Fault × FileStore D g)))
      : Type 0 where
    pub last : Held (FileStore D g)
    pub was_clean : HasCleanDisk (file_state last) → HasCleanDisk (file_state old)
    pub left : Commits (file_state old) (file_state last) (λ t. t ≡ start first)
    pub occupied : ¬ IsBlank (file_state old) → EndsByFault fault.Store a b [] status × (last ≡ old)
    pub closed_to : IfSome closed (ClosesTo last)
    pub ends : (IsMade first (file_state last) × IsSomeAnd closed (λ it. IsOk it) × PutsAs (created_line first) Done a b status)
        ⊎ (EndsBySomeFault a b [] status × (IsUnmade (file_state old) (file_state last) ⊎ IsMade first (file_state last)))

-- No file was opened; or files that held this were, this is left of them, and none was used: a fault is told, and nothing else. Or over the
-- connection to them it ended so.
pub data FileEnds {D : Type 0} (g : disk.Ghosts D) (held : Image) {Closed : Type 0} (Ends : Held (FileStore D g) → Closed → Type 0)
    (a b : Option (List ℕ)) (status : Status) : Type 0 where
  Unfound : EndsBySomeFault a b [] status → FileEnds g held Ends a b status
  Unopened : (left : Remains D g) → IsLeftOf held left → EndsBySomeFault a b [] status → FileEnds g held Ends a b status
  Opened : (conn : Held (FileStore D g)) (closed : Closed) → IsOpenedOn held conn → Ends conn closed → FileEnds g held Ends a b status

-- A job was done so on the files, and this is printed whatever became of the disk.
pub record DoneOnFile {D : Type 0} (g : disk.Ghosts D) (held : Image) (it : FileJob) (input a b : Option (List ℕ)) (status : Status) : Type 0 where
  pub printed : PrintsJob it a b status
  pub ends : FileEnds g held (λ conn closed. EndsOnFile conn it input a b status closed) a b status

-- The same of a file that is made.
pub record MadeOnFile {D : Type 0} (g : disk.Ghosts D) (held : Image) (first : ℕ) (a b : Option (List ℕ)) (status : Status) : Type 0 where
  pub printed : Prints (IsMakingEnd first) a b status
  pub ends : FileEnds g held (λ conn closed. MakesOnFile conn first a b status closed) a b status
