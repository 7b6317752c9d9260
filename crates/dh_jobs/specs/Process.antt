-- What a process prints by its words, and how it ends.
use Rattle.std.specs.Prelude.{◌≡◌, ◌⊎◌, ◌++◌, ℕ, List, [], ◌∷◌, codes, Option}
use Rattle.std.specs.declared.io.ErrorKind.{ErrorKind}
use Rattle.std.specs.declared.io.ErrorKind.TheVariants.{InvalidData}
use Rattle.sqlite_disk.specs.declared.Disk as disk
use Rattle.sqlite_wal.specs.Recovery.{Image}
use Rattle.dh_reports.specs.Columns.{newline}
use Rattle.dh_jobs.specs.declared.status.Status.{Status}
use Rattle.dh_jobs.specs.Desk.{DeskEnds}
use Rattle.dh_jobs.specs.Printed.{EndsBySomeFault, PutsBad}

-- the words behind the program's name
abbrev pub behind_name : {A : Type 0} → List A → List A
behind_name [] = []
behind_name (name ∷ words) = words

-- on a disk of these ghosts, whose files held this as they were opened
module _ {D : Type 0} (g : disk.Ghosts D) (held : Image) where
  -- What the words behind the program's name ask for was done; or there was no memory to look at them.
  abbrev pub WordsEnd : List (List ℕ) → Option (List ℕ) → Option (List ℕ) → Option (List ℕ) → Status → Type 0
  WordsEnd words input a b status = DeskEnds g held (behind_name words) input a b status ⊎ EndsBySomeFault a b [] status

abbrev pub no_text_line : List ℕ
no_text_line = codes "error: invalid UTF-8 was detected in one or more arguments" ++ newline

-- why the words can't be had: one of them is no text, which makes them bad words; else memory ran out
abbrev pub UnreadPrints : ErrorKind → Option (List ℕ) → Option (List ℕ) → Status → Type 0
UnreadPrints kind a b status =
    ((kind ≡ InvalidData) × PutsBad no_text_line a b status) ⊎ (¬ (kind ≡ InvalidData) × EndsBySomeFault a b [] status)
