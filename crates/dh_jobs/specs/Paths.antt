-- What is found at a path, and what is made of it.
use Rattle.std.specs.Prelude.{◌≡◌, ◌≢◌, ◌⊎◌, ◌↔◌, ◌≤◌, ◌≤ℤ◌, ℤ, pos, Bool, true, false, IsTrue, Result, Ok, Err}
use Rattle.std.specs.Fs.{IsFile, file_type, metadata_len}
use Rattle.std.specs.IoError.{error_kind}
use Rattle.std.specs.declared.fs.attrs.Metadata.{Metadata}
use Rattle.std.specs.declared.io.Error.{Error}
use Rattle.std.specs.declared.io.ErrorKind.{ErrorKind}
use Rattle.std.specs.declared.io.ErrorKind.TheVariants.{NotFound, OutOfMemory}
use Rattle.dh_types.specs.declared.reply.Fault.{Fault}
use Rattle.dh_types.specs.declared.reply.Fault.TheVariants as fault
use Rattle.dh_jobs.specs.declared.paths.Sighting.{Sighting}

-- want of memory is told as that, and all else as a fault of the store
abbrev pub system_fault : ErrorKind → Fault
system_fault OutOfMemory = fault.Memory
system_fault _ = fault.Store

-- a file of a page or more, which may be a database
abbrev pub MayHoldTables : Metadata → Type 0
MayHoldTables found = IsFile (file_type found) × (512 ≤ metadata_len found)

-- A look is told so: as the file that was found, which may be a database; or as the fault that the error is; or as one of the store.
abbrev pub IsFoundAs : Result Metadata Error → Result Metadata Fault → Type 0
IsFoundAs (Ok it) (Ok file) = MayHoldTables it × (file ≡ it)
IsFoundAs (Ok it) (Err why) = (¬ MayHoldTables it) × (why ≡ fault.Store)
IsFoundAs (Err error) (Ok file) = ⊥
IsFoundAs (Err error) (Err why) = why ≡ system_fault (error_kind error)

-- An opening has the file that was seen, by its device and its number; a blank one only if it is as old, or was not written since.
pub record IsOpenedAs (seen opened : Sighting) (is_blank : Bool) : Type 0 where
  pub device : opened.file.device ≡ seen.file.device
  pub number : opened.file.number ≡ seen.file.number
  pub unmade : IsTrue is_blank → (opened.file.made_at ≡ seen.file.made_at) ⊎ (opened.written_at ≡ seen.written_at)

-- a descriptor of a standard stream: that of standard error is 2, and the other two have lesser ones
abbrev pub IsOfStream : ℤ → Type 0
IsOfStream descriptor = descriptor ≤ℤ pos 2

abbrev pub IsEmptyFile : Metadata → Type 0
IsEmptyFile found = IsFile (file_type found) × (metadata_len found ≡ 0)

-- A log with nothing in it: a head of 32 bytes, 8 that begin its first entry, and one that says that none is there.
abbrev pub IsEmptyLog : Metadata → Type 0
IsEmptyLog found = IsFile (file_type found) × (metadata_len found ≤ 41)

-- There is no log, or one with nothing in it. What else keeps it from being seen is handed on.
abbrev pub IsAbsentOrEmpty : Result Metadata Error → Result Bool Error → Type 0
IsAbsentOrEmpty (Ok it) (Ok answer) = IsTrue answer ↔ IsEmptyLog it
IsAbsentOrEmpty (Ok it) (Err same) = ⊥
IsAbsentOrEmpty (Err error) (Ok answer) = (error_kind error ≡ NotFound) × (answer ≡ true)
IsAbsentOrEmpty (Err error) (Err same) = (error_kind error ≢ NotFound) × (same ≡ error)

-- A plain file is there, or none is. What else keeps it from being seen is handed on.
abbrev pub IsPlainFile : Result Metadata Error → Result Bool Error → Type 0
IsPlainFile (Ok it) (Ok answer) = IsTrue answer ↔ IsFile (file_type it)
IsPlainFile (Ok it) (Err same) = ⊥
IsPlainFile (Err error) (Ok answer) = (error_kind error ≡ NotFound) × (answer ≡ false)
IsPlainFile (Err error) (Err same) = (error_kind error ≢ NotFound) × (same ≡ error)

-- the fault that is told behind a place that was left as it was found, or not
abbrev pub fault_behind : Bool → Fault → Fault
fault_behind true why = why
fault_behind false why = fault.Store
