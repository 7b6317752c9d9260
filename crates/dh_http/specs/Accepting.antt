-- Which failures to take a connection are of that connection, and which of this machine; and that a try is made again.
use Rattle.std.specs.Prelude.{◌≡◌, ◌⊎◌, ℕ, ℤ, ◌-◌, ◌^◌, ◌≤◌, List, [], ◌∷◌, ◌++◌, length, All, Option, Some, None, Result, Ok, Err, IsErrAnd, Bool}
use Rattle.std.specs.Prelude.{true, false, if◌then◌else◌, ◌==◌, unsigned_abs}
use Rattle.std.specs.IoError.{error_kind, raw_os_error}
use Rattle.std.specs.declared.io.Error.{Error}
use Rattle.std.specs.declared.io.ErrorKind.TheVariants.{Interrupted}
use Rattle.dh_types.specs.declared.reply.Fault.{Fault}
use Rattle.dh_types.specs.declared.reply.Fault.TheVariants.{Memory, Store}

-- The numbers of Linux's errors that accept(2) says are of the connection: it was aborted, or its network had failed.
abbrev pub connection_errors : List ℕ
connection_errors = 64 ∷ 71 ∷ 92 ∷ 95 ∷ 100 ∷ 101 ∷ 103 ∷ 112 ∷ 113 ∷ []

-- those of want of memory
abbrev pub memory_errors : List ℕ
memory_errors = 12 ∷ 105 ∷ []

abbrev pub is_one_of : ℕ → List ℕ → Bool
is_one_of code [] = false
is_one_of code (it ∷ rest) = if code == it then true else is_one_of code rest

-- the fault that is told of such an error; none where it is of the connection
abbrev pub fault_of_code : ℕ → Option Fault
fault_of_code code = if is_one_of code connection_errors then None else (if is_one_of code memory_errors then Some Memory else Some Store)

-- an error without a number is none of a connection
abbrev pub fault_of : Option ℤ → Option Fault
fault_of (Some code) = fault_of_code (unsigned_abs code)
fault_of None = Some Store

abbrev pub unaccepted : {T : Type 0} → Option Fault → Result (Option T) Fault
unaccepted None = Ok None
unaccepted (Some fault) = Err fault

-- What came of a call for the next connection: it was taken; it was lost; or a fault is told.
abbrev pub accepted : {T : Type 0} → Result T Error → Result (Option T) Fault
accepted (Ok it) = Ok (Some it)
accepted (Err e) = unaccepted (fault_of (raw_os_error e))

-- ---- tries for the next connection

-- a signal interrupted the try
abbrev pub IsInterrupted : {T : Type 0} → Result T Error → Type 0
IsInterrupted it = IsErrAnd it (λ e. error_kind e ≡ Interrupted)

-- the last of these tries gave the result; it was not interrupted, and each before it was
pub record EndsTries {T : Type 0} (tries : List (Result T Error)) (result : Result T Error) : Type 0 where
  pub before : List (Result T Error)
  pub are : tries ≡ before ++ result ∷ []
  pub interrupted : All (λ it. IsInterrupted it) before
  pub ends : ¬ IsInterrupted result

-- The same; only behind more tries than are ever made it ends before.
abbrev pub HasTried : {T : Type 0} → List (Result T Error) → Result T Error → Type 0
HasTried tries result = EndsTries tries result ⊎ (2 ^ 64 - 1 ≤ length tries)
