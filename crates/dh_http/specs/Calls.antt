-- What is asked of a peer's stream and of the clock.
use Rattle.std.specs.Prelude.{◌≡◌, ◌≢◌, ◌⊎◌, ℕ, ◌-◌, ◌*◌, ◌^◌, ◌<◌, ◌≤◌, List, [], ◌∷◌, ◌++◌, length, unwrap_or, ⊤, Option, Some, None, Result, Ok, Err}
use Rattle.std.specs.Duration.{as_nanos}
use Rattle.std.specs.IoError.{error_kind}
use Rattle.std.specs.Time.{instant_nanos}
use Rattle.std.specs.declared.time.Instant.{Instant}
use Rattle.std.specs.declared.time.Duration.{Duration}
use Rattle.std.specs.declared.io.Error.{Error}
use Rattle.std.specs.declared.io.ErrorKind.TheVariants.{Interrupted, TimedOut}

-- A call and what it gave: the time; a read or a write that waits for so many nanoseconds at most; the end of the output, with the input left open.
pub data Call : Type 0 where
  AsksTime : Result Instant Error → Call
  Reads : ℕ → Result ℕ Error → Call
  Writes : ℕ → Result ℕ Error → Call
  EndsOutput : Result (Unit {0}) Error → Call

-- these calls were made behind those before them, where they are known
abbrev pub Makes : {T : Type 0} → Option (List T) → Option (List T) → List T → Type 0
Makes None after calls = ⊤
Makes (Some before) None calls = ⊥
Makes (Some before) (Some after) calls = after ≡ before ++ calls

-- the nanoseconds of so many seconds
abbrev pub nanos : ℕ → ℕ
nanos seconds = seconds * 1000000000

-- how many of these nanoseconds, from its first use on, are left now
abbrev pub left_at : ℕ → Option Instant → Instant → ℕ
left_at most begun now = most - (instant_nanos now - instant_nanos (unwrap_or begun now))

-- The time is asked for before a stream is used, and what is left of so many nanoseconds from its first use on is told; nothing where none is left.
pub data AsksLeft (most : ℕ) (begun since : Option Instant) (calls : List Call) (result : Result Duration Error) : Type 0 where
  Timeless : (e : Error) → calls ≡ AsksTime (Err e) ∷ [] → since ≡ begun → result ≡ Err e → AsksLeft most begun since calls result
  Late : (now : Instant) (e : Error) → calls ≡ AsksTime (Ok now) ∷ [] → since ≡ Some (unwrap_or begun now) → left_at most begun now ≡ 0
      → error_kind e ≡ TimedOut → result ≡ Err e → AsksLeft most begun since calls result
  InTime : (now : Instant) (left : Duration) → calls ≡ AsksTime (Ok now) ∷ [] → since ≡ Some (unwrap_or begun now)
      → as_nanos left ≡ left_at most begun now → 0 < as_nanos left → result ≡ Ok left → AsksLeft most begun since calls result

-- One use of a stream: it waits for what is left of so many nanoseconds from the first use on, and where none is left it isn't used.
pub data UsesInTime (call : ℕ → Result ℕ Error → Call) (most : ℕ) (begun since : Option Instant) (calls : List Call) (result : Result ℕ Error)
    : Type 0 where
  Timeless : (e : Error) → calls ≡ AsksTime (Err e) ∷ [] → since ≡ begun → result ≡ Err e → UsesInTime call most begun since calls result
  Late : (now : Instant) (e : Error) → calls ≡ AsksTime (Ok now) ∷ [] → since ≡ Some (unwrap_or begun now) → left_at most begun now ≡ 0
      → error_kind e ≡ TimedOut → result ≡ Err e → UsesInTime call most begun since calls result
  InTime : (now : Instant) → calls ≡ AsksTime (Ok now) ∷ call (left_at most begun now) result ∷ [] → since ≡ Some (unwrap_or begun now)
      → 0 < left_at most begun now → UsesInTime call most begun since calls result

-- What comes is read: up to so many bytes, to the end of the input, or up to an error. A read that a signal interrupts is made again.
pub data Drains (most : ℕ) : Option Instant → ℕ → List Call → Type 0 where
  Enough : (begun : Option Instant) → Drains most begun 0 []
  Ends : (begun since : Option Instant) (bytes : ℕ) (calls : List Call) → 0 < bytes → UsesInTime (λ n r. Reads n r) most begun since calls (Ok 0)
      → Drains most begun bytes calls
  Breaks : (begun since : Option Instant) (bytes : ℕ) (calls : List Call) (e : Error) → 0 < bytes
      → UsesInTime (λ n r. Reads n r) most begun since calls (Err e) → error_kind e ≢ Interrupted → Drains most begun bytes calls
  Again : (begun since : Option Instant) (bytes : ℕ) (first rest : List Call) (e : Error) → 0 < bytes
      → UsesInTime (λ n r. Reads n r) most begun since first (Err e) → error_kind e ≡ Interrupted → Drains most since bytes rest
      → Drains most begun bytes (first ++ rest)
  More : (begun since : Option Instant) (bytes count : ℕ) (first rest : List Call) → 0 < bytes → 0 < count
      → UsesInTime (λ n r. Reads n r) most begun since first (Ok count) → Drains most since (bytes - count) rest
      → Drains most begun bytes (first ++ rest)

-- The same; only behind more calls than are ever made it ends before.
abbrev pub HasDrained : ℕ → Option Instant → ℕ → List Call → Type 0
HasDrained most begun bytes calls = Drains most begun bytes calls ⊎ (2 ^ 64 - 1 ≤ length calls)

-- A stream whose answer was written ends: its output first, and then what its peer still sends is taken in.
pub data EndsAnswered (most bytes : ℕ) (calls : List Call) : Type 0 where
  Broken : (e : Error) → calls ≡ EndsOutput (Err e) ∷ [] → EndsAnswered most bytes calls
  Whole : (rest : List Call) → calls ≡ EndsOutput (Ok tt) ∷ rest → HasDrained most None bytes rest → EndsAnswered most bytes calls
