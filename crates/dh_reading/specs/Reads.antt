-- The reads of a source that one read is made of, where it is made again at each signal.
use Rattle.std.specs.Prelude.{◌≡◌, ℕ, ◌-◌, ◌^◌, List, [], ◌∷◌, ◌++◌, length, All, ⊤, Option, Some, None, Result, Ok, Err, IsErrAnd}
use Rattle.std.specs.IoError.{error_kind}
use Rattle.std.specs.declared.io.Error.{Error}
use Rattle.std.specs.declared.io.ErrorKind.TheVariants.{Interrupted, Other}

-- these reads were made behind those before them, where they are known
abbrev pub Makes : Option (List (Result ℕ Error)) → Option (List (Result ℕ Error)) → List (Result ℕ Error) → Type 0
Makes None after reads = ⊤
Makes (Some before) None reads = ⊥
Makes (Some before) (Some after) reads = after ≡ before ++ reads

-- a signal interrupted the read
abbrev pub IsInterrupted : Result ℕ Error → Type 0
IsInterrupted read = IsErrAnd read (λ e. error_kind e ≡ Interrupted)

-- the result is what the read gave
abbrev pub IsGiven : {E : Type 0} → (E → Error) → Result ℕ Error → Result ℕ E → Type 0
IsGiven error_of (Ok n) result = result ≡ Ok n
IsGiven error_of (Err e) result = IsErrAnd result (λ it. error_of it ≡ e)

-- Every read but the last was interrupted, and that gave the result; or as many as can be counted were made, and a signal interrupted each.
pub data AreOfOneRead {E : Type 0} (error_of : E → Error) (reads : List (Result ℕ Error)) (result : Result ℕ E) : Type 0 where
  Gave : (before : List (Result ℕ Error)) (last : Result ℕ Error) → reads ≡ before ++ last ∷ [] → All IsInterrupted before → ¬ IsInterrupted last
      → IsGiven error_of last result → AreOfOneRead error_of reads result
  GaveUp : length reads ≡ 2 ^ 64 - 1 → All IsInterrupted reads → IsErrAnd result (λ it. error_kind (error_of it) ≡ Other)
      → AreOfOneRead error_of reads result
