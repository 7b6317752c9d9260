-- Within one life.
use Rattle.std.proofs.Common.{◌≡◌, refl, sym, ap, ℕ, List, [], ◌∷◌, ◌++◌}
use Rattle.dh_types.specs.declared.command.Command.{Command}
use Rattle.dh_model.specs.Books.{State}
use Rattle.dh_laws.specs.Events.{Event, Tables}
use Rattle.dh_laws.specs.Kept.{Kept, NoneLeft, AnswerCounts, UndoneIsLeftOut, DoneCounts, AttachingIsPassed, RecoveryMovesOn, RecoveryEnds}
use Rattle.dh_laws.specs.Lives.{IsOneLife, OneLifeKeepsABeginning, calls}

module _ (size : ℕ) where
  one_called : (it : Command) (called : List Command) → it ∷ called ≡ [] → ⊥
  one_called it called e = cc

  -- where nothing is called, no command counts
  none_counts : {s last : State} {events : List (Event × Tables)} {told : List Command} → Kept size s events told last → calls events ≡ [] → told ≡ []
  none_counts NoneLeft none = refl
  none_counts (AnswerCounts {it = it} {events = events} is k) none = absurd (one_called it (calls events) none)
  none_counts (UndoneIsLeftOut {it = it} {events = events} run k) none = absurd (one_called it (calls events) none)
  none_counts (DoneCounts {it = it} {events = events} run k) none = absurd (one_called it (calls events) none)
  none_counts (AttachingIsPassed k) none = none_counts k none
  none_counts (RecoveryMovesOn run k) none = none_counts k none
  none_counts (RecoveryEnds k) none = none_counts k none

  abbrev IsBeginning : List Command → List Command → Type 0
  IsBeginning told called = (rest : List Command) × (called ≡ told ++ rest)

  one_more : (it : Command) (told called : List Command) → IsBeginning told called → IsBeginning (it ∷ told) (it ∷ called)
  one_more it told called b = (b.0, ap (λ ts. it ∷ ts) b.1)

  nothing : (told called : List Command) → told ≡ [] → IsBeginning told called
  nothing told called is = (called, ap (λ ts. ts ++ called) (sym is))

  begins : {s last : State} {events : List (Event × Tables)} {told : List Command} → Kept size s events told last → IsOneLife events
      → IsBeginning told (calls events)
  begins NoneLeft once = nothing [] [] refl
  begins (AnswerCounts {it = it} {events = events} {told = told} is k) once = one_more it told (calls events) (begins k once)
  begins (UndoneIsLeftOut {it = it} {events = events} {told = told} run k) once = nothing told (it ∷ calls events) (none_counts k once)
  begins (DoneCounts {it = it} {events = events} {told = told} run k) once = one_more it told (calls events) (nothing told (calls events) (none_counts k once))
  begins (AttachingIsPassed k) once = begins k once
  begins (RecoveryMovesOn run k) once = begins k once
  begins (RecoveryEnds k) once = begins k once

pub one_life_keeps_a_beginning : (size : ℕ) → OneLifeKeepsABeginning size
one_life_keeps_a_beginning size s last events told once k = begins size k once
