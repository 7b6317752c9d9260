-- One life after the other: what is kept of each.
use Rattle.std.specs.Prelude.{◌≡◌, ◌≤◌, ℕ, List, [], ◌∷◌, ◌++◌, length}
use Rattle.dh_types.specs.declared.command.Command.{Command}
use Rattle.dh_model.specs.Books.{State}
use Rattle.dh_laws.specs.Events.{Event, Answered, Interrupted, Attached, RecoveryInterrupted, Recovered, Tables}
use Rattle.dh_laws.specs.Kept.{Kept}
use Rattle.dh_laws.specs.Lives.{IsOneLife, calls}

-- the lives with one event more in the first
abbrev pub with_first : Event × Tables → List (List (Event × Tables)) → List (List (Event × Tables))
with_first event [] = (event ∷ []) ∷ []
with_first event (life ∷ lives) = (event ∷ life) ∷ lives

-- A life ends where a recovery is finished, or where files are taken as they are; the next begins there. A recovery that is
-- cut begins none.
abbrev pub lives_of : List (Event × Tables) → List (List (Event × Tables))
lives_of [] = [] ∷ []
lives_of ((Attached, after) ∷ events) = [] ∷ lives_of events
lives_of ((Recovered, after) ∷ events) = [] ∷ lives_of events
lives_of ((Answered it reply, after) ∷ events) = with_first (Answered it reply, after) (lives_of events)
lives_of ((Interrupted it, after) ∷ events) = with_first (Interrupted it, after) (lives_of events)
lives_of ((RecoveryInterrupted, after) ∷ events) = with_first (RecoveryInterrupted, after) (lives_of events)

-- in none is anything called after a command that was interrupted
abbrev pub AreLives : List (List (Event × Tables)) → Type 0
AreLives [] = Unit {0}
AreLives (life ∷ lives) = IsOneLife life × AreLives lives

-- the parts, one after the other
abbrev pub joined : List (List Command) → List Command
joined [] = []
joined (part ∷ parts) = part ++ joined parts

-- all calls of the life, or all but the last one
abbrev pub IsBeginningOf : List Command → List (Event × Tables) → Type 0
IsBeginningOf part life = (rest : List Command) × (calls life ≡ part ++ rest) × (length rest ≤ 1)

-- each part is such a beginning of its life
abbrev pub AreBeginnings : List (List Command) → List (List (Event × Tables)) → Type 0
AreBeginnings [] [] = Unit {0}
AreBeginnings (part ∷ parts) (life ∷ lives) = IsBeginningOf part life × AreBeginnings parts lives
AreBeginnings _ _ = ⊥

-- life after life, the commands that count are a beginning of its calls: all, or all but the last
abbrev pub EachLifeKeepsABeginning : ℕ → Type 0
EachLifeKeepsABeginning size =
    (s last : State) (events : List (Event × Tables)) (told : List Command) → AreLives (lives_of events) → Kept size s events told last
    → (parts : List (List Command)) × (told ≡ joined parts) × AreBeginnings parts (lives_of events)
