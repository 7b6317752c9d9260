-- What the definitions owe each other.
use Rattle.std.specs.Prelude.{Bool, true, ◌≡◌, ◌↔◌}

-- two are the same exactly where they are one
abbrev pub TellsApart : {T : Type 0} → (T → T → Bool) → Type 0
TellsApart {T} is_same = (a b : T) → (is_same a b ≡ true) ↔ (a ≡ b)
