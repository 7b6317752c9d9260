-- Where a text is parted.
use Rattle.std.specs.Prelude.{ℕ, ◌+◌, ◌==◌, List, [], ◌∷◌, if◌then◌else◌}

-- the place of the first slash, or the number of bytes where there is none
unfoldable pub first_slash : List ℕ → ℕ
first_slash [] = 0
first_slash (b ∷ bytes) = if b == 47 then 0 else 1 + first_slash bytes
