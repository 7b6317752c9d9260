-- What is left of a reader that was read to its end.
use Rattle.std.specs.Prelude.{ℕ, Bool, true, false, List, [], Option, Some, None}

-- where a read found the end, nothing is left of known bytes
abbrev pub left_of : Bool → Option (List ℕ) → Option (List ℕ)
left_of true (Some bytes) = Some []
left_of true None = None
left_of false bytes = bytes
