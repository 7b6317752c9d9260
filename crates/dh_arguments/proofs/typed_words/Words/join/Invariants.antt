use Rattle.std.proofs.Common.{◌≡◌, ◌++◌, ◌-◌, ◌≤◌, map, drop, length, string_bytes}
use Rattle.dh_arguments.specs.TypedWords.{joined}
use Rattle.dh_arguments.proofs.Joining.{left}
use Rattle.dh_arguments.proofs.typed_words.Words.join.Given as goal

-- the texts so far, and those of what is left, are all
abbrev pub invariant-loop-at : goal.invariant-loop-at
invariant-loop-at l = record {
  whole : map string_bytes l.texts.items ++ left l.ended (drop l.at (map (λ word. word.now) l.typed)) ≡ joined (map (λ word. word.now) l.typed);
  within : l.at ≤ length l.typed;
}

abbrev pub decreases-loop-at : goal.decreases-loop-at
decreases-loop-at l = length l.typed - l.at
