-- Cases that are counted.
use Rattle.std.specs.Prelude.{ℕ, ◌+◌, ◌-◌, ◌^◌, min, Bool, cond, List, ◌++◌, codes}
use Rattle.std.specs.Fmt.{decimal}
use Rattle.dh_test_kit.specs.declared.tally.Tally.{Tally}

-- one more, up to the greatest number that is kept
abbrev pub one_more : ℕ → ℕ
one_more n = min (n + 1) (2 ^ 64 - 1)

-- one case more, which differs where it is not as wanted
abbrev pub counted : Bool → Tally → Tally
counted is_as_wanted tally = record { cases = one_more tally.cases; differing = cond is_as_wanted tally.differing (one_more tally.differing) }

-- the last line of a program of cases
abbrev pub tally_text : Tally → List ℕ
tally_text tally = decimal tally.cases ++ codes " cases, " ++ decimal tally.differing ++ codes " differ"
