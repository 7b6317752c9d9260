use Rattle.std.proofs.Common.{◌≡◌, ℕ, List, ◌∷◌, ◌++◌, map, length}
use Rattle.json.specs.Lex.{tokens}
use Rattle.json.specs.Token.{Token}
use Rattle.dh_requests.proofs.body_texts.is_list.Given as goal

-- the texts that were read stand between the bracket and what is left
abbrev pub invariant-texts : goal.invariant-texts
invariant-texts l = (seen : List (List ℕ)) × (tokens l.text ≡ Token.begin_array ∷ (map Token.string seen ++ l.reader))

abbrev pub decreases-texts : goal.decreases-texts
decreases-texts l = length l.reader
