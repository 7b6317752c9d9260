-- The first lines of answers.
use Rattle.std.specs.Prelude.{◌≡◌, ℕ, List, ◌++◌}
use Rattle.dh_http.specs.Answers.{Answer, answer_text}

-- each answer with this status begins with this line
abbrev pub BeginsWith : ℕ → List ℕ → Type 0
BeginsWith status first = (it : Answer) → it.status ≡ status → (rest : List ℕ) × (answer_text it ≡ first ++ rest)
