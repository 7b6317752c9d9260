-- Which rule of the audit is broken.
use Rattle.std.specs.Prelude.{◌≡◌, ◌<◌, ℕ}
use Rattle.dh_model.specs.Books.{Books}
use Rattle.dh_model.specs.Rules.{Holds, Rule, rule_number}

-- the rules of lesser numbers hold
abbrev pub HoldBelow : Books → ℕ → ℕ → Type 0
HoldBelow books size number = (rule : Rule) → rule_number rule < number → Holds books size rule

-- the rule of that number does not hold, and those of lesser numbers do
pub record IsLeastBroken (books : Books) (size number : ℕ) : Type 0 where
  pub broken : Rule
  pub number_is : rule_number broken ≡ number
  pub breaks : ¬ Holds books size broken
  pub lesser : HoldBelow books size number
