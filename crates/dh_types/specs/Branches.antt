-- Branches as contracts see them.
use Rattle.std.specs.Prelude.{true, ◌≡◌}
use Rattle.dh_values.specs.Texts.{is_id, is_text}
use Rattle.dh_types.specs.declared.branch.Branch.{Branch}

-- each field is in its grammar
pub record IsBranch (b : Branch) : Type 0 where
  pub number : is_id b.number ≡ true
  pub street : is_text 60 b.street ≡ true
  pub city : is_text 60 b.city ≡ true
  pub postcode : is_text 60 b.postcode ≡ true
