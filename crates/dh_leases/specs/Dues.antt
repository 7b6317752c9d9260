-- Charges by branch.
use Rattle.std.specs.Prelude.{ℕ, List, [], option_map}
use Rattle.std.specs.Option.{unwrap_or}
use Rattle.std.specs.BTreeMap.{BTreeMap, get}
use Rattle.std.specs.declared.vec.Vec.{Vec}
use Rattle.dh_types.specs.declared.lease.Charge.{Charge}
use Rattle.dh_model.specs.Books.{text_cmp}

-- the charges under the branch, none where there are none
abbrev pub charges_at : {Z : Type 0} → BTreeMap (List ℕ) (Vec Charge Z) → List ℕ → List Charge
charges_at charges branch = unwrap_or (option_map (λ v. v.items) (get text_cmp charges branch)) []
