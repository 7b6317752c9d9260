-- What fees take of charges.
use Rattle.std.proofs.Common.{ℕ, ◌*◌, ◌/◌, ◌≤◌, [], ◌∷◌, arith}
use Rattle.std.proofs.Math.Nat.{div-le_of_le-mul, mul-le-mul_left}
use Rattle.std.proofs.lemmas.List.Sums.{sum_by-cons}
use Rattle.dh_types.specs.declared.lease.Charge.{Charge}
use Rattle.dh_model.specs.Laws.{FeesAreNoMore}
use Rattle.dh_model.specs.Runs.{charge_fee}

-- a fee takes no more than the rent
pub part_of_rent : (amount fee : ℕ) → fee ≤ 10000 → amount * fee / 10000 ≤ amount
part_of_rent amount fee most =
    let all : amount * fee ≤ amount * 10000 = mul-le-mul_left amount most in
    div-le_of_le-mul 10000 (omega (arith, all))

pub fees_are_no_more : FeesAreNoMore
fees_are_no_more fee [] most = omega arith
fees_are_no_more fee (charge ∷ charges) most =
    let fees = sum_by-cons (charge_fee fee) charge charges in
    let total = sum_by-cons (λ (c : Charge). c.amount) charge charges in
    let one = part_of_rent charge.amount fee most in
    let rest = fees_are_no_more fee charges most in
    omega (arith, fees, total, one, rest)
