use Rattle.std.proofs.Common.{ℕ, zero, ◌^◌, ◌<◌, ◌≤◌, arith, rules}
use Rattle.std.proofs.Math.Nat.{pow-le-pow_right}
use Rattle.dh_values.proofs.digits.number.Goals as goal

power_small : (k i : ℕ) → i ≤ k → 10 ^ i ≤ 10 ^ k
power_small k i h = let ten : zero < 10 = omega arith in pow-le-pow_right ten h

pub overflow_mul-n : goal.overflow_mul-n
overflow_mul-n c =
    let small : c.loop-b.n < 10 ^ 7 = omega (arith, power_small 7 c.loop-b.b-index (omega arith)) in
    search rules

pub overflow_add-n : goal.overflow_add-n
overflow_add-n c =
    let small : c.loop-b.n < 10 ^ 7 = omega (arith, power_small 7 c.loop-b.b-index (omega arith)) in
    search rules

pub returns-clause-bound : goal.returns-clause-bound
returns-clause-bound c = omega (arith, power_small 8 c.loop-b.b-index (omega arith))
