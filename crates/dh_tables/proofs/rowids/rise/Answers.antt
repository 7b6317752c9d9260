use Rattle.std.proofs.Common.{◌≡◌, ◌+◌, ◌-◌, ◌<ℤ◌, ◌≤ℤ◌, rules, ℕ, get_or, pos, refl, subst, sym, true≢false, arith}
use Rattle.std.specs.Int.Signed.{clash_ℤ}
use Rattle.dh_tables.proofs.Numbers.{rise_at, rises}
use Rattle.dh_tables.proofs.rowids.rise.Goals as goal

pub returns-then-numbers-at : goal.returns-then-numbers-at
returns-then-numbers-at c =
    let numbers = c.args.numbers.now in
    let at = c.loop-at.at in
    let next : at - 1 + 1 ≡ at = omega arith in
    let lower : get_or numbers at (pos 0) ≤ℤ get_or numbers (at - 1) (pos 0) = search rules in (
      (λ is. absurd (true≢false (sym is))),
      (λ up.
          let above = rise_at numbers (at - 1) up (omega arith) in
          clash_ℤ (subst (λ (n : ℕ). get_or numbers (at - 1) (pos 0) <ℤ get_or numbers n (pos 0)) next above) lower),
    )

pub returns : goal.returns
returns c = (
  (λ is. rises c.args.numbers.now (λ k low. c.loop-at.invariant k (omega (arith, low, c.loop-at-test.false)))),
  (λ up. refl),
)
