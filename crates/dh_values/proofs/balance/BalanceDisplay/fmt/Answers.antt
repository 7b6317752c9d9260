use Rattle.std.proofs.Common.{◌≡◌, ◌∙◌, ap, pos, true, false, List, ℕ, rules, subst}
use Rattle.std.specs.Fmt.{HasWritten}
use Rattle.std.proofs.lemmas.Int.{to_z-of_z}
use lib.IntN.{nat_abs}
use lib.Signed.{lt_z}
use mir.Syntax.{w128}
use mir.Val.{SFits, to_z, of_z}
use Rattle.dh_values.proofs.MoneyTexts.{owed_shown, money_shown}
use Rattle.dh_values.proofs.balance.BalanceDisplay.fmt.Goals as goal

pub returns-then-self-lt0-clause-writes : goal.returns-then-self-lt0-clause-writes
returns-then-self-lt0-clause-writes g c plain ok =
    let z = c.self.inside.pence in
    let fits : SFits w128 z = search rules in
    let same : to_z w128 (of_z w128 z) ≡ z = to_z-of_z w128 z fits in
    let below : lt_z z (pos 0) ≡ true = rw (← same) c.if-self-lt0.true in
    let text = owed_shown z c.unsigned_abs-pence.result (c.unsigned_abs-pence.ensures.value ∙ ap nat_abs same) below in
    rw (← c.self.view_is) (subst (λ (t : List ℕ). HasWritten g.W.Write.write_str_gives c.args.f.now t c.write.new.self) text (c.write.ensures.writes plain ok))

pub returns-else-self-lt0-clause-writes : goal.returns-else-self-lt0-clause-writes
returns-else-self-lt0-clause-writes g c plain ok =
    let z = c.self.inside.pence in
    let fits : SFits w128 z = search rules in
    let same : to_z w128 (of_z w128 z) ≡ z = to_z-of_z w128 z fits in
    let not_below : lt_z z (pos 0) ≡ false = rw (← same) c.if-self-lt0.false in
    let text = money_shown z c.unsigned_abs-pence.result (c.unsigned_abs-pence.ensures.value ∙ ap nat_abs same) not_below in
    rw (← c.self.view_is) (subst (λ (t : List ℕ). HasWritten g.W.Write.write_str_gives c.args.f.now t c.write-else-self-lt0.new.self) text
    (c.write-else-self-lt0.ensures.writes plain ok))
