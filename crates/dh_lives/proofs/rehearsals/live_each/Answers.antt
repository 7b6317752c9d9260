use Rattle.std.proofs.Common.{take, ◌+◌, sym, subst, List}
use Rattle.dh_lives.specs.declared.lives.Lived.{Lived}
use Rattle.dh_lives.specs.Lives.{AreAccountsOf}
use Rattle.dh_lives.proofs.AccountLemmas.{taken_more}
use Rattle.dh_lives.proofs.rehearsals.live_each.Goals as goal

pub loop-life-preserved : goal.loop-life-preserved
loop-life-preserved c =
    let lives = c.args.lives.now in
    let more = taken_more lives c.loop-life.accounts.items c.loop-life.life-index c.life-item.result c.in_ok-lived.lived c.loop-life-test.true c.life-item.is
    c.loop-life.invariant c.in_ok-lived.ensures.account in
    subst (λ (accounts : List Lived). AreAccountsOf (take (c.loop-life.life-index + 1) lives) accounts) (sym c.in_ok-keep.ensures) more
