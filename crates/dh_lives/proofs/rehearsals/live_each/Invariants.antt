use Rattle.std.proofs.Common.{take}
use Rattle.dh_lives.specs.Lives.{AreAccountsOf}
use Rattle.dh_lives.proofs.rehearsals.live_each.Given as goal

-- an account of each life so far
abbrev pub invariant-loop-life : goal.invariant-loop-life
invariant-loop-life l = AreAccountsOf (take l.life-index l.lives) l.accounts.items
