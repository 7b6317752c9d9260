use Rattle.std.proofs.Common.{drop}
use Rattle.dh_rules.proofs.PlayingSteps.{SoFar}
use Rattle.dh_rules.proofs.events.play.Given as goal

-- the replies so far are those to what came before
abbrev pub invariant-loop-happening : goal.invariant-loop-happening
invariant-loop-happening l = SoFar l.happenings l.fn.start (drop l.happening-index l.happenings) l.replies.items l.tables
