use Rattle.dh_http.proofs.TryLemmas.{IsTrying}
use Rattle.dh_http.proofs.acceptor.accept.Given as goal

abbrev pub invariant-loop-turn : goal.invariant-loop-turn
invariant-loop-turn g l = IsTrying (g.D.Door.tries l.initial.door) (g.D.Door.tries l.door) l._turn
