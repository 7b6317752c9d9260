use Rattle.std.proofs.Common.{◌≡◌, ◌*◌}
use Rattle.dh_http.specs.Calls.{nanos}
use Rattle.dh_http.proofs.CallLemmas.{HasTaken}
use Rattle.dh_http.proofs.streams.TimedStream.drain.Given as goal

abbrev pub invariant-loop-turn : goal.invariant-loop-turn
invariant-loop-turn g l = record {
  seconds : l.self.seconds ≡ l.initial.self.seconds;
  taken : HasTaken (g.P.Peer.calls l.initial.self.peer) (g.P.Peer.calls l.self.peer) (nanos l.initial.self.seconds) l.initial.self.begun
      l.self.begun l.bytes l.left l._turn;
}
