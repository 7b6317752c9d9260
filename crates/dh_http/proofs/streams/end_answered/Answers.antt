use Rattle.std.proofs.Common.{◌*◌, ap, subst, sym}
use Rattle.dh_http.specs.Calls.{Makes, nanos}
use Rattle.dh_http.proofs.CallLemmas.{broken, whole}
use Rattle.dh_http.proofs.streams.end_answered.Goals as goal

pub returns-then-is_err : goal.returns-then-is_err
returns-then-is_err g c =
    broken (g.P.Peer.calls c.args.peer) (g.P.Peer.calls c.end_output.new.self) (nanos c.args.patience.rest_seconds) c.args.patience.rest_bytes
    c.end_output.result (sym c.if-is_err.ensures.value) c.end_output.ensures

pub returns : goal.returns
returns g c =
    let first = c.new-rest.ensures in
    let taken = c.drain.ensures in
    whole (g.P.Peer.calls c.args.peer) (g.P.Peer.calls c.end_output.new.self) (g.P.Peer.calls c.drain.new.self.peer)
    (nanos c.args.patience.rest_seconds) c.args.patience.rest_bytes (nanos c.new-rest.result.seconds) c.new-rest.result.begun
    c.end_output.result (sym c.if-is_err.ensures.value) c.end_output.ensures (ap nanos first.seconds) first.begun
    (taken.0, subst (λ peer. Makes (g.P.Peer.calls peer) (g.P.Peer.calls c.drain.new.self.peer) taken.0) first.peer taken.1, taken.2)
