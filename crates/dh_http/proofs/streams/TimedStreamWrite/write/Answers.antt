use Rattle.std.proofs.Common.{◌*◌, ◌++◌, ◌∷◌, []}
use Rattle.std.specs.Duration.{as_nanos}
use Rattle.dh_http.specs.Calls.{Writes, nanos}
use Rattle.dh_http.proofs.CallLemmas.{is_error, makes_both, unused, used}
use Rattle.dh_http.proofs.streams.TimedStreamWrite.write.Goals as goal

pub returns-in_err-left-clause-uses : goal.returns-in_err-left-clause-uses
returns-in_err-left-clause-uses g c =
    let told = c.in_err-left.ensures.asks in
    let e = c.in_err-left.field-0.0 in (
      told.0,
      told.1,
      unused (λ n r. Writes n r) (nanos c.args.self.now.seconds) c.args.self.now.begun c.time_left.new.self.begun told.0 e c.from_residual.result
          (is_error e c.from_residual.result c.from_residual.ensures.1) told.2,
    )

pub returns-clause-uses : goal.returns-clause-uses
returns-clause-uses g c =
    let told = c.in_ok-left.ensures.asks in
    let left = c.in_ok-left.left in
    let r = c.write_within.result in (
      told.0 ++ Writes (as_nanos left) r ∷ [],
      makes_both (g.P.Peer.calls c.args.self.now.peer) (g.P.Peer.calls c.time_left.new.self.peer) (g.P.Peer.calls c.write_within.new.self) told.0
          (Writes (as_nanos left) r ∷ []) told.1 c.write_within.ensures.made,
      used (λ n r. Writes n r) (nanos c.args.self.now.seconds) c.args.self.now.begun c.time_left.new.self.begun told.0 left r told.2,
    )
