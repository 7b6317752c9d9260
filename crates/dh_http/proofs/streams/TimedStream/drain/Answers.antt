use Rattle.std.proofs.Common.{◌≡◌, ◌≢◌, ◌∙◌, ◌*◌, ◌+◌, ◌<◌, arith, rules, subst, sym}
use Rattle.std.specs.IoError.{error_kind}
use Rattle.std.specs.declared.io.ErrorKind.TheVariants.{Interrupted}
use Rattle.dh_http.specs.Calls.{Reads, nanos}
use Rattle.dh_http.proofs.CallLemmas.{HasTaken, same_time, taken_again, taken_all, taken_enough, taken_more, taken_part}
use Rattle.dh_http.proofs.streams.TimedStream.drain.Goals as goal
use Rattle.dh_http.proofs.streams.TimedStream.drain.Goals.{in-Ok, in-Err+else-ne}

pub returns-then-left-eq0 : goal.returns-then-left-eq0
returns-then-left-eq0 g c =
    taken_enough (g.P.Peer.calls c.args.self.now.peer) (g.P.Peer.calls c.loop-turn.self.peer) (nanos c.args.self.now.seconds) c.args.self.now.begun
    c.loop-turn.self.begun c.args.bytes c.loop-turn.left c.loop-turn._turn c.loop-turn.invariant.taken c.if-left-eq0.true

pub returns-in-Ok-eq0 : goal.returns-in-Ok-eq0
returns-in-Ok-eq0 g c =
    let did = c.in-Ok-eq0.ensures.uses in
    let some : 0 < c.loop-turn.left = omega arith in
    let now = c.read.new.self in
    taken_all (g.P.Peer.calls c.args.self.now.peer) (g.P.Peer.calls c.loop-turn.self.peer) (g.P.Peer.calls now.peer)
    (nanos c.args.self.now.seconds) c.args.self.now.begun c.loop-turn.self.begun now.begun c.args.bytes c.loop-turn.left c.loop-turn._turn
    c.loop-turn.invariant.taken some did.0 did.1 c.in-Ok-eq0.field-0 c.in-Ok-eq0.field-0-test
    (same_time (λ n r. Reads n r) c.loop-turn.self.seconds c.args.self.now.seconds c.loop-turn.self.begun now.begun did.0 _
    c.loop-turn.invariant.seconds did.2)

pub returns-then-ne : goal.returns-then-ne
returns-then-ne g c =
    let did = c.in-Err.ensures.uses in
    let some : 0 < c.loop-turn.left = omega arith in
    let now = c.read.new.self in
    let kind : error_kind c.in-Err.error ≢ Interrupted = search rules in
    taken_part (g.P.Peer.calls c.args.self.now.peer) (g.P.Peer.calls c.loop-turn.self.peer) (g.P.Peer.calls now.peer)
    (nanos c.args.self.now.seconds) c.args.self.now.begun c.loop-turn.self.begun now.begun c.args.bytes c.loop-turn.left c.loop-turn._turn
    c.loop-turn.invariant.taken some did.0 did.1 c.in-Err.error
    (same_time (λ n r. Reads n r) c.loop-turn.self.seconds c.args.self.now.seconds c.loop-turn.self.begun now.begun did.0 _
    c.loop-turn.invariant.seconds did.2) kind

pub loop-turn-preserved : goal.loop-turn-preserved
loop-turn-preserved g c =
    let some : 0 < c.loop-turn.left = omega arith in
    let now = c.read.new.self in
    let seconds = c.read.ensures.seconds ∙ c.loop-turn.invariant.seconds in
    elim c.match-read.branch [
      | in-Ok w ↦
          let did = w.in-Ok.ensures.uses in
          let any : 0 < w.in-Ok.count = omega arith in
          record {
            seconds = seconds;
            taken =
                subst (λ n.
                HasTaken (g.P.Peer.calls c.args.self.now.peer) (g.P.Peer.calls now.peer) (nanos c.args.self.now.seconds) c.args.self.now.begun
                now.begun c.args.bytes n (c.loop-turn._turn + 1)) (sym (w.left-is ∙ w.saturating_sub-left.ensures))
                (taken_more (g.P.Peer.calls c.args.self.now.peer) (g.P.Peer.calls c.loop-turn.self.peer) (g.P.Peer.calls now.peer)
                (nanos c.args.self.now.seconds) c.args.self.now.begun c.loop-turn.self.begun now.begun c.args.bytes c.loop-turn.left
                c.loop-turn._turn c.loop-turn.invariant.taken some did.0 did.1 w.in-Ok.count any
                (same_time (λ n r. Reads n r) c.loop-turn.self.seconds c.args.self.now.seconds c.loop-turn.self.begun now.begun did.0 _
                c.loop-turn.invariant.seconds did.2));
          }
      | in-Err+else-ne w ↦
          let did = w.in-Err.ensures.uses in
          let kind : error_kind w.in-Err.error ≡ Interrupted = search rules in
          record {
            seconds = seconds;
            taken =
                subst (λ n.
                HasTaken (g.P.Peer.calls c.args.self.now.peer) (g.P.Peer.calls now.peer) (nanos c.args.self.now.seconds) c.args.self.now.begun
                now.begun c.args.bytes n (c.loop-turn._turn + 1)) (sym w.left-is)
                (taken_again (g.P.Peer.calls c.args.self.now.peer) (g.P.Peer.calls c.loop-turn.self.peer) (g.P.Peer.calls now.peer)
                (nanos c.args.self.now.seconds) c.args.self.now.begun c.loop-turn.self.begun now.begun c.args.bytes c.loop-turn.left
                c.loop-turn._turn c.loop-turn.invariant.taken some did.0 did.1 w.in-Err.error
                (same_time (λ n r. Reads n r) c.loop-turn.self.seconds c.args.self.now.seconds c.loop-turn.self.begun now.begun did.0 _
                c.loop-turn.invariant.seconds did.2) kind);
          }
    ]
