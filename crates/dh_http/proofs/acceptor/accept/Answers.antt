use Rattle.std.proofs.Common.{◌≡◌, ◌≢◌, Ok, Err, rules}
use Rattle.std.specs.IoError.{error_kind}
use Rattle.std.specs.declared.io.ErrorKind.TheVariants.{Interrupted}
use Rattle.dh_http.proofs.TryLemmas.{tried_again, tried_last}
use Rattle.dh_http.proofs.acceptor.accept.Goals as goal

pub returns-in-Ok-clause-tried : goal.returns-in-Ok-clause-tried
returns-in-Ok-clause-tried g c =
    tried_last (g.D.Door.tries c.args.door.now) (g.D.Door.tries c.loop-turn.door) (g.D.Door.tries c.try_next.new.self) c.loop-turn._turn
    c.loop-turn.invariant (Ok c.in-Ok.caller) c.in-Ok.ensures (λ never. never)

pub returns-then-ne-clause-tried : goal.returns-then-ne-clause-tried
returns-then-ne-clause-tried g c =
    let kind : error_kind c.in-Err.error ≢ Interrupted = search rules in
    tried_last (g.D.Door.tries c.args.door.now) (g.D.Door.tries c.loop-turn.door) (g.D.Door.tries c.try_next.new.self) c.loop-turn._turn
    c.loop-turn.invariant (Err c.in-Err.error) c.in-Err.ensures kind

pub loop-turn-preserved : goal.loop-turn-preserved
loop-turn-preserved g c =
    let kind : error_kind c.in-Err.error ≡ Interrupted = search rules in
    tried_again (g.D.Door.tries c.args.door.now) (g.D.Door.tries c.loop-turn.door) (g.D.Door.tries c.try_next.new.self) c.loop-turn._turn
    c.loop-turn.invariant (Err c.in-Err.error) c.in-Err.ensures kind
