use Rattle.std.proofs.Common.{subst, arith}
use Rattle.sqlite.specs.State.{HasCleanDisk}
use Rattle.sqlite.specs.Held.{state}
use Rattle.dh_model.specs.Books as machine
use Rattle.dh_model.specs.Rules.{MeetsRules}
use Rattle.dh_model.specs.Runs.{batch_size}
use Rattle.dh_agency_test_kit.proofs.Ready.{ready_now}
use Rattle.dh_agency_test_kit.proofs.sound.sound_books.Goals as goal

pub returns : goal.returns
returns g c clean =
    let old = state g.S.Store c.args.conn.now in
    let new = state g.S.Store c.load.new.conn in
    let early : HasCleanDisk old = omega (arith, c.load.ensures.crash.clean, clean) in
    let read = c.in_ok-books.ensures in
    let rules = subst (λ (s : machine.State). MeetsRules s.books batch_size) (read.books clean) c.in_ok-check_books.ensures in
    ready_now old new (c.requires early) read.ours (read.version clean) (read.in_order clean) rules (read.same clean)
