use Rattle.std.proofs.Common.{length, ◌<◌, arith, false-eqb}
use Rattle.dh_types.proofs.WritingLemmas.{written-on, written-kept, written-front}
use Rattle.dh_types.proofs.text_writer.put.Goals as goal

pub loop-rest-preserved : goal.loop-rest-preserved
loop-rest-preserved g c = written-on _ _ _ _ _ _ c.loop-rest.invariant c.in-Ok.ensures.ok

pub returns-in-Err : goal.returns-in-Err
returns-in-Err g c =
    let some : 0 < length c.loop-rest.rest.now = omega (arith, false-eqb _ 0 c.loop-rest-test.ensures) in
    written-front _ _ _ _ some (written-kept _ _ _ _ _ c.loop-rest.invariant c.in-Err.ensures.err)
