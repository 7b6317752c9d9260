use Rattle.std.proofs.Common.{◌∙◌, arith}
use Rattle.dh_reading.proofs.Taking.{takes_both}
use Rattle.dh_reading.proofs.buffer.fill.Goals as goal

pub loop-filled-preserved : goal.loop-filled-preserved
loop-filled-preserved g c = record {
  room = c.read_more.ensures.length ∙ c.loop-filled.invariant.room;
  within = c.in_ok-total.ensures.within.1;
  read = λ start h. c.in_ok-total.ensures.bytes start (c.loop-filled.invariant.read start h);
  consumed = takes_both _ _ _ _ _ _ c.loop-filled.invariant.consumed c.in_ok-total.ensures.consumed (omega (arith, c.in_ok-total.ensures.within.0));
  reached = omega (arith, c.in_ok-total.ensures.within.0);
}
