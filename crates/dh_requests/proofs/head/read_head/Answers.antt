use Rattle.std.proofs.Common.{arith, take, ℕ, length-take}
use Rattle.dh_requests.specs.Heads.{IsLargeHead}
use Rattle.dh_requests.proofs.HeadLemmas.{lift, crowded_more, full_more, long_more}
use Rattle.dh_requests.proofs.head.read_head.Goals as goal

pub returns-in-TooLarge-clause-input : goal.returns-in-TooLarge-clause-input
returns-in-TooLarge-clause-input g c =
    lift _ _ _ (λ input after. IsLargeHead input) (c.in_ok-total.ensures.bytes _ c.loop-filled.invariant.read)
    (λ input after e. crowded_more _ after e c.in-TooLarge.ensures.judged)

pub returns-then-spans-gt-HEAD_BYTES-clause-input : goal.returns-then-spans-gt-HEAD_BYTES-clause-input
returns-then-spans-gt-HEAD_BYTES-clause-input g c =
    lift _ _ _ (λ input after. IsLargeHead input) (c.in_ok-total.ensures.bytes _ c.loop-filled.invariant.read)
    (λ input after e. long_more _ after e (omega (arith, length-take {A = ℕ})) c.in-Whole.ensures.judged.1 c.if-spans-gt-HEAD_BYTES.true)

pub returns-clause-input : goal.returns-clause-input
returns-clause-input g c =
    lift _ _ _ (λ input after. IsLargeHead input) c.loop-filled.invariant.read
    (λ input after e.
    full_more (take c.loop-filled.filled c.loop-filled.buffer) after e (omega (arith, length-take {A = ℕ}))
    (c.loop-filled.invariant.unfinished (omega arith)))
