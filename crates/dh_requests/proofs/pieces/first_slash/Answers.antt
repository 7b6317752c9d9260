use Rattle.std.proofs.Common.{◌≡◌, ◌+◌, ◌==◌, add-one, ap, arith, drop, false, get_or, suc, true}
use Rattle.std.proofs.lemmas.Bool.Decides.{nat_tests}
use Rattle.dh_requests.specs.Pieces.{first_slash}
use Rattle.dh_requests.proofs.Parting.{at_end, at_slash, next_place}
use Rattle.dh_requests.proofs.pieces.first_slash.Goals as goal

pub returns-then-bytes-place-eq47-clause-value : goal.returns-then-bytes-place-eq47-clause-value
returns-then-bytes-place-eq47-clause-value c =
    let is : (get_or c.args.bytes.now c.loop-place.place 0 == 47) ≡ true = grind (arith, nat_tests) in
    omega (arith, c.loop-place.invariant.1, at_slash c.args.bytes.now c.loop-place.place c.loop-place-test.true is)

pub loop-place-preserved : goal.loop-place-preserved
loop-place-preserved c =
    let other : (get_or c.args.bytes.now c.loop-place.place 0 == 47) ≡ false = grind (arith, nat_tests) in
    let on = next_place c.args.bytes.now c.loop-place.place c.loop-place-test.true other in
    let one : first_slash (drop (c.loop-place.place + 1) c.args.bytes.now) ≡ first_slash (drop (suc c.loop-place.place) c.args.bytes.now) =
    ap (λ n. first_slash (drop n c.args.bytes.now)) (add-one c.loop-place.place) in
    (omega (arith, c.loop-place-test.true), omega (arith, c.loop-place.invariant.1, on, one))

pub returns-clause-value : goal.returns-clause-value
returns-clause-value c =
    omega (arith, c.loop-place.invariant.1, at_end c.args.bytes.now c.loop-place.place (omega (arith, c.loop-place-test.false)))
