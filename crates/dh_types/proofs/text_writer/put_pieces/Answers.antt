use Rattle.std.proofs.Common.{arith, length, ◌<◌}
use Rattle.std.proofs.lemmas.Result.{err_from_is_err_and}
use Rattle.dh_types.proofs.WritingLemmas.{parts-more, parts-front}
use Rattle.dh_types.proofs.text_writer.put_pieces.Goals as goal

pub loop-part-preserved : goal.loop-part-preserved
loop-part-preserved g c =
    let here : c.loop-part.part-index < length c.args.parts.now = omega arith in
    parts-more _ _ _ _ _ _ _ here c.loop-part.invariant c.in_ok-put.ensures

pub returns-in_err-put : goal.returns-in_err-put
returns-in_err-put g c =
    let here : c.loop-part.part-index < length c.args.parts.now = omega arith in
    let p = err_from_is_err_and c.from_residual.result c.from_residual.ensures.1 in
    rw p.1 (parts-front _ _ _ _ _ _ _ here c.loop-part.invariant c.in_err-put.ensures)
