use Rattle.std.proofs.Common.{◌++◌}
use Rattle.dh_reports.specs.Columns.{newline}
use Rattle.dh_reports.proofs.PartLemmas.{broke, goes_on}
use Rattle.dh_lines.specs.LineBodies.{body_text}
use Rattle.dh_lines.proofs.LineLemmas.{number-broke, number-goes_on}
use Rattle.dh_lines.proofs.replies.put_line_in_pieces.Goals as goal

pub returns-in_err-put_number : goal.returns-in_err-put_number
returns-in_err-put_number g c =
    number-broke c.from_residual.result _ _ c.args.number (body_text c.args.body.now ++ newline) c.from_residual.ensures.0 c.in_err-put_number.ensures

pub returns-in_err-put_body : goal.returns-in_err-put_body
returns-in_err-put_body g c =
    number-goes_on c.from_residual-in_err-put_body.result _ _ _ c.args.number (body_text c.args.body.now ++ newline) c.in_ok-put_number.ensures
    (broke c.from_residual-in_err-put_body.result _ _ (body_text c.args.body.now) newline c.from_residual-in_err-put_body.ensures.0 c.in_err-put_body.ensures)

pub returns : goal.returns
returns g c =
    number-goes_on c.put.result _ _ _ c.args.number (body_text c.args.body.now ++ newline) c.in_ok-put_number.ensures
    (goes_on c.put.result _ _ _ (body_text c.args.body.now) newline c.in_ok-put_body.ensures c.put.ensures)
