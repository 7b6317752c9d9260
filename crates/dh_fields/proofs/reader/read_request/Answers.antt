use Rattle.dh_fields.proofs.Requests.{asked, asked_badly, commanded, commanded_badly, says_nothing, shows}
use Rattle.dh_fields.proofs.reader.read_request.Goals as goal

pub returns-in_err-text : goal.returns-in_err-text
returns-in_err-text c = says_nothing c.args.line.now _ _ c.from_residual.ensures.1 c.in_err-text.ensures

pub returns-in_err-read_shown : goal.returns-in_err-read_shown
returns-in_err-read_shown c =
    let show = shows c.args.line.now _ _ _ c.in_ok-text.ensures c.eq.ensures c.if-eq.true in
    asked_badly c.args.line.now show _ _ c.from_residual-in_err-read_shown.ensures.1 c.in_err-read_shown.ensures

pub returns-in_err-read_command : goal.returns-in_err-read_command
returns-in_err-read_command c =
    let show = shows c.args.line.now _ _ _ c.in_ok-text.ensures c.eq.ensures c.if-eq.false in
    commanded_badly c.args.line.now show _ _ c.from_residual-in_err-read_command.ensures.1 c.in_err-read_command.ensures

pub returns-in_ok-read_shown : goal.returns-in_ok-read_shown
returns-in_ok-read_shown c =
    let show = shows c.args.line.now _ _ _ c.in_ok-text.ensures c.eq.ensures c.if-eq.true in
    asked c.args.line.now show _ c.in_ok-read_shown.ensures

pub returns-in_ok-read_command : goal.returns-in_ok-read_command
returns-in_ok-read_command c =
    let show = shows c.args.line.now _ _ _ c.in_ok-text.ensures c.eq.ensures c.if-eq.false in
    commanded c.args.line.now show _ c.in_ok-read_command.ensures
