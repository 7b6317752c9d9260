use Rattle.std.proofs.Common.{◌∙◌, sym}
use Rattle.dh_ddl.proofs.Telling.{tells_ours}
use Rattle.dh_ddl.proofs.ours.is_ours.Goals as goal

pub returns : goal.returns
returns c =
    let it = tells_ours c.args.schema.now c.args.ours.now c.requires in
    (λ h. it.0 (sym c.is_same_schema.ensures ∙ h), λ e. c.is_same_schema.ensures ∙ it.1 e)
