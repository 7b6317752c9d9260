use Rattle.std.proofs.Common.{[], ◌∙◌, ap}
use Rattle.dh_http.specs.declared.answers.Content.TheVariants.{Json}
use Rattle.dh_http.proofs.answers.json.Goals as goal

pub returns : goal.returns
returns c =
    ap (λ l. record { status = c.args.status; content = Json; allow = []; body = l }) (ap (λ v. v.items) c.into_bytes.ensures.value ∙ c.in_ok-text.ensures)
