use Rattle.std.proofs.Common.{◌≡◌, ℕ, List, false, refl, ap, ◌∙◌}
use Rattle.std.proofs.lemmas.Result.{IfOk-weaker}
use Rattle.serde_json.specs.Written.{has_float, compact_text}
use Rattle.serde_json.proofs.OnLiterals.{serde_json_on_literals}
use Rattle.dh_requests.specs.Texts.{reply_data, reply_body}
use Rattle.dh_requests.proofs.reply_body.reply.Goals as goal

no_float : (code : ℕ) (text : List ℕ) → has_float (reply_data code text) ≡ false
no_float code text = refl

text_is : (code : ℕ) (text : List ℕ) → compact_text (reply_data code text) ≡ reply_body code text
unfolding serde_json_on_literals
text_is code text = refl

pub returns : goal.returns
returns c =
    let built = c.in_ok-value.ensures in
    IfOk-weaker c.to_string.result _ _
    (λ s h. h (ap has_float built ∙ no_float c.args.code c.args.text.now) ∙ ap compact_text built ∙ text_is c.args.code c.args.text.now)
    c.to_string.ensures.text
