use Rattle.std.proofs.Common.{◌≡◌, ◌≢◌, ◌∙◌, ◌∷◌, List, ℕ, Err, Ok, ap, codes, refl}
use Rattle.dh_fields.specs.Lines.{request_of}
use Rattle.dh_requests.specs.declared.judged_request.JudgedRequest.TheVariants as asked
use Rattle.dh_requests.specs.declared.routes.Route.{Route}
use Rattle.dh_requests.specs.declared.routes.Route.TheVariants as route
use Rattle.dh_requests.specs.Requests.{question_fields, taken_as}
use Rattle.dh_requests.specs.Routes.{words_of}
use Rattle.dh_requests.proofs.verdict.asked_by.Goals as goal

fields_are : (asking : Route) → asking ≢ route.Commands → (first second : List ℕ)
    → codes "show" ∷ (words_of asking).word ∷ taken_as (words_of asking).pieces first second ≡ question_fields asking first second
fields_are route.Commands other first second = absurd (other refl)
fields_are asking other first second = refl

pub returns-in-Ok : goal.returns-in-Ok
returns-in-Ok c =
    let it = words_of c.args.route in
    let first = c.pieces_of.result.0.now in
    let second = c.pieces_of.result.1.now in (
      first,
      second,
      c.pieces_of.ensures,
      ap asked.Fields (c.in-Ok.ensures it.pieces c.words-count.ensures.count
          ∙ ap (λ (w : List ℕ). request_of (codes "show" ∷ w ∷ taken_as it.pieces first second)) (c.as_bytes.ensures.value ∙ c.words-count.ensures.word)
          ∙ ap request_of (fields_are c.args.route c.requires.asks first second)),
    )

pub returns-in-Err : goal.returns-in-Err
returns-in-Err c =
    let it = words_of c.args.route in
    let first = c.pieces_of.result.0.now in
    let second = c.pieces_of.result.1.now in (
      first,
      second,
      c.pieces_of.ensures,
      ap asked.Fields (c.in-Err.ensures it.pieces c.words-count.ensures.count
          ∙ ap (λ (w : List ℕ). request_of (codes "show" ∷ w ∷ taken_as it.pieces first second)) (c.as_bytes.ensures.value ∙ c.words-count.ensures.word)
          ∙ ap request_of (fields_are c.args.route c.requires.asks first second)),
    )
