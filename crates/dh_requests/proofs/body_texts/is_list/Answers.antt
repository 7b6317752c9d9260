use Rattle.std.proofs.Common.{◌∙◌, ◌++◌, ◌∷◌, [], Some, ap, map, refl, sym}
use Rattle.json.specs.Token.{Token}
use Rattle.dh_requests.proofs.TextTokens.{closing, ends, goes_on, no_text, one_more, texts_tokens}
use Rattle.dh_requests.proofs.body_texts.is_list.Goals as goal

pub returns-then-not-take_list-clause-none : goal.returns-then-not-take_list-clause-none
returns-then-not-take_list-clause-none c f texts e =
    c.if-not-take_list.ensures.other refl (closing texts []) (c.in-Ok.ensures.ok ∙ texts_tokens c.args.text.now texts e)

pub returns-then-not-take_text-clause-none : goal.returns-then-not-take_text-clause-none
returns-then-not-take_text-clause-none c f =
    let same = c.texts-test.ensures.1 in
    no_text c.args.text.now c.texts.invariant.0 c.texts.reader c.texts.invariant.1 c.texts-test.ensures.0
    (λ text rest x. c.if-not-take_text.ensures.other refl text rest (same ∙ x))

pub texts-preserved : goal.texts-preserved
texts-preserved c =
    let seen = c.texts.invariant.0 in
    let text = c.if-not-take_text.ensures.text refl in (
      seen ++ (text.0 ∷ []),
      c.texts.invariant.1 ∙ ap (λ l. Token.begin_array ∷ (map Token.string seen ++ l)) (sym c.texts-test.ensures.1 ∙ text.1)
          ∙ ap (λ l. Token.begin_array ∷ l) (one_more seen text.0 c.take_text.new.reader),
    )

pub returns-clause-texts : goal.returns-clause-texts
returns-clause-texts c h =
    ends c.args.text.now c.texts.invariant.0 c.texts.reader c.texts.invariant.1 (c.texts-test.ensures ∙ ap Some (c.is_at_end.ensures.0 h))

pub returns-clause-none : goal.returns-clause-none
returns-clause-none c h =
    goes_on c.args.text.now c.texts.invariant.0 c.texts.reader c.take_end_array.new.self c.texts.invariant.1 c.texts-test.ensures
    (λ x. let t = c.is_at_end.ensures.1 x in cc)
