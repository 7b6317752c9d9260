use Rattle.std.proofs.Common.{◌∙◌, ap, nat_eq, sym}
use Rattle.std.specs.Cmp.Lexicographic.{pointwise}
use Rattle.std.specs.Option.{option_copied}
use Rattle.std.specs.Prelude.{option_map}
use Rattle.dh_requests.proofs.Orders.{show_first, show_none}
use Rattle.dh_requests.proofs.command_body.is_question.Goals as goal

pub returns-in-Some : goal.returns-in-Some
returns-in-Some c =
    let first = sym c.first.ensures.value ∙ ap option_copied c.in-Some.is in
    c.eq.ensures ∙ ap (pointwise nat_eq c.in-Some.word.now.now) c.as_slice.ensures
    ∙ show_first c.args.texts.now c.in-Some.word.now.now (ap (option_map (λ t. t.now)) first)

pub returns-in-None : goal.returns-in-None
returns-in-None c = show_none c.args.texts.now (sym c.first.ensures.value ∙ ap option_copied c.in-None.is)
