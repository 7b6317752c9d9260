use Rattle.std.proofs.Common.{◌≡◌, ◌∙◌, ◌<◌, ◌≤◌, ◌++◌, sym, ap, length, arith, rules, None}
use Rattle.std.specs.Option.{option_to_list}
use Rattle.std.proofs.lemmas.List.{append-nil}
use Rattle.dh_rules.proofs.PlayingSteps.{so_far_all, so_far_more}
use Rattle.dh_rules.proofs.events.play.Goals.{in-Some+in_ok-push, in_default}
use Rattle.dh_rules.proofs.events.play.Goals as goal

pub loop-happening-preserved : goal.loop-happening-preserved
loop-happening-preserved c =
    let all = c.args.happenings.now in
    let left = c.in_ok-left.left in
    let replies = c.loop-happening.replies.items in
    let here : c.loop-happening.happening-index < length all = omega arith in
    let added : c.match-left.replies.items ≡ replies ++ option_to_list left.reply =
    elim c.match-left.branch [
      | in-Some+in_ok-push w ↦ ap (λ v. v.items) w.replies-is ∙ (rw w.in-Some.is at w.in_ok-push.ensures.items)
          ∙ ap (λ r. replies ++ option_to_list r) (sym w.in-Some.is)
      | in_default w ↦ let none : left.reply ≡ None = search rules in
          ap (λ v. v.items) w.replies-is ∙ sym (ap (λ r. replies ++ option_to_list r) none ∙ append-nil replies)
    ] in
    so_far_more all c.args.start c.loop-happening.happening-index _ left.reply replies _ c.loop-happening.tables left.tables here
    c.happening-item.is c.loop-happening.invariant c.in_ok-left.ensures added

pub returns : goal.returns
returns c =
    let all = c.args.happenings.now in
    let ended : length all ≤ c.loop-happening.happening-index = omega arith in
    so_far_all all c.args.start c.loop-happening.happening-index c.loop-happening.replies.items c.loop-happening.tables ended c.loop-happening.invariant
