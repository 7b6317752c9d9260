use Rattle.std.proofs.Common.{◌≡◌, ◌∙◌, sym, ap, ◌+◌, ◌<◌, ◌≤◌, ◌++◌, append-nil, arith}
use Rattle.std.specs.Option.{option_to_list}
use Rattle.dh_days.specs.Days.{month_of_day}
use Rattle.dh_model.specs.Leases.{length_of}
use Rattle.dh_audit_rules.proofs.ClosedDues.{due_added, left_all, left_none, some_due}
use Rattle.dh_audit_rules.proofs.closed_dues.add_dues.Goals.{in-Some+in_ok-push, in_default}
use Rattle.dh_audit_rules.proofs.closed_dues.add_dues.Goals as goal

pub loop-index-init : goal.loop-index-init
loop-index-init c = ap (λ ds. c.args.dues.now.items ++ ds) (left_all c.args.books.now.books.endings c.args.branch.now c.args.lease.now)

pub loop-index-preserved : goal.loop-index-preserved
loop-index-preserved c =
    let endings = c.args.books.now.books.endings in
    let lease = c.args.lease.now in
    let i = c.loop-index.index in
    let within : i < length_of endings lease = omega (arith, c.loop-index-test.true, c.number-index-end.ensures.value, c.length_of.ensures) in
    let month : c.of_number-month.result ≡ month_of_day lease.terms.start + i =
    c.of_number-month.ensures ∙ ap (λ n. n + i) (c.number-first.ensures.value ∙ c.month.ensures.value ∙ ap month_of_day c.day.ensures.value) in
    elim c.match-due_in.branch [
      | in-Some+in_ok-push w ↦ due_added endings c.args.branch.now lease i within c.loop-index.dues.items c.match-due_in.dues.items _ w.in-Some.charge
          c.of_number-month.result month
          (sym (ap option_to_list w.in-Some.is) ∙ c.due_in.ensures) (ap (λ ds. ds.items) w.dues-is ∙ w.in_ok-push.ensures.items) c.loop-index.invariant
      | in_default w ↦ absurd (some_due endings c.args.branch.now lease i within c.of_number-month.result month (sym (ap option_to_list w.in_default.is)
          ∙ c.due_in.ensures))
    ]

pub returns : goal.returns
returns c =
    let endings = c.args.books.now.books.endings in
    let past : length_of endings c.args.lease.now ≤ c.loop-index.index =
    omega (arith, c.loop-index-test.false, c.number-index-end.ensures.value, c.length_of.ensures) in
    sym (append-nil c.loop-index.dues.items)
    ∙ ap (λ ds. c.loop-index.dues.items ++ ds) (sym (left_none endings c.args.branch.now c.args.lease.now c.loop-index.index past)) ∙ c.loop-index.invariant
