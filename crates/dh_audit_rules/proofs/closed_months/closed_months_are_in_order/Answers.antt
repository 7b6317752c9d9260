use Rattle.std.proofs.Common.{◌∙◌, sym}
use Rattle.std.proofs.lemmas.Bool.{false≢true}
use Rattle.std.proofs.lemmas.Result.{IfOk-weaker}
use Rattle.dh_audit_rules.proofs.ClosedWhole.{all_charges, all_closed, dues_parts, parts_sums, runs_sums}
use Rattle.dh_audit_rules.proofs.closed_months.closed_months_are_in_order.Goals as goal

pub returns-then-not-dues_have_parts : goal.returns-then-not-dues_have_parts
returns-then-not-dues_have_parts c =
    let are = c.deref-dues.ensures.value ∙ c.in_ok-all.ensures in (
      λ yes. absurd (false≢true yes),
      λ all. absurd (false≢true (sym c.if-not-dues_have_parts.true
          ∙ c.dues_have_parts.ensures.1 (dues_parts c.args.books.now.books c.in_ok-months.months c.in_ok-months.ensures c.deref-dues.result.now are all))),
    )

pub returns-then-not-branch : goal.returns-then-not-branch
returns-then-not-branch c =
    let are = c.deref-dues.ensures.value ∙ c.in_ok-all.ensures in (
      λ yes. absurd (false≢true yes),
      λ all. absurd (false≢true (sym c.if-not-branch.true
          ∙ c.in_ok-runs_are_sums.ensures.1 (runs_sums c.args.books.now.books c.in_ok-months.months c.in_ok-months.ensures c.deref-dues.result.now are all))),
    )

pub returns-then-not-branch-2 : goal.returns-then-not-branch-2
returns-then-not-branch-2 c =
    let are = c.deref-dues.ensures.value ∙ c.in_ok-all.ensures in (
      λ yes. absurd (false≢true yes),
      λ all. absurd (false≢true (sym c.if-not-branch-2.true
          ∙ c.in_ok-parts_are_sums.ensures.1 (parts_sums c.args.books.now.books c.in_ok-months.months c.in_ok-months.ensures c.deref-dues.result.now are all))),
    )

pub returns : goal.returns
returns c =
    let books = c.args.books.now.books in
    let months = c.in_ok-months.months in
    let dues = c.deref-dues.result.now in
    let are = c.deref-dues.ensures.value ∙ c.in_ok-all.ensures in
    IfOk-weaker c.charges_are_dues.result _ _
    (λ b tells. (
      λ yes. all_closed books months c.in_ok-months.ensures dues are (c.in_ok-runs_are_sums.ensures.0 c.if-not-branch.false)
          (c.in_ok-parts_are_sums.ensures.0 c.if-not-branch-2.false)
          (c.dues_have_parts.ensures.0 c.if-not-dues_have_parts.false) (tells.0 yes),
      λ all. tells.1 (all_charges books months c.in_ok-months.ensures dues are all),
    ))
    c.charges_are_dues.ensures
