use Rattle.std.proofs.Common.{◌↔◌, ◌∙◌, subst}
use Rattle.std.specs.FinMap as fin
use Rattle.std.specs.Map.Iter.{deref}
use Rattle.std.proofs.lemmas.Map.Iter.{rest_more}
use Rattle.dh_audit_rules.proofs.Consecutive.{Follow, keys_tell, no_more, no_rest}
use Rattle.dh_audit_rules.proofs.runs.months_have_runs.Goals as goal

pub returns-then-number-expected : goal.returns-then-number-expected
returns-then-number-expected c =
    let books = c.args.books.now.books in
    keys_tell books.runs books.first books.next _
    (no_more c.in-Some.month.now c.loop-month.expected books.next _ (fin.keys books.runs) books.first
    (subst (λ rest. Follow (fin.keys books.runs) books.first books.next ↔ Follow rest c.loop-month.expected books.next)
    (rest_more deref _ _ _ c.in-Some.month c.in-Some.is c.next.ensures.steps) c.loop-month.invariant.follow)
    (λ e. c.if-number-expected.true (c.number.ensures.value ∙ e)))

pub returns : goal.returns
returns c =
    let books = c.args.books.now.books in
    keys_tell books.runs books.first books.next _
    (no_rest c.loop-month.expected books.next _ (fin.keys books.runs) books.first
    (subst (λ rest. Follow (fin.keys books.runs) books.first books.next
    ↔ Follow rest c.loop-month.expected books.next) c.in-None.ensures.steps.0 c.loop-month.invariant.follow)
    (c.number-2.ensures.value ∙ c.next-2.ensures))
