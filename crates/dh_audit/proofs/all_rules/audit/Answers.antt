use Rattle.std.proofs.Common.{◌∙◌, refl, subst, sym}
use Rattle.std.specs.Result.{MatchResult}
use Rattle.std.proofs.lemmas.Bool.{false≢true}
use Rattle.dh_model.specs.Rules.{Endings, Fees, Months, Runs}
use Rattle.dh_model.specs.Runs.{batch_size}
use Rattle.dh_audit.specs.Audit.{HoldBelow, IsLeastBroken}
use Rattle.dh_audit.proofs.Least.{all_rules, below_next, least}
use Rattle.dh_audit.proofs.all_rules.audit.Goals as goal

pub returns-then-not-runs_in_order : goal.returns-then-not-runs_in_order
returns-then-not-runs_in_order c =
    let books = c.args.books.now.books in
    let below : HoldBelow books batch_size 9 =
    subst (λ found. MatchResult found (λ _. HoldBelow books batch_size 9) (IsLeastBroken books batch_size)) c.in_default.is c.in_ok-rule.ensures in
    least books batch_size 9 Runs refl below (λ holds. false≢true (sym c.if-not-runs_in_order.true ∙ c.runs_in_order.ensures.1 holds))

pub returns-then-not-branch : goal.returns-then-not-branch
returns-then-not-branch c =
    let books = c.args.books.now.books in
    let below : HoldBelow books batch_size 9 =
    subst (λ found. MatchResult found (λ _. HoldBelow books batch_size 9) (IsLeastBroken books batch_size)) c.in_default.is c.in_ok-rule.ensures in
    least books batch_size 10 Months refl (below_next books batch_size 9 10 Runs refl refl below (c.runs_in_order.ensures.0 c.if-not-runs_in_order.false))
    (λ holds. false≢true (sym c.if-not-branch.true ∙ c.in_ok-months_in_order.ensures.1 holds))

pub returns-then-not-branch-2 : goal.returns-then-not-branch-2
returns-then-not-branch-2 c =
    let books = c.args.books.now.books in
    let below : HoldBelow books batch_size 9 =
    subst (λ found. MatchResult found (λ _. HoldBelow books batch_size 9) (IsLeastBroken books batch_size)) c.in_default.is c.in_ok-rule.ensures in
    let runs = below_next books batch_size 9 10 Runs refl refl below (c.runs_in_order.ensures.0 c.if-not-runs_in_order.false) in
    least books batch_size 11 Fees refl (below_next books batch_size 10 11 Months refl refl runs (c.in_ok-months_in_order.ensures.0 c.if-not-branch.false))
    (λ holds. false≢true (sym c.if-not-branch-2.true ∙ c.in_ok-fees_in_order.ensures.1 holds))

pub returns-then-not-endings_in_order : goal.returns-then-not-endings_in_order
returns-then-not-endings_in_order c =
    let books = c.args.books.now.books in
    let below : HoldBelow books batch_size 9 =
    subst (λ found. MatchResult found (λ _. HoldBelow books batch_size 9) (IsLeastBroken books batch_size)) c.in_default.is c.in_ok-rule.ensures in
    let runs = below_next books batch_size 9 10 Runs refl refl below (c.runs_in_order.ensures.0 c.if-not-runs_in_order.false) in
    let months = below_next books batch_size 10 11 Months refl refl runs (c.in_ok-months_in_order.ensures.0 c.if-not-branch.false) in
    let fees = below_next books batch_size 11 12 Fees refl refl months (c.in_ok-fees_in_order.ensures.0 c.if-not-branch-2.false) in
    least books batch_size 12 Endings refl fees
    (λ holds. false≢true (sym c.if-not-endings_in_order.true ∙ c.endings_in_order.ensures.1 holds))

pub returns : goal.returns
returns c =
    let books = c.args.books.now.books in
    let below : HoldBelow books batch_size 9 =
    subst (λ found. MatchResult found (λ _. HoldBelow books batch_size 9) (IsLeastBroken books batch_size)) c.in_default.is c.in_ok-rule.ensures in
    let runs = below_next books batch_size 9 10 Runs refl refl below (c.runs_in_order.ensures.0 c.if-not-runs_in_order.false) in
    let months = below_next books batch_size 10 11 Months refl refl runs (c.in_ok-months_in_order.ensures.0 c.if-not-branch.false) in
    let fees = below_next books batch_size 11 12 Fees refl refl months (c.in_ok-fees_in_order.ensures.0 c.if-not-branch-2.false) in
    all_rules books batch_size (below_next books batch_size 12 13 Endings refl refl fees
    (c.endings_in_order.ensures.0 c.if-not-endings_in_order.false))
