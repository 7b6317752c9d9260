use Rattle.std.proofs.Common.{◌≡◌, ◌∙◌, refl, ap, subst, arith}
use Rattle.std.specs.FinMap.{values}
use Rattle.sqlite.specs.State.{HasCleanDisk}
use Rattle.sqlite.specs.Held.{state}
use Rattle.dh_model.specs.Books as machine
use Rattle.dh_model.specs.Rules.{parts_in}
use Rattle.dh_schema.specs.Store.{tables}
use Rattle.dh_runs.specs.Closing.{IsTooMuch, sum_of_parts}
use Rattle.dh_runs.proofs.OfMonth.{parts_of_month}
use Rattle.dh_runs.proofs.SumsFit.{never_too_much}
use Rattle.dh_runs.proofs.run_end.month_sum.Goals as goal

pub returns-in-Some-clause-value : goal.returns-in-Some-clause-value
returns-in-Some-clause-value g c clean =
    let old = tables (state g.S.Store c.args.conn.now) in
    let none = ap (λ (s : machine.State). s.books.parts) c.no_rows-books.ensures in
    let taken = c.in_ok-look.ensures.brought.first old c.no_rows-books.result (λ _. (refl, refl)) none clean in
    c.in-Some.ensures.some ∙ ap (λ (s : machine.State). sum_of_parts c.args.month (values s.books.parts)) taken.1
    ∙ ap (sum_of_parts c.args.month) (parts_of_month old.books c.args.month)

pub unclean-requires : goal.unclean-requires
unclean-requires g c clean =
    let s = state g.S.Store c.args.conn.now in
    let early : HasCleanDisk s = omega (arith, c.look.ensures.reads.crash.clean, clean) in
    let none = ap (λ (s : machine.State). s.books.parts) c.no_rows-books.ensures in
    let taken = c.in_ok-look.ensures.brought.first (tables s) c.no_rows-books.result (λ _. (refl, refl)) none clean in
    let same : sum_of_parts c.args.month (values c.look.new.books.books.parts) ≡ sum_of_parts c.args.month (parts_in (tables s).books c.args.month) =
    ap (λ (s : machine.State). sum_of_parts c.args.month (values s.books.parts)) taken.1
    ∙ ap (sum_of_parts c.args.month) (parts_of_month (tables s).books c.args.month) in
    never_too_much s (c.requires.ready early) c.args.month (c.requires.end early) (subst IsTooMuch same c.in-None.ensures.none)
