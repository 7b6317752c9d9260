use Rattle.std.proofs.Common.{◌≡◌, ◌∙◌, ap, arith, rules}
use Rattle.std.specs.Option.{option_to_list}
use Rattle.dh_days.specs.Days.{month_of_day}
use Rattle.dh_leases.proofs.DueIn.{its_due, none_after, none_before}
use Rattle.dh_leases.proofs.charges.due_in.Goals as goal

pub returns-in_err-index : goal.returns-in_err-index
returns-in_err-index c =
    let first : c.number-2.result ≡ month_of_day c.args.lease.now.terms.start =
    c.number-2.ensures.value ∙ c.month.ensures.value ∙ ap month_of_day c.day-start.ensures.value in
    ap option_to_list c.from_residual.ensures ∙ none_before c.args.books.now.books.endings c.args.lease.now c.args.month
    (omega (arith, c.in_err-index.ensures, first, c.number.ensures.value))

pub returns-then-index-months : goal.returns-then-index-months
returns-then-index-months c =
    let first : c.number-2.result ≡ month_of_day c.args.lease.now.terms.start =
    c.number-2.ensures.value ∙ c.month.ensures.value ∙ ap month_of_day c.day-start.ensures.value in
    none_after c.args.books.now.books.endings c.args.lease.now c.args.month
    (omega (arith, c.in_ok-index.ensures, first, c.number.ensures.value, c.number-months.ensures.value))

pub returns : goal.returns
returns c =
    let first : c.number-2.result ≡ month_of_day c.args.lease.now.terms.start =
    c.number-2.ensures.value ∙ c.month.ensures.value ∙ ap month_of_day c.day-start.ensures.value in
    its_due c.args.books.now.books.endings c.args.lease.now c.args.month c.in_ok-index.index c.of_number.result c.of_number-2.result c.unwrap.result
    (omega (arith, c.in_ok-index.ensures, first, c.number.ensures.value))
    (omega (arith, c.number-months.ensures.value))
    (search rules) (search rules) (search rules)
