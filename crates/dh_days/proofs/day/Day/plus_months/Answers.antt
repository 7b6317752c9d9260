use Rattle.std.proofs.Common.{arith, refl, w64}
use Rattle.std.proofs.lemmas.Int.{to_z_pos}
use Rattle.dh_days.proofs.MonthsLater.{later_day, later_year, can_add}
use Rattle.dh_days.proofs.day.Day.plus_months.Goals as goal

pub of_date-requires : goal.of_date-requires
of_date-requires c =
    let only = rw (to_z_pos w64 c.args.n (omega arith)) at c.months.ensures in
    later_year c.args.self.now c.args.n c.date-date.result c.in-Ok.date c.months.result c.date-date.ensures.range c.date-date.ensures.value only
    (c.in-Ok.ensures.succeeds.0 refl) c.in-Ok.ensures.value

pub returns-in-Ok-clause-later : goal.returns-in-Ok-clause-later
returns-in-Ok-clause-later c =
    let only = rw (to_z_pos w64 c.args.n (omega arith)) at c.months.ensures in
    later_day c.args.self.now c.of_date.result c.args.n c.date-date.result c.in-Ok.date c.months.result c.date-date.ensures.value c.of_date.ensures only
    (c.in-Ok.ensures.succeeds.0 refl) c.in-Ok.ensures.value

pub returns-in-Ok-clause-exact : goal.returns-in-Ok-clause-exact
returns-in-Ok-clause-exact c =
    let only = rw (to_z_pos w64 c.args.n (omega arith)) at c.months.ensures in
    let can = can_add c.args.self.now c.args.n c.date-date.result c.months.result c.date-date.ensures.value only in
    (λ t. can.0 (c.in-Ok.ensures.succeeds.0 refl), λ h. refl)

pub returns-in-Err-clause-exact : goal.returns-in-Err-clause-exact
returns-in-Err-clause-exact c =
    let only = rw (to_z_pos w64 c.args.n (omega arith)) at c.months.ensures in
    let can = can_add c.args.self.now c.args.n c.date-date.result c.months.result c.date-date.ensures.value only in
    (λ t. cc, λ h. c.in-Err.ensures.succeeds.1 (can.1 h))
