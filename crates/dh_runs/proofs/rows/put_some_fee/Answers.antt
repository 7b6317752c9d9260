use Rattle.std.proofs.Common.{sym, subst, Ok, Option}
use Rattle.sqlite.specs.Held.{state}
use Rattle.dh_types.specs.declared.fee.PartFee.{PartFee}
use Rattle.dh_leases.specs.Plans.{some_row}
use Rattle.dh_schema.specs.Store.{tables}
use Rattle.dh_schema.specs.Putting.{TurnsBooks}
use Rattle.dh_runs.specs.Putting.{with_fees}
use Rattle.dh_schema.proofs.Putting.{nothing_put}
use Rattle.dh_runs.proofs.Putting.{no_fees}
use Rattle.dh_runs.proofs.rows.put_some_fee.Goals as goal

pub returns-in-None-clause-puts : goal.returns-in-None-clause-puts
returns-in-None-clause-puts g c =
    let old = state g.S.Store c.args.tx.now.conn.now in
    subst (λ (fee : Option PartFee). TurnsBooks (with_fees (some_row fee)) (Ok tt) old old) (sym c.in-None.is)
    (nothing_put old c.requires.writing (sym (no_fees (tables old).books)))
