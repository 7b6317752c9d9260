use Rattle.std.proofs.Common.{ap, refl, subst, sym}
use Rattle.sqlite.specs.Held.{state}
use Rattle.dh_model.specs.declared.rows.Change.{Change}
use Rattle.dh_model.specs.Edits.{edit_of}
use Rattle.dh_model.specs.Machine.{changed}
use Rattle.dh_laws.specs.Looks.{FitsIn}
use Rattle.dh_schema.specs.Store.{tables}
use Rattle.dh_schema.specs.Changes.{PutsRows}
use Rattle.dh_schema.proofs.Editing.{by_row, by_update}
use Rattle.dh_schema.proofs.Putting.{nothing_put}
use Rattle.dh_schema.proofs.changes.put_rows.Goals as goal

pub amend-requires-clause-is : goal.amend-requires-clause-is
amend-requires-clause-is g c =
    let it = c.in-Fee.it in
    by_row it (ap edit_of c.in-Fee.is) refl (λ there same i. record { branch = same i; fee = it.fee })

pub amend-requires-in-Assign-clause-is : goal.amend-requires-in-Assign-clause-is
amend-requires-in-Assign-clause-is g c = by_update (ap edit_of c.in-Assign.is)

pub amend-requires-in-Rent-clause-is : goal.amend-requires-in-Rent-clause-is
amend-requires-in-Rent-clause-is g c = by_update (ap edit_of c.in-Rent.is)

pub amend-requires-in-Comment-clause-is : goal.amend-requires-in-Comment-clause-is
amend-requires-in-Comment-clause-is g c = by_update (ap edit_of c.in-Comment.is)

pub amend-requires-in-Ending-clause-is : goal.amend-requires-in-Ending-clause-is
amend-requires-in-Ending-clause-is g c =
    let it = c.in-Ending.it in
    by_row it (ap edit_of c.in-Ending.is) refl (λ there same i. record { lease = same i; months = it.months })

pub put_run-requires-clause-fresh : goal.put_run-requires-clause-fresh
put_run-requires-clause-fresh g c clean =
    let books = (tables (state g.S.Store c.args.tx.now.conn.now)).books in
    subst (λ (rows : Change). FitsIn rows books) c.in-Open.is (c.requires.fits clean)

pub returns-in-Open-clause-puts : goal.returns-in-Open-clause-puts
returns-in-Open-clause-puts g c =
    let old = state g.S.Store c.args.tx.now.conn.now in
    let new = state g.S.Store c.put_run.new.tx.conn.now in
    subst (λ (rows : Change). PutsRows rows c.put_run.result old new) (sym c.in-Open.is) c.put_run.ensures.puts

pub returns-in-Post-clause-puts : goal.returns-in-Post-clause-puts
returns-in-Post-clause-puts g c =
    let old = state g.S.Store c.args.tx.now.conn.now in
    nothing_put old c.requires.writing (ap (λ (said : Change). changed said (tables old).books) (sym c.in-Post.is))
