use Rattle.std.proofs.Common.{◌∙◌, sym, [], ◌∷◌}
use Rattle.dh_rows.proofs.Columns.{seven_columns}
use Rattle.dh_rows.proofs.lease.LeaseRecord.from_row.Goals as goal

pub returns-clause-read : goal.returns-clause-read
returns-clause-read c =
    let number = rw c.in-Some.is at c.in_ok-number.ensures.read in
    let client = rw c.in-Some-2.is at c.in_ok-client.ensures.read in
    let property = rw c.in-Some-3.is at c.in_ok-property.ensures.read in
    let start = rw c.in-Some-4.is at c.in_ok-start.ensures.read in
    let months = rw c.in-Some-5.is at c.in_ok-months.ensures.read in
    let method = rw c.in-Some-6.is at c.in_ok-method.ensures.read in
    let rent = rw c.in-Some-7.is at c.in_ok-rent.ensures.read in
    (λ i. sym number i ∷ sym client i ∷ sym property i ∷ sym start i ∷ sym months i ∷ sym method i ∷ sym rent i ∷ [])
    ∙ seven_columns c.args.columns.now (sym c.column_count.ensures ∙ c.if-column_count-ne7.false)
