use Rattle.std.proofs.Common.{◌∙◌, sym, [], ◌∷◌}
use Rattle.dh_rows.proofs.Columns.{six_columns}
use Rattle.dh_rows.proofs.receipt.ReceiptRecord.from_row.Goals as goal

pub returns-clause-read : goal.returns-clause-read
returns-clause-read c =
    let number = rw c.in-Some.is at c.in_ok-number.ensures.read in
    let key = rw c.in-Some-2.is at c.in_ok-key.ensures.read in
    let lease = rw c.in-Some-3.is at c.in_ok-lease.ensures.read in
    let kind = rw c.in-Some-4.is at c.in_ok-kind.ensures.read in
    let amount = rw c.in-Some-5.is at c.in_ok-amount.ensures.read in
    let day = rw c.in-Some-6.is at c.in_ok-day.ensures.read in
    (λ i. sym number i ∷ sym key i ∷ sym lease i ∷ sym kind i ∷ sym amount i ∷ sym day i ∷ [])
    ∙ six_columns c.args.columns.now (sym c.column_count.ensures ∙ c.if-column_count-ne6.false)
