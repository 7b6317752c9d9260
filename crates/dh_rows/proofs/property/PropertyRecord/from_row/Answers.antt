use Rattle.std.proofs.Common.{◌∙◌, sym, [], ◌∷◌}
use Rattle.dh_rows.proofs.Columns.{ten_columns}
use Rattle.dh_rows.proofs.property.PropertyRecord.from_row.Goals as goal

pub returns-clause-read : goal.returns-clause-read
returns-clause-read c =
    let number = rw c.in-Some.is at c.in_ok-number.ensures.read in
    let street = rw c.in-Some-2.is at c.in_ok-street.ensures.read in
    let city = rw c.in-Some-3.is at c.in_ok-city.ensures.read in
    let postcode = rw c.in-Some-4.is at c.in_ok-postcode.ensures.read in
    let property_type = rw c.in-Some-5.is at c.in_ok-property_type.ensures.read in
    let rooms = rw c.in-Some-6.is at c.in_ok-rooms.ensures.read in
    let rent = rw c.in-Some-7.is at c.in_ok-rent.ensures.read in
    let owner = rw c.in-Some-8.is at c.in_ok-owner.ensures.read in
    let staff = rw c.in-Some-9.is at c.in_ok-staff.ensures.read in
    let branch = rw c.in-Some-10.is at c.in_ok-branch.ensures.read in
    (λ i. sym number i ∷ sym street i ∷ sym city i ∷ sym postcode i ∷ sym property_type i ∷ sym rooms i ∷ sym rent i ∷ sym owner i
    ∷ sym staff i ∷ sym branch i ∷ [])
    ∙ ten_columns c.args.columns.now (sym c.column_count.ensures ∙ c.if-column_count-ne10.false)
