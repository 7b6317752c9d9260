use Rattle.std.proofs.Common.{◌≡◌, ◌↔◌, ◌∙◌, ap, subst, sym, true}
use Rattle.std.specs.Prelude.{IsSomeAnd, option_copied}
use Rattle.std.specs.FinMap as fin
use Rattle.dh_audit_rules.specs.Fees.{IsItsRow, pence_at}
use Rattle.dh_audit_rules.proofs.fees.has_its_row.Goals as goal

pub returns-in-Some : goal.returns-in-Some
returns-in-Some c =
    let books = c.args.books.now.books in
    let part = c.args.part.now in
    let sums = pence_at c.args.fees.now in
    let found = ap (fin.get books.part_fees) (sym c.key-key.ensures) ∙ sym c.part_fee.ensures ∙ ap option_copied c.in-Some.is in
    let sum = c.pence_at.ensures ∙ ap sums c.key-key.ensures in
    subst (λ found. (c.is_its_row.result ≡ true) ↔ IsSomeAnd found (IsItsRow books (sums (part.month, part.branch)) part)) (sym found)
    (subst (λ sum. (c.is_its_row.result ≡ true) ↔ IsItsRow books sum part c.in-Some.row.now) sum c.is_its_row.ensures)
