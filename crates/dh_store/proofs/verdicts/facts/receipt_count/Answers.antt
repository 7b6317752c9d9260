use Rattle.std.proofs.Common.{◌∙◌, sym, subst, arith, Some, None}
use Rattle.sqlite.specs.State.{HasCleanDisk}
use Rattle.sqlite.specs.Held.{state}
use Rattle.dh_laws.specs.Looks.{IsLast}
use Rattle.dh_model.specs.Kinds.{Receipts}
use Rattle.dh_schema.specs.Tables.{books_in}
use Rattle.dh_store.proofs.Shown.{count_shown}
use Rattle.dh_store.proofs.verdicts.facts.receipt_count.Goals as goal

pub last_receipt-requires-clause-kept : goal.last_receipt-requires-clause-kept
last_receipt-requires-clause-kept g c clean = ((c.requires clean).sound.in_order.tables Receipts tt).kept

pub returns-in-Ok-Some-clause-counted : goal.returns-in-Ok-Some-clause-counted
returns-in-Ok-Some-clause-counted g c clean =
    let early : HasCleanDisk (state g.S.Store c.args.conn.now) = omega (arith, c.last_receipt.ensures.crash.clean, clean) in
    let trees = (state g.S.Store c.args.conn.now).now.trees in
    let last = subst (IsLast (books_in trees).receipts) c.in-Ok-Some.field-0-is (c.in-Ok-Some.ensures.last clean) in
    c.number.ensures.value ∙ sym (count_shown trees (Some c.in-Ok-Some.last) (c.requires early).sound last)

pub returns-in-Ok-None-clause-counted : goal.returns-in-Ok-None-clause-counted
returns-in-Ok-None-clause-counted g c clean =
    let early : HasCleanDisk (state g.S.Store c.args.conn.now) = omega (arith, c.last_receipt.ensures.crash.clean, clean) in
    let trees = (state g.S.Store c.args.conn.now).now.trees in
    let last = subst (IsLast (books_in trees).receipts) c.in-Ok-None.field-0-is (c.in-Ok-None.ensures.last clean) in
    sym (count_shown trees None (c.requires early).sound last)
