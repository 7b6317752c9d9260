use Rattle.std.proofs.Common.{refl}
use Rattle.dh_types.specs.declared.lease.Receipt.{Receipt}
use Rattle.dh_model.specs.Checks.{is_same_text}
use Rattle.dh_schema.proofs.ReadsInTurn.{reads_then}
use Rattle.dh_store.proofs.verdicts.rows.at_receipt.Goals as goal

pub returns-clause-gathered : goal.returns-clause-gathered
returns-clause-gathered g c t at =
    let key = c.args.order.now.key in
    let second = c.in_ok-look-2.ensures.brought.first t _ (c.in_ok-look.ensures.brought.first t _ at refl) refl in
    let of_key = c.in_ok-look-3.ensures.brought.first t _ second refl in
    c.look-4.ensures.brought.more t _ (λ (receipt : Receipt). is_same_text receipt.key key) of_key refl

pub returns-clause-reads : goal.returns-clause-reads
returns-clause-reads g c =
    let second = reads_then c.in_ok-look.ensures.reads c.in_ok-look-2.ensures.reads in
    reads_then (reads_then second c.in_ok-look-3.ensures.reads) c.look-4.ensures.reads
