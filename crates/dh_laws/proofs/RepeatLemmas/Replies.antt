-- A command whose key was used gets the reply that is kept, or a refusal, and the state stays.
use Rattle.std.proofs.Common.{◌≡◌, refl, ap, ℕ, Bool, true, false, nat_eq, if◌then◌else◌}
use Rattle.std.specs.FinMap.{len}
use Rattle.std.proofs.lemmas.Bool.{false_from_ne_true}
use Rattle.dh_types.specs.declared.lease.Receipt.{Receipt}
use Rattle.dh_types.specs.declared.run.Run.{Run}
use Rattle.dh_types.specs.declared.command.Command.TheVariants as command
use Rattle.dh_types.specs.declared.command.ReceiptOrder.{ReceiptOrder}
use Rattle.dh_types.specs.declared.command.RunOrder.{RunOrder}
use Rattle.dh_types.specs.declared.reply.Reply.TheVariants as reply
use Rattle.dh_types.specs.declared.reply.Refusal.TheVariants as refusal
use Rattle.dh_types.specs.Records.{is_same_payment}
use Rattle.dh_types.proofs.SameRecords.{same_payment}
use Rattle.dh_types.proofs.SameValues.{numbers}
use Rattle.dh_model.specs.declared.rows.Change.{Change}
use Rattle.dh_model.specs.declared.rows.Change.TheVariants as change
use Rattle.dh_model.specs.declared.rows.Verdict.{Verdict}
use Rattle.dh_model.specs.declared.rows.Verdict.TheVariants as verdict
use Rattle.dh_model.specs.Books.{Books}
use Rattle.dh_model.specs.Machine.{accepted, settled}
use Rattle.dh_model.specs.Rules.{KeysInOrder}
use Rattle.dh_model.specs.Runs.{sum_of}
use Rattle.dh_model.specs.Verdicts.{decided, receipt_ruling, run_verdict}
use Rattle.dh_laws.specs.Repeating.{IsReceiptOf, IsRunOf, NothingNewChangesNothing, ReceiptsRepeat, RepeatsGetTheirReply, RunsRepeat, is_of_nothing_new}
use Rattle.dh_laws.specs.Repeating.{with_no_run}
use Rattle.dh_model.proofs.MachineLemmas.{state_stays}
use Rattle.dh_laws.proofs.RepeatLemmas.Keys.{no_receipt, no_run, one_receipt, one_run}

-- ---- what the books say of a used key

module _ (books : Books) (keys : KeysInOrder books) where
  module _ (order : ReceiptOrder) where
    abbrev receipt_told : Verdict
    receipt_told = decided (receipt_ruling books (len books.receipts) order)

    paid_by : (b : Bool) (receipt : Receipt) → is_same_payment order.payment receipt.payment ≡ b → IsReceiptOf books order.key receipt
        → receipt_told ≡ (if b then verdict.Already (reply.AlreadyReceipt receipt.number) else verdict.Refused refusal.KeyUsed)
    paid_by b receipt same is = rw ((one_receipt books order.key keys receipt).1 is, same) refl

    paid_by_run : (run : Run) → IsRunOf books order.key run → receipt_told ≡ verdict.Refused refusal.KeyUsed
    paid_by_run run is = rw (no_receipt books order.key keys run is, (one_run books order.key keys run).1 is) refl

  module _ (order : RunOrder) where
    posted_by : (b : Bool) (run : Run) → nat_eq order.month run.month ≡ b → IsRunOf books order.key run
        → run_verdict books order ≡ (if b then verdict.Already (reply.AlreadyPosted (sum_of run)) else verdict.Refused refusal.KeyUsed)
    posted_by b run same is = rw ((one_run books order.key keys run).1 is, same) refl

    posted_by_receipt : (receipt : Receipt) → IsReceiptOf books order.key receipt → run_verdict books order ≡ verdict.Refused refusal.KeyUsed
    posted_by_receipt receipt is = rw (no_run books order.key keys receipt is, (one_receipt books order.key keys receipt).1 is) refl

-- ---- what it is answered

module _ (size : ℕ) where
  pub receipts_repeat : ReceiptsRepeat size
  receipts_repeat books order keys = (
    λ receipt is same. ap (settled size (with_no_run books) (command.Receipt order))
        (paid_by books keys order true receipt ((same_payment order.payment receipt.payment).1 same) is),
    λ receipt is differ. ap (settled size (with_no_run books) (command.Receipt order))
        (paid_by books keys order false receipt
        (false_from_ne_true (is_same_payment order.payment receipt.payment) (λ yes. differ ((same_payment order.payment receipt.payment).0 yes))) is),
    λ run is. ap (settled size (with_no_run books) (command.Receipt order)) (paid_by_run books keys order run is),
  )

  pub runs_repeat : RunsRepeat size command.Run
  runs_repeat books order keys = (
    λ run is same. ap (settled size (with_no_run books) (command.Run order)) (posted_by books keys order true run ((numbers order.month run.month).1 same) is),
    λ run is differ. ap (settled size (with_no_run books) (command.Run order))
        (posted_by books keys order false run (false_from_ne_true (nat_eq order.month run.month) (λ yes. differ ((numbers order.month run.month).0 yes))) is),
    λ receipt is. ap (settled size (with_no_run books) (command.Run order)) (posted_by_receipt books keys order receipt is),
  )

  pub openings_repeat : RunsRepeat size command.Open
  openings_repeat books order keys = (
    λ run is same. ap (settled size (with_no_run books) (command.Open order)) (posted_by books keys order true run ((numbers order.month run.month).1 same) is),
    λ run is differ. ap (settled size (with_no_run books) (command.Open order))
        (posted_by books keys order false run (false_from_ne_true (nat_eq order.month run.month) (λ yes. differ ((numbers order.month run.month).0 yes))) is),
    λ receipt is. ap (settled size (with_no_run books) (command.Open order)) (posted_by_receipt books keys order receipt is),
  )

  -- ---- a reply of nothing new

  accepted_is_new : (rows : Change) → is_of_nothing_new (accepted rows) ≡ true → ⊥
  accepted_is_new (change.Receipt it) h = cc
  accepted_is_new _ h = cc

  pub repeats_get_their_reply : RepeatsGetTheirReply size
  repeats_get_their_reply = (receipts_repeat, runs_repeat, openings_repeat)

  pub nothing_new_changes_nothing : NothingNewChangesNothing size
  nothing_new_changes_nothing s told =
      state_stays size (λ r. is_of_nothing_new r ≡ true) accepted_is_new (λ month e. cc) (λ sum e. cc) (λ part e. cc) s told
