-- What a command that was answered moves and keeps. The books are the whole ones, with the open run made to its end.
use Rattle.std.specs.Prelude.{◌≡◌, ◌↔◌, ℕ, ℤ, pos, ◌+ℤ◌, ◌-ℤ◌, true, nat_eq, if◌then◌else◌, None}
use Rattle.std.specs.List.{IsAmong}
use Rattle.std.specs.FinMap.{values}
use Rattle.sqlite_trees.specs.Tree.{Trees}
use Rattle.dh_values.specs.declared.receipt_kind.ReceiptKind.TheVariants.{Rent}
use Rattle.dh_types.specs.declared.lease.Charge.{Charge}
use Rattle.dh_types.specs.declared.run.RunSum.{RunSum}
use Rattle.dh_types.specs.declared.command.Command.{Command}
use Rattle.dh_types.specs.declared.command.Command.TheVariants as command
use Rattle.dh_types.specs.declared.command.ReceiptOrder.{ReceiptOrder}
use Rattle.dh_types.specs.declared.command.RunOrder.{RunOrder}
use Rattle.dh_types.specs.declared.reply.Reply.{Reply}
use Rattle.dh_types.specs.declared.reply.Reply.TheVariants as reply
use Rattle.dh_types.specs.Records.{is_same_receipt_kind}
use Rattle.dh_model.specs.Answers.{balance}
use Rattle.dh_model.specs.Books.{Books}
use Rattle.dh_model.specs.Leases.{dues}
use Rattle.dh_model.specs.Rules.{IsLawful, IsThere}
use Rattle.dh_model.specs.Runs.{batch_size, total_of}
use Rattle.dh_model.specs.Whole.{whole}
use Rattle.dh_laws.specs.Balances.{due_on}
use Rattle.dh_laws.specs.Events.{state_of}
use Rattle.dh_laws.specs.InOrder.{AreKeyed, IsEntered}
use Rattle.dh_laws.specs.Repeating.{is_of_nothing_new}
use Rattle.dh_schema.specs.Tables.{IsSound, books_in, state_in, tables_in}
use Rattle.dh_runs.specs.Outcomes.{IsAnsweredBy}

abbrev pub whole_in : Trees → Books
whole_in trees = whole batch_size (books_in trees)

-- What an answered command adds to what a lease owes: a run or its opening what falls due on it in the month, a rent receipt its
-- amount less than nothing, all else nothing.
abbrev pub added : Books → Command → Reply → ℕ → ℤ
added books (command.Run order) (reply.Posted sum) lease = pos (total_of (due_on books order.month lease))
added books (command.Open order) (reply.Opened month) lease = pos (total_of (due_on books order.month lease))
added books (command.Receipt order) (reply.Receipt number) lease =
    if nat_eq order.payment.lease lease then
    (if is_same_receipt_kind order.payment.kind Rent then pos 0 -ℤ pos order.payment.amount else pos 0) else pos 0
added books _ _ lease = pos 0

-- what each lease owes moves by that, and by nothing else
abbrev pub AnswersMoveBalances : Type 0
AnswersMoveBalances = (before after : Trees) (told : Command) (reply : Reply) (lease : ℕ) → IsSound before
    → IsAnsweredBy told reply (state_in before) (state_in after)
    → balance (whole_in after) lease ≡ balance (whole_in before) lease +ℤ added (whole_in before) told reply lease

-- the charges are what fell due in the months that were run, and nothing else
abbrev pub ChargesAreDues : Type 0
ChargesAreDues = (trees : Trees) (charge : Charge) → IsSound trees
    → IsAmong (values (whole_in trees).charges) charge
    ↔ ((month : ℕ) × IsThere (whole_in trees).runs month × IsAmong (dues (whole_in trees) month) charge)

-- no answered command breaks a rule of the audit
abbrev pub AnswersKeepTheRules : Type 0
AnswersKeepTheRules = (before after : Trees) (told : Command) (reply : Reply) → IsSound before → IsEntered told
    → IsAnsweredBy told reply (state_in before) (state_in after) → AreKeyed (whole_in after) × IsLawful (whole_in after) batch_size

-- where the machine stands with the tables
abbrev pub StandAlike : Trees → Trees → Type 0
StandAlike before after = state_of batch_size (tables_in after) ≡ state_of batch_size (tables_in before)

-- sound tables with which it stands alike are the same, row for row; while a run is open too
abbrev pub StandingDeterminesTheTables : Type 0
StandingDeterminesTheTables = (before after : Trees) → IsSound before → IsSound after → StandAlike before after → state_in after ≡ state_in before

-- so are those before and after a command that was refused, or that was carried out before
abbrev pub NothingNewLeavesTheTables : Type 0
NothingNewLeavesTheTables = (before after : Trees) (told : Command) (reply : Reply) → IsSound before → IsSound after
    → IsAnsweredBy told reply (state_in before) (state_in after) → is_of_nothing_new reply ≡ true → state_in after ≡ state_in before

-- a receipt or a run that was accepted while no run was open, and is sent again next, is told the same, and no row moves
abbrev pub SentAgainGetsTheSameReply : Type 0
SentAgainGetsTheSameReply = (before after again : Trees) (told : Reply) → IsSound before → (state_in before).open_run ≡ None
    → ((order : ReceiptOrder) (number : ℕ) → IsAnsweredBy (command.Receipt order) (reply.Receipt number) (state_in before) (state_in after)
    → IsAnsweredBy (command.Receipt order) told (state_in after) (state_in again) → (told ≡ reply.AlreadyReceipt number) × (state_in again ≡ state_in after))
    × ((order : RunOrder) (sum : RunSum) → IsAnsweredBy (command.Run order) (reply.Posted sum) (state_in before) (state_in after)
    → IsAnsweredBy (command.Run order) told (state_in after) (state_in again) → (told ≡ reply.AlreadyPosted sum) × (state_in again ≡ state_in after))
