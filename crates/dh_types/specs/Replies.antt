-- The texts of replies, refusals and faults.
use Rattle.std.specs.Prelude.{ℕ, Bool, true, false, List, [], ◌∷◌, ◌++◌, codes}
use Rattle.std.specs.Fmt.{decimal, signed_decimal}
use Rattle.dh_values.specs.Money.{pence_text}
use Rattle.dh_days.specs.Months.{month_text}
use Rattle.dh_types.specs.declared.run.RunSum.{RunSum}
use Rattle.dh_types.specs.declared.reply.Progress.{Progress}
use Rattle.dh_types.specs.declared.reply.Reply.{Reply}
use Rattle.dh_types.specs.declared.reply.Reply.TheVariants as reply
use Rattle.dh_types.specs.declared.reply.Refusal.{Refusal}
use Rattle.dh_types.specs.declared.reply.Refusal.TheVariants as refusal
use Rattle.dh_types.specs.declared.reply.Fault.{Fault}
use Rattle.dh_types.specs.declared.reply.Fault.TheVariants as fault
use Rattle.dh_types.specs.declared.words.Words.{Words}
use Rattle.dh_types.specs.declared.words.Value.{Value}
use Rattle.dh_types.specs.declared.words.Value.TheVariants as value

abbrev pub refusal_number : Refusal → ℕ
refusal_number refusal.Taken = 1
refusal_number (refusal.Unknown field) = 2
refusal_number refusal.WrongBranch = 3
refusal_number refusal.TooMany = 4
refusal_number (refusal.Overlap lease) = 5
refusal_number (refusal.ClientStart lease) = 6
refusal_number (refusal.MonthPosted next) = 7
refusal_number (refusal.NotNextMonth next) = 8
refusal_number refusal.KeyUsed = 9
refusal_number (refusal.RunOpen month) = 10
refusal_number (refusal.DepositAmount expected) = 11
refusal_number refusal.DepositPaid = 12
refusal_number refusal.NotRegistered = 13
refusal_number refusal.NoRun = 14
refusal_number (refusal.BadLine field) = 15
refusal_number (refusal.Version found) = 16
refusal_number (refusal.Damaged rule) = 17
refusal_number refusal.Full = 18
refusal_number (refusal.NotShorter length) = 19

-- a refusal by its number, and the value that it carries
abbrev pub refusal_text : Refusal → List ℕ
refusal_text refusal.Taken = codes "refused 1"
refusal_text (refusal.Unknown field) = codes "refused 2 " ++ decimal field
refusal_text refusal.WrongBranch = codes "refused 3"
refusal_text refusal.TooMany = codes "refused 4"
refusal_text (refusal.Overlap lease) = codes "refused 5 " ++ decimal lease
refusal_text (refusal.ClientStart lease) = codes "refused 6 " ++ decimal lease
refusal_text (refusal.MonthPosted next) = codes "refused 7 " ++ month_text next
refusal_text (refusal.NotNextMonth next) = codes "refused 8 " ++ month_text next
refusal_text refusal.KeyUsed = codes "refused 9"
refusal_text (refusal.RunOpen month) = codes "refused 10 " ++ month_text month
refusal_text (refusal.DepositAmount expected) = codes "refused 11 " ++ pence_text expected
refusal_text refusal.DepositPaid = codes "refused 12"
refusal_text refusal.NotRegistered = codes "refused 13"
refusal_text refusal.NoRun = codes "refused 14"
refusal_text (refusal.BadLine field) = codes "bad field " ++ decimal field
refusal_text (refusal.Version found) = codes "refused 16 " ++ signed_decimal found
refusal_text (refusal.Damaged rule) = codes "refused 17 " ++ decimal rule
refusal_text refusal.Full = codes "refused 18"
refusal_text (refusal.NotShorter length) = codes "refused 19 " ++ decimal length

-- the month of a run, its count and its total
abbrev pub sum_text : RunSum → List ℕ
sum_text sum = month_text sum.month ++ 32 ∷ decimal sum.count ++ 32 ∷ pence_text sum.total

abbrev pub posted_text : RunSum → List ℕ
posted_text sum = codes "posted " ++ sum_text sum

-- the month of a run, and how many of how many batches are done
abbrev pub progress_text : Progress → List ℕ
progress_text run = month_text run.month ++ 32 ∷ decimal run.done ++ codes " of " ++ decimal run.of

abbrev pub reply_text : Reply → List ℕ
reply_text reply.Accepted = codes "ok"
reply_text reply.Already = codes "already"
reply_text (reply.Receipt number) = codes "receipt " ++ decimal number
reply_text (reply.AlreadyReceipt number) = codes "already receipt " ++ decimal number
reply_text (reply.Opened month) = codes "opened " ++ month_text month
reply_text (reply.Progress run) = codes "part " ++ progress_text run
reply_text (reply.Posted sum) = posted_text sum
reply_text (reply.AlreadyPosted sum) = codes "already " ++ posted_text sum
reply_text (reply.Refused why) = refusal_text why

abbrev pub fault_text : Fault → List ℕ
fault_text fault.Memory = codes "fault 21"
fault_text fault.Store = codes "fault 22"
fault_text fault.Stopped = codes "fault 23"

abbrev pub is_refusal : Reply → Bool
is_refusal (reply.Refused why) = true
is_refusal _ = false

-- a value behind words
abbrev pub value_text : Value → List ℕ
value_text value.Nothing = []
value_text (value.Number number) = decimal number
value_text (value.Signed number) = signed_decimal number
value_text (value.Month month) = month_text month
value_text (value.Money money) = pence_text money
value_text (value.Progress run) = progress_text run
value_text (value.Sum sum) = sum_text sum

-- words, and the value behind them
abbrev pub words_text : Words → List ℕ
words_text words = words.lead.now ++ value_text words.value
