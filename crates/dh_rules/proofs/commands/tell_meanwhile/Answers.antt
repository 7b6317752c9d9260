use Rattle.std.proofs.Common.{◌≡◌, ◌∙◌, ap, sym, Option, Some, None, arith}
use Rattle.std.specs.Option.{IsSome}
use Rattle.dh_types.specs.declared.command.Command.{Command}
use Rattle.dh_types.specs.declared.reply.Refusal.{Refusal}
use Rattle.dh_types.specs.declared.reply.Reply.TheVariants as reply
use Rattle.dh_model.specs.declared.open_run.OpenRun.{OpenRun}
use Rattle.dh_model.specs.declared.rows.Verdict.TheVariants as verdict
use Rattle.dh_model.specs.Books.{Books}
use Rattle.dh_model.specs.Machine.{settled}
use Rattle.dh_model.specs.Runs.{batch_size}
use Rattle.dh_model.specs.Verdicts.{verdict_on}
use Rattle.dh_laws.specs.Events.{state_of}
use Rattle.dh_laws.specs.InOrder.{IsInOrder}
use Rattle.dh_laws.specs.StateTables.{as_tables}
use Rattle.dh_laws.specs.Telling.{IsTold}
use Rattle.dh_laws.proofs.CommandLemmas.Meanwhile.{judged_whole, rows_told}
use Rattle.dh_rules.proofs.commands.tell_meanwhile.Goals as goal

pub returns-in_ok-apply_change-in-Change : goal.returns-in_ok-apply_change-in-Change
returns-in_ok-apply_change-in-Change c = λ in_order.
    rows_told batch_size c.args.before c.apply_change.new.books c.args.command.now c.in-Change.rows c.reply-reply.result
    (omega arith) c.requires.run c.requires.command
    in_order c.commands_are_entered.ensures (sym c.in_ok-verdict.ensures ∙ c.in-Change.is) c.in_ok-apply_change-in-Change.ensures c.reply-reply.ensures

-- what the books refuse, the whole books refuse too
refused : (books : Books) (run : Option OpenRun) (told : Command) (why : Refusal) → IsSome run → IsInOrder batch_size books run
    → verdict_on books run told ≡ verdict.Refused why
    → IsTold batch_size told (reply.Refused why) (record { books = books; open_run = run }) (record { books = books; open_run = run })
refused books None told why some in_order h = absurd (cc)
refused books (Some run) told why some in_order h =
    let s = state_of batch_size (as_tables (record { books = books; open_run = Some run })) in
    (ap (settled batch_size s told) (judged_whole batch_size books run (omega arith) in_order told ∙ h), in_order)

pub returns-in-Refused : goal.returns-in-Refused
returns-in-Refused c = λ in_order.
    refused c.args.before.books c.args.before.open_run c.args.command.now c.in-Refused.why c.requires.run in_order
    (sym c.in_ok-verdict.ensures ∙ c.in-Refused.is)
