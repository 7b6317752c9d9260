-- What a clause sees of the facts on which a command is decided, and what an open run puts off.
use Rattle.std.specs.Prelude.{ℕ, if◌then◌else◌, Option, None, option_map}
use Rattle.dh_types.specs.declared.command.Command.{Command}
use Rattle.dh_types.specs.declared.reply.Refusal.{Refusal}
use Rattle.dh_types.specs.declared.reply.Refusal.TheVariants as refusal
use Rattle.dh_model.specs.declared.open_run.OpenRun.{OpenRun}
use Rattle.dh_model.specs.MachineLaws.{is_frozen}
use Rattle.dh_laws.specs.Looks as looks
use Rattle.dh_answers.specs.declared.decision.Facts.{Facts}

-- an open run of this month; how far it is has no say in a verdict
abbrev pub run_of : Option ℕ → Option OpenRun
run_of open_month = option_map (λ (month : ℕ). record { month = month; done = 0 }) open_month

abbrev pub facts_of : Facts → looks.Facts
facts_of facts = record { books = facts.books.books; receipts = facts.receipts; open_run = run_of facts.open_month }

-- the refusal of a command that the open run of this month puts off
abbrev pub put_off_by : Option ℕ → Command → Option Refusal
put_off_by open_month told = if is_frozen told then option_map refusal.RunOpen open_month else None
