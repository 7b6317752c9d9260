use Rattle.std.proofs.Common.{◌⊎◌, inl, inr, List, ℕ, Option, subst}
use Rattle.std.specs.Prelude.{MatchResult, Result, Ok, Err, string_bytes}
use Rattle.clap.specs.declared.error.kind.ErrorKind.{ErrorKind}
use Rattle.dh_jobs.specs.declared.status.Status.{Status}
use Rattle.dh_jobs.specs.Desk.{SaysMessage, SaysNoMessage}
use Rattle.dh_jobs.proofs.program.print_message.Goals as goal

-- the message is there, or there is no memory for it
said_or_not : {T E : Type 0} (bytes : T → List ℕ) (kind : ErrorKind) (text : Result T E) (a b : Option (List ℕ)) (it : Status)
    → MatchResult text (λ t. SaysMessage kind (bytes t) a b it) (λ _. SaysNoMessage kind a b it)
    → ((text : List ℕ) × SaysMessage kind text a b it) ⊎ SaysNoMessage kind a b it
said_or_not bytes kind (Ok text) a b it said = inl (bytes text, said)
said_or_not bytes kind (Err error) a b it said = inr said

pub returns : goal.returns
returns g c =
    let a = g.W.Write.contents c.args.writer.now in
    let b = g.W.Write.contents c.print_text.new.writer in
    subst (λ kind. ((text : List ℕ) × SaysMessage kind text a b c.print_text.result) ⊎ SaysNoMessage kind a b c.print_text.result) c.kind.ensures
    (said_or_not string_bytes c.kind.result c.to_string.result a b c.print_text.result c.print_text.ensures)
