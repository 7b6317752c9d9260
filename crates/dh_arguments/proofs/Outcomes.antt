-- What `job` answers, by what `clap` answered.
use Rattle.std.proofs.Common.{◌≡◌, ◌∙◌, true, List, [], Some, None, Result, Ok, Err, IfErr, IfOk, codes, inl, inr, sym, ap, subst}
use Rattle.clap.specs.Kinds.{HasKind, IsAmong}
use Rattle.clap.specs.Words.{App, Row, Text, fault_of, first_of, is_simple_and_free, kind_of, subcommand_of}
use Rattle.clap.specs.declared.error.Error.{Error}
use Rattle.dh_arguments.proofs.Complete.{simple_and_free}
use Rattle.dh_arguments.specs.Jobs.{HandsOn, IsAnswer, IsBadFor, IsJobOf, IsParsedAs, IsReport, question_fields}
use Rattle.dh_arguments.specs.Options.{first_bad}
use Rattle.dh_arguments.specs.Table.{letting}
use Rattle.dh_arguments.specs.TypedWords.{joined}
use Rattle.dh_arguments.specs.declared.jobs.BadWords.{BadWords}
use Rattle.dh_arguments.specs.declared.jobs.BadWords.TheVariants.{Refused, Value, Question, Memory}
use Rattle.dh_arguments.specs.declared.jobs.Job.{Job}
use Rattle.dh_arguments.specs.declared.jobs.Job.TheVariants.{Init, Batch, Run, Recover, Migrate, Report, Serve}

told : (words : List Text) (error : Error) (bad : BadWords) → HasKind (fault_of letting (joined words)) error → HandsOn error bad → IsBadFor words bad
told words error (Refused same) (inl none) h = absurd (h.1 none)
told words error (Refused same) (inr kind) h = subst (λ e. IsAmong (kind_of e) (fault_of letting (joined words))) (sym h.0) kind
told words error (Value option) kind h = absurd h
told words error (Question refusal) kind h = absurd h
told words error Memory kind h = tt

-- an error of `clap`
pub refused_so : (a : App) (typed words : List Text) (error : Error) (bad : BadWords) → joined typed ≡ words → a ≡ letting
    → (is_simple_and_free a ≡ true → HasKind (fault_of a words) error) → HandsOn error bad → IsBadFor typed bad
refused_so a typed words error bad is e h =
    let kind : HasKind (fault_of letting words) error = subst (λ x. HasKind (fault_of x words) error) e (h (ap is_simple_and_free e ∙ simple_and_free)) in
    told typed error bad (subst (λ w. HasKind (fault_of letting w) error) (sym is) kind)

-- words that are taken
pub taken_as : (typed words : List Text) (sub : Text × List Row) → joined typed ≡ words → fault_of letting words ≡ [] → subcommand_of letting words ≡ Some sub
    → IsParsedAs typed sub
taken_as typed words sub is none found = (ap (fault_of letting) is ∙ none, ap (subcommand_of letting) is ∙ found)

-- a subcommand
module _ (words : List Text) (name : Text) (rows : List Row) (taken : IsParsedAs words (name, rows)) where
  pub answered : (r : Result Job BadWords) → IsAnswer name rows r → IfOk r (IsJobOf words)
  answered (Ok job) h = ((name, rows), taken, h.0, h.1)
  answered (Err bad) h = tt

  pub answered_badly : (r : Result Job BadWords) → IsAnswer name rows r → IfErr r (IsBadFor words)
  answered_badly (Ok job) h = tt
  answered_badly (Err (Refused error)) h = absurd h
  answered_badly (Err (Value option)) h = ((name, rows), taken, h)
  answered_badly (Err (Question refusal)) h = ((name, rows), taken, h.0, h.1, h.2)
  answered_badly (Err Memory) h = tt

-- `report`
module _ (name file : Text) (rows : List Row) (is : name ≡ codes "report") (well : first_bad rows ≡ None)
    (given : first_of (codes "file") rows ≡ Some file) where
  pub reported : (r : Result Job BadWords) → IsReport file (question_fields rows) r → IsAnswer name rows r
  reported (Ok (Report at question)) h = (well, (is, given ∙ ap (λ text. Some text) (sym h.0), h.1))
  reported (Ok (Init at first)) h = absurd h
  reported (Ok (Batch at first)) h = absurd h
  reported (Ok (Run at order batches)) h = absurd h
  reported (Ok (Recover at)) h = absurd h
  reported (Ok (Migrate at)) h = absurd h
  reported (Ok (Serve at port count)) h = absurd h
  reported (Err (Question refusal)) h = (well, is, h)
  reported (Err (Refused error)) h = absurd h
  reported (Err (Value option)) h = absurd h
  reported (Err Memory) h = (well, is)
