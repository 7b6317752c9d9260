-- Which job the words behind `letting` ask for, as they are typed.
use Rattle.std.specs.Prelude.{◌≡◌, ◌≢◌, ◌||◌, ℕ, Bool, false, not, List, [], ◌∷◌, Some, None, is_some, option_map, unwrap_or, Result, Ok, Err}
use Rattle.std.specs.Prelude.{find, codes, bytes_eq, ⊤}
use Rattle.std.specs.List.{list_all}
use Rattle.std.specs.Option.{option_map_or}
use Rattle.clap.specs.Kinds.{IsAmong}
use Rattle.clap.specs.Words.{Row, Rule, Text, all_of, fault_of, first_of, kind_of, subcommand_of}
use Rattle.clap.specs.declared.error.Error.{Error}
use Rattle.clap.specs.declared.error.kind.ErrorKind.TheVariants.{OutOfMemory}
use Rattle.dh_values.specs.Counts.{batch_count_of}
use Rattle.dh_days.specs.Months.{month_of}
use Rattle.dh_fields.specs.Lines.{request_of}
use Rattle.dh_types.specs.declared.request.Request.TheVariants as request
use Rattle.dh_arguments.specs.Options.{first_bad, key_of, port_of, value}
use Rattle.dh_arguments.specs.Table.{letting}
use Rattle.dh_arguments.specs.TypedWords.{joined, texts_of}
use Rattle.dh_arguments.specs.declared.words.TheConstants.{DEFAULT_MONTH}
use Rattle.dh_arguments.specs.declared.jobs.BadWords.{BadWords}
use Rattle.dh_arguments.specs.declared.jobs.BadWords.TheVariants as bad
use Rattle.dh_arguments.specs.declared.jobs.Job.{Job}
use Rattle.dh_arguments.specs.declared.typed_words.Words.{Words}
use Rattle.dh_arguments.specs.declared.jobs.Job.TheVariants.{Init, Batch, Run, Recover, Migrate, Report, Serve}

-- `clap` takes the words, joined, which name this subcommand and give its options and free words these rows
abbrev pub IsParsedAs : List Text → Text × List Row → Type 0
IsParsedAs words sub = (fault_of letting (joined words) ≡ []) × (subcommand_of letting (joined words) ≡ Some sub)

-- 2025-01, where none is given
abbrev pub usual_first : ℕ
usual_first = DEFAULT_MONTH

-- the fields of the line that asks with the free words
abbrev pub question_fields : List Row → List Text
question_fields rows = codes "show" ∷ unwrap_or (all_of (codes "word") rows) []

-- the subcommand of this name asks for the job with the values of these rows
abbrev pub Asks : Text → List Row → Job → Type 0
Asks name rows (Init file first) = (name ≡ codes "init") × (first_of (codes "file") rows ≡ Some file.now) × (value month_of (codes "first") rows ≡ Some first)
Asks name rows (Batch file first) = (name ≡ codes "batch") × (first_of (codes "file") rows ≡ option_map (λ text. text.now) file)
    × (first ≡ unwrap_or (value month_of (codes "first") rows) usual_first)
Asks name rows (Run file order batches) = (name ≡ codes "run") × (first_of (codes "file") rows ≡ Some file.now)
    × (value key_of (codes "key") rows ≡ Some order.key) × (value month_of (codes "month") rows ≡ Some order.month)
    × (batches ≡ value batch_count_of (codes "batches") rows)
Asks name rows (Recover file) = (name ≡ codes "recover") × (first_of (codes "file") rows ≡ Some file.now)
Asks name rows (Migrate file) = (name ≡ codes "migrate") × (first_of (codes "file") rows ≡ Some file.now)
Asks name rows (Report file question) = (name ≡ codes "report") × (first_of (codes "file") rows ≡ Some file.now)
    × (request_of (question_fields rows) ≡ Ok (request.Question question))
Asks name rows (Serve file port count) = (name ≡ codes "serve") × (first_of (codes "file") rows ≡ Some file.now)
    × (value port_of (codes "port") rows ≡ Some port) × (value batch_count_of (codes "count") rows ≡ Some count)

-- the words are taken, each option's text has a value, and these values ask for the job
abbrev pub IsJobOf : List Text → Job → Type 0
IsJobOf words job = (sub : Text × List Row) × IsParsedAs words sub × (first_bad sub.1 ≡ None) × Asks sub.0 sub.1 job

-- Why the words ask for no job. `clap` may want memory at any words.
abbrev pub IsBadFor : List Text → BadWords → Type 0
IsBadFor words (bad.Refused error) = IsAmong (kind_of error) (fault_of letting (joined words))
IsBadFor words (bad.Value option) = (sub : Text × List Row) × IsParsedAs words sub × (first_bad sub.1 ≡ Some option.now)
IsBadFor words (bad.Question refusal) = (sub : Text × List Row) × IsParsedAs words sub × (first_bad sub.1 ≡ None) × (sub.0 ≡ codes "report")
    × (request_of (question_fields sub.1) ≡ Err refusal)
IsBadFor words bad.Memory = ⊤

-- the words that were typed go to `clap` as these
abbrev pub IsTyped : List Text → Words → Type 0
IsTyped typed words = joined typed ≡ texts_of words

-- ---- the steps to it

-- the option is not required, or has a text
abbrev pub is_there : List Row → Rule → Bool
is_there rows rule = not rule.required || is_some (first_of rule.id rows)

-- there is such a subcommand, and all that it requires is there
unfoldable pub is_complete : Text → List Row → Bool
is_complete name rows = option_map_or (λ s. list_all (is_there rows) s.rules) (find (λ s. bytes_eq s.name name) letting.subs) false

-- what the question with these fields, asked of this file, comes to
abbrev pub IsReport : Text → List Text → Result Job BadWords → Type 0
IsReport name fields (Ok (Report file question)) = (file.now ≡ name) × (request_of fields ≡ Ok (request.Question question))
IsReport name fields (Ok _) = ⊥
IsReport name fields (Err (bad.Question refusal)) = request_of fields ≡ Err refusal
IsReport name fields (Err bad.Memory) = ⊤
IsReport name fields (Err _) = ⊥

-- What the subcommand of this name comes to with these rows. Memory is wanted for a question alone, and behind options that are all read.
abbrev pub IsAnswer : Text → List Row → Result Job BadWords → Type 0
IsAnswer name rows (Ok job) = (first_bad rows ≡ None) × Asks name rows job
IsAnswer name rows (Err (bad.Refused error)) = ⊥
IsAnswer name rows (Err (bad.Value option)) = first_bad rows ≡ Some option.now
IsAnswer name rows (Err (bad.Question refusal)) = (first_bad rows ≡ None) × (name ≡ codes "report") × (request_of (question_fields rows) ≡ Err refusal)
IsAnswer name rows (Err bad.Memory) = (first_bad rows ≡ None) × (name ≡ codes "report")

-- an error of `clap` is told as it is, but for want of memory
abbrev pub HandsOn : Error → BadWords → Type 0
HandsOn error (bad.Refused same) = (same ≡ error) × (kind_of error ≢ OutOfMemory)
HandsOn error (bad.Value option) = ⊥
HandsOn error (bad.Question refusal) = ⊥
HandsOn error bad.Memory = kind_of error ≡ OutOfMemory
