-- From words to how the program ends.
use Rattle.std.proofs.Common.{◌≡◌, ◌≢◌, ◌∙◌, inr, ℕ, Option, Some, None, List, [], ◌∷◌, refl, sym, ap, subst, arith}
use Rattle.std.specs.Prelude.{codes, option_map, slice_index}
use Rattle.std.specs.Borrow.{Bor}
use Rattle.sqlite_disk.specs.declared.Disk as disk
use Rattle.sqlite_wal.specs.Recovery.{Image}
use Rattle.clap.specs.Faults.{defaults_fault, walk_fault}
use Rattle.clap.specs.Kinds.{IsAmong}
use Rattle.clap.specs.declared.error.kind.ErrorKind.{ErrorKind}
use Rattle.clap.specs.Values.{kind_of}
use Rattle.clap.specs.Walk.{walked}
use Rattle.clap.specs.Words.{Row, Text, fault_of, subcommand_of}
use Rattle.dh_types.specs.declared.reply.Fault.TheVariants as fault
use Rattle.dh_arguments.specs.Table.{letting}
use Rattle.dh_arguments.specs.Options.{first_bad}
use Rattle.dh_arguments.specs.Jobs.{Asks, IsBadFor, IsJobOf, usual_first}
use Rattle.dh_arguments.specs.declared.jobs.BadWords.{BadWords}
use Rattle.dh_arguments.specs.declared.jobs.BadWords.TheVariants as bad
use Rattle.dh_arguments.specs.declared.jobs.Job.{Job}
use Rattle.dh_arguments.specs.declared.jobs.Job.TheVariants.{Init, Batch, Run, Recover, Migrate, Report, Serve}
use Rattle.dh_jobs.specs.declared.status.Status.{Status}
use Rattle.dh_jobs.specs.Desk.{AskedEnds, BadPrints, BatchEnds}
use Rattle.dh_jobs.specs.Ends.{MemoryLinesEnd}
use Rattle.dh_jobs.proofs.TextLemmas.{fault_told}

-- ---- the word `batch` alone

batch_found : subcommand_of letting (codes "batch" ∷ []) ≡ Some (codes "batch", [])
unfolding letting walked
batch_found = refl

batch_taken : fault_of letting (codes "batch" ∷ []) ≡ []
unfolding letting walked walk_fault defaults_fault
batch_taken = refl

none_among : (x : ErrorKind) (xs : List ErrorKind) → xs ≡ [] → IsAmong x xs → ⊥
none_among x xs none among = subst (IsAmong x) none among

-- two texts that begin otherwise
other_text : {A : Type 0} (a b : Text) → slice_index a 0 ≢ slice_index b 0 → a ≡ b → A
other_text a b other is = absurd (other (ap (λ t. slice_index t 0) is))

module _ (a b input : Option (List ℕ)) (it : Status) where
  module _ {D : Type 0} (g : disk.Ghosts D) (held : Image) where
    batch_job : (asked : Job) → Asks (codes "batch") [] asked → AskedEnds g held asked input a b it → MemoryLinesEnd a b usual_first input it
    batch_job (Init file first) asks ends = other_text (codes "batch") (codes "init") (λ is. omega (arith, is)) asks.0
    batch_job (Run file order batches) asks ends = other_text (codes "batch") (codes "run") (λ is. omega (arith, is)) asks.0
    batch_job (Recover file) asks ends = other_text (codes "batch") (codes "recover") (λ is. omega (arith, is)) asks.0
    batch_job (Migrate file) asks ends = other_text (codes "batch") (codes "migrate") (λ is. omega (arith, is)) asks.0
    batch_job (Report file question) asks ends = other_text (codes "batch") (codes "report") (λ is. omega (arith, is)) asks.0
    batch_job (Serve file port count) asks ends = other_text (codes "batch") (codes "serve") (λ is. omega (arith, is)) asks.0
    batch_job (Batch file first) asks ends = by file asks.1 ends
      where
        by : (file : Option (Bor Text)) → None ≡ option_map (λ text. text.now) file → BatchEnds g held file first input a b it
            → MemoryLinesEnd a b usual_first input it
        by None none ends = subst (λ m. MemoryLinesEnd a b m input it) (asks.2) ends.1
        by (Some path) none ends = cc

    batch_asked : (asked : Job) → IsJobOf (codes "batch" ∷ []) asked → AskedEnds g held asked input a b it → MemoryLinesEnd a b usual_first input it
    batch_asked asked is ends =
        let same : Some (codes "batch", []) ≡ Some is.0 = sym batch_found ∙ is.1.1 in
        let here : (codes "batch", []) ≡ is.0 = cc in
        batch_job asked (subst (λ (sub : Text × List Row). Asks sub.0 sub.1 asked) (sym here) is.3) ends

    pub asked_ends : (words : List Text) → words ≡ codes "batch" ∷ [] → (asked : Job) → IsJobOf words asked → AskedEnds g held asked input a b it
        → MemoryLinesEnd a b usual_first input it
    asked_ends words is asked job ends = batch_asked asked (subst (λ w. IsJobOf w asked) is job) ends

  batch_bad : (why : BadWords) → IsBadFor (codes "batch" ∷ []) why → BadPrints why a b it → MemoryLinesEnd a b usual_first input it
  batch_bad (bad.Refused error) why said = absurd (none_among (kind_of error) _ batch_taken why)
  batch_bad (bad.Value option) why said =
      let same : Some (codes "batch", []) ≡ Some why.0 = sym batch_found ∙ why.1.1 in
      let here : (codes "batch", []) ≡ why.0 = cc in
      let none : None ≡ Some option.now = subst (λ (sub : Text × List Row). first_bad sub.1 ≡ Some option.now) (sym here) why.2 in
      cc
  batch_bad (bad.Question refusal) why said =
      let same : Some (codes "batch", []) ≡ Some why.0 = sym batch_found ∙ why.1.1 in
      let here : (codes "batch", []) ≡ why.0 = cc in
      other_text (codes "batch") (codes "report") (λ is. omega (arith, is)) (ap (λ (sub : Text × List Row). sub.0) here ∙ why.3)
  batch_bad bad.Memory why said = inr (fault_told a b fault.Memory it tt said)

  pub bad_ends : (words : List Text) → words ≡ codes "batch" ∷ [] → (why : BadWords) → IsBadFor words why → BadPrints why a b it
      → MemoryLinesEnd a b usual_first input it
  bad_ends words is why bad said = batch_bad why (subst (λ w. IsBadFor w why) is bad) said
