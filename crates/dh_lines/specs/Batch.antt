-- What a batch does to the tables, and what of its lines was written.
use Rattle.std.specs.Prelude.{◌≡◌, ◌⊎◌, ◌≤◌, ◌<◌, ℕ, ◌+◌, ◌-◌, ◌^◌, Bool, true, false, List, ◌++◌, length, take, slice_get, Option, None, Some}
use Rattle.std.specs.Prelude.{IfErr, IsErrAnd, MatchResult, Result, Ok, Err, ⊤}
use Rattle.std.specs.Io.KnownBytes.{Appends}
use Rattle.csv.specs.declared.error.ErrorKind.{ErrorKind}
use Rattle.csv.specs.declared.error.ErrorKind.TheVariants as kind
use Rattle.sqlite.specs.Store.{Ghosts}
use Rattle.dh_types.specs.Output.{BreaksOff, Puts}
use Rattle.dh_types.specs.declared.command.Command as told
use Rattle.dh_types.specs.declared.reply.Fault.{Fault}
use Rattle.dh_types.specs.declared.reply.Fault.TheVariants as faults
use Rattle.dh_types.specs.declared.output.Output as writing
use Rattle.dh_model.specs.Books.{State}
use Rattle.dh_model.specs.Runs.{batch_size}
use Rattle.dh_model.specs.Verdicts.{verdict_on}
use Rattle.dh_model.specs.Whole.{whole}
use Rattle.dh_laws.specs.Events.{RunIfDone, RunIfUndone}
use Rattle.dh_agency.specs.Faults.{IsFirstFault}
use Rattle.dh_agency.specs.AgencyView.{AgencyView}
use Rattle.dh_agency.specs.Agency.{IsOpen, Leaves, LeavesItsTables, WasClean, machine, stand, stand_of}
use Rattle.dh_lines.specs.declared.records.Unread.{Unread}
use Rattle.dh_lines.specs.declared.outcome.Summary.{Summary}
use Rattle.dh_lines.specs.declared.outcome.BatchFault.{BatchFault}
use Rattle.dh_lines.specs.declared.outcome.BatchFault.TheVariants as ended
use Rattle.dh_lines.specs.declared.outcome.Halt.{Halt}
use Rattle.dh_lines.specs.declared.outcome.Halt.TheVariants as halt
use Rattle.dh_lines.specs.declared.watched_reader.Input.{Input}
use Rattle.dh_types.specs.declared.request.Request.{Request}
use Rattle.dh_types.specs.declared.request.Request.TheVariants as request
use Rattle.dh_fields.specs.Lines.{Fields, request_of}
use Rattle.dh_fields.specs.Readings.{WantsText}
use Rattle.dh_lines.specs.Session.{Answered, answered, fault_line, line, lines_from, numbered, records_of, refused_in, state_after}

-- ---- how a batch ends early

-- the same, as it is told to the caller
abbrev pub batch_fault : Halt → BatchFault
batch_fault (halt.Fault it outcome) = ended.Agency it
batch_fault (halt.Unread cause outcome) = ended.Unread cause
batch_fault (halt.Input cause) = ended.Input cause
batch_fault (halt.Output failed) = ended.Output failed

abbrev pub IsAgencyFault : BatchFault → Type 0
IsAgencyFault (ended.Agency it) = ⊤
IsAgencyFault (ended.Unread cause) = ⊥
IsAgencyFault (ended.Input cause) = ⊥
IsAgencyFault (ended.Output failed) = ⊥

-- a fault that ends the batch of an agency that had not stopped before
abbrev pub IsFirst : BatchFault → Type 0
IsFirst (ended.Agency it) = IsFirstFault it
IsFirst (ended.Unread cause) = ⊤
IsFirst (ended.Input cause) = ⊤
IsFirst (ended.Output failed) = ⊤

-- fault 22, which only the agency answers: the batch itself can want memory alone
abbrev pub IsStoreFault : BatchFault → Type 0
IsStoreFault (ended.Agency it) = it ≡ faults.Store
IsStoreFault (ended.Unread cause) = ⊥
IsStoreFault (ended.Input cause) = ⊥
IsStoreFault (ended.Output failed) = ⊥

-- this fault, whose line was written as the outcome of that says: the whole, or some of it
abbrev pub EndsByFault : Option (List ℕ) → Option (List ℕ) → ℕ → Fault → Halt → Type 0
EndsByFault a b n it (halt.Fault found outcome) = (found ≡ it) × Puts a b outcome (fault_line n it)
EndsByFault a b n it (halt.Unread cause outcome) = ⊥
EndsByFault a b n it (halt.Input cause) = ⊥
EndsByFault a b n it (halt.Output failed) = ⊥

-- record n was not read, and the line of fault 21 was written as the outcome of that says
abbrev pub EndsUnread : Option (List ℕ) → Option (List ℕ) → ℕ → Halt → Type 0
EndsUnread a b n (halt.Fault found outcome) = ⊥
EndsUnread a b n (halt.Unread cause outcome) = (cause.number ≡ n) × Puts a b outcome (fault_line n faults.Memory)
EndsUnread a b n (halt.Input cause) = ⊥
EndsUnread a b n (halt.Output failed) = ⊥

-- A reader that was noted to fail is told as that, and nothing is written. At want of memory the record was not read, and so at an error
-- of a reader that never failed. There is no other error.
abbrev pub EndsByReading : {W : Type 0} → (W → Option (List ℕ)) → W → W → ℕ → ErrorKind → Option Input → Halt → Type 0
EndsByReading held old new n (kind.Io error) (Some cause) it = (it ≡ halt.Input cause) × (new ≡ old)
EndsByReading held old new n (kind.Io error) None it = EndsUnread (held old) (held new) n it
EndsByReading held old new n kind.OutOfMemory noted it = EndsUnread (held old) (held new) n it
EndsByReading held old new n _ noted it = ⊥

-- ---- where the machine stands

-- the whole of these books is the machine's after the records
abbrev pub AreAfter : State → List Fields → State → Type 0
AreAfter start rows left = whole batch_size left.books ≡ (state_after start rows).books

-- A command was interrupted that the fields are: nothing of it is done, but that batches may be posted, or it is carried out, but
-- that an accepted run may stand at any batch.
abbrev pub IsCutAt : State → Fields → told.Command → State → Type 0
IsCutAt s fields it left =
    ((whole batch_size left.books ≡ s.books) × RunIfUndone batch_size s.books it s.open_run left.open_run)
    ⊎ ((whole batch_size left.books ≡ (answered s fields).state.books) × RunIfDone batch_size s it (verdict_on s.books s.open_run it) left.open_run)

-- Tables with which the machine still stands there, or those of an interrupted command, which the next record is.
abbrev pub IsWithin : State → Option Fields → State → Type 0
IsWithin s next left = (stand_of left ≡ s)
    ⊎ ((fields : Fields) × (it : told.Command) × (next ≡ Some fields) × (request_of fields ≡ Ok (request.Command it)) × IsCutAt s fields it left)

-- the next record asks something of the agency: it is a command or a question, and no line that is refused for a field
abbrev pub IsAsked : Option Fields → Type 0
IsAsked next = (fields : Fields) × (it : Request) × (next ≡ Some fields) × (request_of fields ≡ Ok it)

-- The next record may end a batch by this fault: it asks something of the agency, or memory ran out for a text of it.
abbrev pub IsFaultAt : Fault → Option Fields → Type 0
IsFaultAt fault next = IsAsked next ⊎ ((fault ≡ faults.Memory) × ((fields : Fields) × (next ≡ Some fields) × WantsText fields))

-- ---- one record

-- a fault is one that these fields may end a batch by
abbrev pub OnlyOfRequests : Fields → Halt → Type 0
OnlyOfRequests fields (halt.Fault fault outcome) = IsFaultAt fault (Some fields)
OnlyOfRequests fields (halt.Unread cause outcome) = ⊤
OnlyOfRequests fields (halt.Input cause) = ⊤
OnlyOfRequests fields (halt.Output failed) = ⊤

-- Record n was answered so, as far as the result says. At a fault that was told, this holds of the tables that can be read, and they are
-- as they were where the agency goes on; where the writer failed in the answer, what was asked for was done.
abbrev pub Answers : {S : Type 0} → Ghosts S → AgencyView S → AgencyView S → Option (List ℕ) → Option (List ℕ) → ℕ → Answered → (State → Type 0)
    → Result Bool Halt
    → Type 0
Answers g old new a b n it P (Ok is_refused) = Appends a b (numbered n it.text) × (stand g new ≡ it.state) × (is_refused ≡ it.is_refused)
Answers g old new a b n it P (Err (halt.Fault fault outcome)) =
    Puts a b outcome (fault_line n fault) × (IsOpen g new → P (machine g new)) × (new.is_stopped ≡ false → machine g new ≡ machine g old)
Answers g old new a b n it P (Err (halt.Unread cause outcome)) = ⊥
Answers g old new a b n it P (Err (halt.Input cause)) = ⊥
Answers g old new a b n it P (Err (halt.Output failed)) = BreaksOff a b (numbered n it.text) × (stand g new ≡ it.state)

-- How answering ends: at a fault that the agency answers it has stopped, and at any other end it is as before. An agency that had stopped stays
-- as it is.
pub record Halts {S X E : Type 0} (fault_of : E → BatchFault) (g : Ghosts S) (old new : AgencyView S) (result : Result X E) : Type 0 where
  pub cause : old.is_stopped ≡ false → IfErr result (λ it. IsFirst (fault_of it))
  pub stops : (new.is_stopped ≡ old.is_stopped) ⊎ (IsErrAnd result (λ it. IsAgencyFault (fault_of it)) × (new.is_stopped ≡ true))
  pub store : IfErr result (λ it. IsStoreFault (fault_of it) → new.is_stopped ≡ true)
  pub stopped : old.is_stopped ≡ true → new ≡ old
  pub was_clean : WasClean g old new

-- ---- all records

-- an agency that goes on, of which a crash leaves its tables alone
abbrev pub IsAtRest : {S : Type 0} → Ghosts S → AgencyView S → Type 0
IsAtRest g a = (a.is_stopped ≡ false) × LeavesItsTables g a

-- the first text whole, and the second as the outcome says
abbrev pub PutsBehind : {T E : Type 0} → Option (List ℕ) → Option (List ℕ) → List ℕ → Result T E → List ℕ → Type 0
PutsBehind a b first outcome second =
    MatchResult outcome (λ _. Appends a b (first ++ second)) (λ _. (n : ℕ) × (n < length second) × Appends a b (first ++ take n second))

module _ {S : Type 0} (g : Ghosts S) (old new : AgencyView S) where
  -- some records were answered, whatever they were
  pub record WasAnswered : Type 0 where
    pub rows : List Fields
    pub stands : stand g new ≡ state_after (stand g old) rows

  -- Some records, which nothing here ties to the input, were answered, and one more at most was being answered: a crash as the batch
  -- returns leaves tables whose whole is the machine's books after those, or after that one too.
  pub record LeavesAnswered : Type 0 where
    pub rows : List Fields
    pub within : List Fields
    pub one : length within ≤ 1
    pub left : Leaves g new (λ left. AreAfter (stand g old) rows left ⊎ AreAfter (stand g old) (rows ++ within) left)

  module _ (a b : Option (List ℕ)) where
    -- every record was answered
    pub record AnsweredAll (summary : Summary) (input : List ℕ) : Type 0 where
      pub written : Appends a b (lines_from 1 (stand g old) (records_of input))
      pub state : stand g new ≡ state_after (stand g old) (records_of input)
      pub records : summary.records ≡ length (records_of input)
      pub refused : summary.refused ≡ refused_in (stand g old) (records_of input)

    -- The first records were answered, and the fault's line was written behind their lines as the outcome says. The tables that can
    -- be read, and those that a crash leaves, are those behind these records, or the next one was interrupted. Where the agency goes on, the machine
    -- stands where these records left it: nothing of the next one was done. The next one asks something of the agency, or memory ran out for
    -- a text of it.
    pub record Faulted (fault : Fault) (outcome : Result (Unit {0}) writing.Output) (input : List ℕ) : Type 0 where
      pub count : ℕ
      pub few : count ≤ length (records_of input)
      pub asked : IsFaultAt fault (slice_get (records_of input) count)
      pub written : PutsBehind a b (lines_from 1 (stand g old) (take count (records_of input))) outcome (fault_line (count + 1) fault)
      pub state : IsOpen g new → IsWithin (state_after (stand g old) (take count (records_of input))) (slice_get (records_of input) count) (machine g new)
      pub undone : new.is_stopped ≡ false → stand g new ≡ state_after (stand g old) (take count (records_of input))
      pub left : IsAtRest g old
          → Leaves g new (IsWithin (state_after (stand g old) (take count (records_of input))) (slice_get (records_of input) count))

    -- The first records were answered, and the next one was not read: the line of fault 21 was written behind their lines as the outcome says.
    pub record NotRead (cause : Unread) (outcome : Result (Unit {0}) writing.Output) (input : List ℕ) : Type 0 where
      pub count : ℕ
      pub few : count ≤ length (records_of input)
      pub number : cause.number ≡ count + 1
      pub written : PutsBehind a b (lines_from 1 (stand g old) (take count (records_of input))) outcome (fault_line (count + 1) faults.Memory)
      pub state : stand g new ≡ state_after (stand g old) (take count (records_of input))
      pub left : IsAtRest g old → LeavesItsTables g new

    -- The first records were answered. If no reader failed, they are as many as can be counted.
    pub record AnsweredFirst (cause : Input) (input : List ℕ) : Type 0 where
      pub count : ℕ
      pub few : count ≤ length (records_of input)
      pub full : cause.is_full ≡ true → count ≡ 2 ^ 64 - 1
      pub written : Appends a b (lines_from 1 (stand g old) (take count (records_of input)))
      pub state : stand g new ≡ state_after (stand g old) (take count (records_of input))

    -- the first records were answered; the next one was carried out, and its line broke off
    pub record BrokeOff (input : List ℕ) : Type 0 where
      pub count : ℕ
      pub fields : Fields
      pub cut : ℕ
      pub here : slice_get (records_of input) count ≡ Some fields
      pub part : cut < length (line (count + 1) (state_after (stand g old) (take count (records_of input))) fields)
      pub written : Appends a b (lines_from 1 (stand g old) (take count (records_of input))
          ++ take cut (line (count + 1) (state_after (stand g old) (take count (records_of input))) fields))
      pub state : stand g new ≡ state_after (stand g old) (take (count + 1) (records_of input))

    -- what the result of a batch says, which does not tell whether the fault's line was written whole
    abbrev pub EndsSo : Result Summary BatchFault → List ℕ → Type 0
    EndsSo (Ok summary) input = AnsweredAll summary input
    EndsSo (Err (ended.Agency fault)) input = (outcome : Result (Unit {0}) writing.Output) × Faulted fault outcome input
    EndsSo (Err (ended.Unread cause)) input = (outcome : Result (Unit {0}) writing.Output) × NotRead cause outcome input
    EndsSo (Err (ended.Input cause)) input = AnsweredFirst cause input
    EndsSo (Err (ended.Output failed)) input = BrokeOff input
