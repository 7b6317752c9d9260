-- What one record is answered, from what the agency's call and the writing of its line give.
use Rattle.std.proofs.Common.{◌≡◌, ◌∙◌, inl, inr, ℕ, Bool, true, false, Option, List, Result, Ok, Err, refl, sym, ap, subst}
use Rattle.std.specs.Prelude.{IfErr, IsErrAnd, OnErr}
use Rattle.std.proofs.lemmas.Bool.{false≢true}
use Rattle.std.specs.Io.KnownBytes.{Appends}
use Rattle.sqlite.specs.Store.{Ghosts}
use Rattle.dh_types.specs.Output.{BreaksOff, Puts}
use Rattle.dh_types.specs.declared.output.Output as writing
use Rattle.dh_types.specs.declared.reply.Fault.{Fault}
use Rattle.dh_types.specs.declared.reply.Fault.TheVariants as faults
use Rattle.dh_types.specs.declared.reply.Refusal.{Refusal}
use Rattle.dh_model.specs.Books.{State}
use Rattle.dh_agency.specs.Faults.{IsFirstFault}
use Rattle.dh_agency.specs.AgencyView.{AgencyView}
use Rattle.dh_agency.specs.Agency.{IsOpen, machine, stand}
use Rattle.dh_agency.specs.Requests.{Said, said_to, says_no}
use Rattle.dh_types.specs.declared.request.Request.{Request}
use Rattle.dh_fields.specs.Lines.{Fields, request_of}
use Rattle.dh_fields.specs.Readings.{WantsText}
use Rattle.dh_lines.specs.declared.outcome.Halt.{Halt}
use Rattle.dh_lines.specs.declared.outcome.Halt.TheVariants as halt
use Rattle.dh_lines.specs.Session.{Answered, answered, answered_as, fault_line, numbered, said_text}
use Rattle.dh_lines.specs.Batch.{Answers, EndsByFault, IsAgencyFault, IsFirst, IsStoreFault, OnlyOfRequests, batch_fault}

-- a fault that was told
pub fault_first : (a b : Option (List ℕ)) (n : ℕ) (fault : Fault) (h : Halt) → EndsByFault a b n fault h → IsFirstFault fault → IsFirst (batch_fault h)
fault_first a b n fault (halt.Fault found outcome) told first = subst IsFirstFault (sym told.0) first
fault_first a b n fault (halt.Unread cause outcome) told first = absurd told
fault_first a b n fault (halt.Input cause) told first = absurd told
fault_first a b n fault (halt.Output failed) told first = absurd told

pub fault_halts : (a b : Option (List ℕ)) (n : ℕ) (fault : Fault) (h : Halt) → EndsByFault a b n fault h → IsAgencyFault (batch_fault h)
fault_halts a b n fault (halt.Fault found outcome) told = tt
fault_halts a b n fault (halt.Unread cause outcome) told = absurd told
fault_halts a b n fault (halt.Input cause) told = absurd told
fault_halts a b n fault (halt.Output failed) told = absurd told

-- an agency that stopped does not go on
pub not_on : {P : Type 0} {is_stopped : Bool} → is_stopped ≡ true → is_stopped ≡ false → P
not_on stopped on = absurd (false≢true (sym on ∙ stopped))

-- want of memory is no fault of the store
pub no_store_fault : (a b : Option (List ℕ)) (n : ℕ) (h : Halt) → EndsByFault a b n faults.Memory h → ¬ IsStoreFault (batch_fault h)
no_store_fault a b n (halt.Fault found outcome) told is = cc (told.0)
no_store_fault a b n (halt.Unread cause outcome) told is = is
no_store_fault a b n (halt.Input cause) told is = is
no_store_fault a b n (halt.Output failed) told is = is

-- memory may run out for a text
pub memory_of_text : (fields : Fields) (a b : Option (List ℕ)) (n : ℕ) (h : Halt) → EndsByFault a b n faults.Memory h → WantsText fields
    → OnlyOfRequests fields h
memory_of_text fields a b n (halt.Fault found outcome) told wants = inr (told.0, (fields, refl, wants))
memory_of_text fields a b n (halt.Unread cause outcome) told wants = tt
memory_of_text fields a b n (halt.Input cause) told wants = tt
memory_of_text fields a b n (halt.Output failed) told wants = tt

-- of fields that ask something any fault may come
pub of_request : (B : Type 0) (fields : Fields) (request : Result Request Refusal) (h : Halt) → request ≡ request_of fields → OnErr request ((false ≡ true) × B)
    → OnlyOfRequests fields h
of_request B fields (Ok it) (halt.Fault fault outcome) asked bad = inl (fields, it, refl, sym asked)
of_request B fields (Ok it) (halt.Unread cause outcome) asked bad = tt
of_request B fields (Ok it) (halt.Input cause) asked bad = tt
of_request B fields (Ok it) (halt.Output failed) asked bad = tt
of_request B fields (Err why) h asked bad = absurd (false≢true bad.0)

-- a writer that failed is no fault
pub of_output : (fields : Fields) (failed : writing.Output) (r : Result Bool Halt) → IsErrAnd r (λ y. y ≡ halt.Output failed) → IfErr r (OnlyOfRequests fields)
of_output fields failed (Ok value) is = tt
of_output fields failed (Err e) is = subst (OnlyOfRequests fields) (sym is) tt

module _ {S : Type 0} (g : Ghosts S) (old new : AgencyView S) (a b : Option (List ℕ)) (n : ℕ) where
  pub answers_fault : (it : Answered) (P : State → Type 0) (fault : Fault) (h : Halt) → EndsByFault a b n fault h → (IsOpen g new → P (machine g new))
      → (new.is_stopped ≡ false → machine g new ≡ machine g old)
      → Answers g old new a b n it P (Err h)
  answers_fault it P fault (halt.Fault found outcome) told reads undone =
      (subst (λ f. Puts a b outcome (fault_line n f)) (sym told.0) told.1, reads, undone)
  answers_fault it P fault (halt.Unread cause outcome) told reads undone = absurd told
  answers_fault it P fault (halt.Input cause) told reads undone = absurd told
  answers_fault it P fault (halt.Output failed) told reads undone = absurd told

  -- the writer failed in the line
  pub answers_part : (it : Answered) (P : State → Type 0) (failed : writing.Output) (r : Result Bool Halt)
      → IsErrAnd r (λ y. y ≡ halt.Output failed) → BreaksOff a b (numbered n it.text)
      → stand g new ≡ it.state → Answers g old new a b n it P r
  answers_part it P failed (Ok value) is broken state = absurd is
  answers_part it P failed (Err e) is broken state = subst (λ z. Answers g old new a b n it P (Err z)) (sym is) (broken, state)

  -- what was said to the request that the fields are
  module _ (P : State → Type 0) (fields : Fields) (request : Result Request Refusal) (asked : request ≡ request_of fields) (said : Said)
      (is : said_to (stand g old) request ≡ (stand g new, said)) where
    so_answered : (r : Result Bool Halt) → Answers g old new a b n (answered_as (stand g new) said) P r
        → Answers g old new a b n (answered (stand g old) fields) P r
    so_answered r h =
        subst (λ (z : State × Said). Answers g old new a b n (answered_as z.0 z.1) P r) (sym is ∙ ap (said_to (stand g old)) asked) h

    pub said_whole : Appends a b (numbered n (said_text said)) → (is_refused : Bool) → is_refused ≡ says_no said
        → Answers g old new a b n (answered (stand g old) fields) P (Ok is_refused)
    said_whole put is_refused same = so_answered (Ok is_refused) (put, refl, same)

    pub said_part : (failed : writing.Output) (r : Result Bool Halt) → IsErrAnd r (λ y. y ≡ halt.Output failed)
        → BreaksOff a b (numbered n (said_text said)) → Answers g old new a b n (answered (stand g old) fields) P r
    said_part failed r broke put = so_answered r (answers_part (answered_as (stand g new) said) P failed r broke put refl)
