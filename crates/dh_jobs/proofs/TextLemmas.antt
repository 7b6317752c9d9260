-- Texts that were printed, whole or not.
use Rattle.std.proofs.Common.{◌≡◌, inl, inr, ℕ, Option, List, [], take, Result, Ok, Err, sym, subst}
use Rattle.std.specs.Io.KnownBytes.{Appends}
use Rattle.std.proofs.KnownBytes.{Appends-trans}
use Rattle.dh_types.specs.declared.reply.Fault.{Fault}
use Rattle.dh_types.specs.declared.output.Output.{Output}
use Rattle.dh_types.specs.Output.{Puts}
use Rattle.dh_agency.specs.Faults.{IsFirstFault}
use Rattle.dh_lines.specs.Batch.{PutsBehind}
use Rattle.dh_jobs.specs.declared.status.Status.{Status}
use Rattle.dh_jobs.specs.Printed.{BreaksIn, EndsByFault, EndsBySomeFault, PutsAs, status_if_written}
use Rattle.dh_jobs.specs.Statuses.{IsFailed}
use Rattle.dh_jobs.specs.Texts.{fault_line}

pub puts_as : {T : Type 0} (r : Result T Output) (text : List ℕ) (wanted status : Status) (a b : Option (List ℕ)) → status ≡ status_if_written r wanted
    → Puts a b r text
    → PutsAs text wanted a b status
puts_as (Ok it) text wanted status a b is h = inl (is, h)
puts_as (Err output) text wanted status a b is h = inr (output, is, h)

-- a text that was written behind another, whole or not
pub put_behind : {T E : Type 0} (a m b : Option (List ℕ)) (first second : List ℕ) (outcome : Result T E) → Appends a m first → PutsBehind m b [] outcome second
    → PutsBehind a b first outcome second
put_behind a m b first second (Ok it) h put = Appends-trans a m b first second h put
put_behind a m b first second (Err e) h put = (put.0, put.1, Appends-trans a m b first (take put.0 second) h put.2)

-- a fault that was told, behind nothing, and behind a text
pub fault_told : (a b : Option (List ℕ)) (fault : Fault) (status : Status) → IsFirstFault fault → EndsByFault fault a b [] status
    → EndsBySomeFault a b [] status
fault_told a b fault status first h = record { fault = fault; first = first; told = h }

pub tells_behind : (a m b : Option (List ℕ)) (text : List ℕ) (fault : Fault) (status : Status) → Appends a m text → EndsByFault fault m b [] status
    → EndsByFault fault a b text status
tells_behind a m b text fault status h told = record {
  outcome = told.outcome;
  failed = told.failed;
  written = put_behind a m b text (fault_line fault) told.outcome h told.written;
}

pub told_behind : (a m b : Option (List ℕ)) (text : List ℕ) (status : Status) → Appends a m text → EndsBySomeFault m b [] status
    → EndsBySomeFault a b text status
told_behind a m b text status h told =
    record { fault = told.fault; first = told.first; told = tells_behind a m b text told.fault status h told.told }

-- ---- failures

pub told_failed : (a b : Option (List ℕ)) (text : List ℕ) (fault : Fault) (status : Status) → EndsByFault fault a b text status → IsFailed status
told_failed a b text fault status told = subst IsFailed (sym told.failed) tt

pub broken_failed : (text : List ℕ) (a b : Option (List ℕ)) (status : Status) → BreaksIn text a b status → IsFailed status
broken_failed text a b status h = subst IsFailed (sym h.1) tt

-- nothing was printed behind a text
pub same_behind : (a m b : Option (List ℕ)) (text : List ℕ) → b ≡ m → Appends a m text → Appends a b text
same_behind a m b text same h = subst (λ o. Appends a o text) (sym same) h
