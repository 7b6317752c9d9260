-- The line of one connection more.
use Rattle.std.proofs.Common.{◌≡◌, ◌≢◌, ◌∙◌, ◌++◌, ◌+◌, ◌<◌, [], ◌∷◌, ℕ, Bool, List, Option, Some, Result, Ok, Err, ap, append_assoc, append-nil, arith, length}
use Rattle.std.proofs.Common.{None, false, inl, inr, length-append, refl, subst, suc, sym, take, true, zero}
use Rattle.std.proofs.lemmas.Bool.{false≢true}
use Rattle.std.specs.Io.KnownBytes.{Appends}
use Rattle.std.specs.Prelude.{IsErrAnd}
use Rattle.std.proofs.KnownBytes.{Appends-nil, Appends-trans}
use Rattle.std.proofs.lemmas.List.Elements.{All-push}
use Rattle.sqlite.specs.Store.{Ghosts}
use Rattle.dh_types.specs.Output.{BreaksOff}
use Rattle.dh_types.specs.declared.output.Output.{Output}
use Rattle.dh_types.specs.declared.reply.Fault.{Fault}
use Rattle.dh_types.specs.declared.reply.Fault.TheVariants.{Store}
use Rattle.dh_agency.specs.AgencyView.{AgencyView}
use Rattle.dh_http.specs.declared.listener.Unserved.{Unserved}
use Rattle.dh_http.specs.declared.listener.Unserved.TheVariants as unserved
use Rattle.dh_http.specs.Service.{IsHalt, ServesOn, StopsWith}
use Rattle.dh_http.specs.Calls.{Makes}
use Rattle.dh_http.specs.Printed.{EndsWith, GoOn, IsPortText, PrintsBehind, outcome_line, outcome_lines, port_text}
use Rattle.dh_http.specs.Watched.{IsWatched, sights}
use Rattle.dh_http.specs.Watched.EndsSightings.{Faulted, Served}
use Rattle.dh_http.proofs.CallLemmas.{makes_both, makes_none}
use Rattle.dh_http.proofs.ServingLemmas.{serves_both, serves_none}

lines_more : (outcomes : List (Option ℕ)) (it : Option ℕ) → outcome_lines (outcomes ++ it ∷ []) ≡ outcome_lines outcomes ++ outcome_line it
lines_more [] it = append-nil (outcome_line it)
lines_more (first ∷ outcomes) it =
    ap (λ l. outcome_line first ++ l) (lines_more outcomes it) ∙ sym (append_assoc (outcome_line first) (outcome_lines outcomes) (outcome_line it))

sights_more : (outcomes : List (Option ℕ)) (it : Option ℕ) → sights (outcomes ++ it ∷ []) ≡ sights outcomes ++ true ∷ []
sights_more [] it = refl
sights_more (first ∷ outcomes) it = ap (λ l. true ∷ l) (sights_more outcomes it)

going_more : (outcomes : List (Option ℕ)) (it : Option ℕ) → GoOn outcomes → it ≢ Some 503 → GoOn (outcomes ++ it ∷ [])
going_more outcomes it h goes = All-push (λ (o : Option ℕ). o ≢ Some 503) outcomes it h goes

-- so many connections were served, behind a look each that saw the file, none of them with answer 503, and each was told
pub record HasServed {S : Type 0} (g : Ghosts S) (old new : AgencyView S) (k l : Option (List Bool)) (a b : Option (List ℕ)) (count : ℕ) : Type 0 where
  pub outcomes : List (Option ℕ)
  pub watched : Makes k l (sights outcomes)
  pub on : ServesOn g old new outcomes
  pub written : Appends a b (outcome_lines outcomes)
  pub count_is : length outcomes ≡ count
  pub going : GoOn outcomes

pub served_none : {S : Type 0} (g : Ghosts S) (seat : AgencyView S) (k : Option (List Bool)) (a : Option (List ℕ)) → HasServed g seat seat k k a a 0
served_none g seat k a = record {
  outcomes = [];
  watched = makes_none k;
  on = serves_none g seat;
  written = Appends-nil a;
  count_is = refl;
  going = λ k d below. absurd (omega arith);
}

-- no look was made behind the last connection
pub watched_none : (k l : Option (List Bool)) (outcomes : List (Option ℕ)) (r : Result (Unit {0}) Unserved) → Makes k l (sights outcomes)
    → IsWatched k l outcomes r
watched_none k l outcomes r made = record {
  last = [];
  sightings = subst (Makes k l) (sym (append-nil (sights outcomes))) made;
  ends = Served;
}

-- no connection was served, and no look made
pub unwatched : (k : Option (List Bool)) (r : Result (Unit {0}) Unserved) → IsWatched k k [] r
unwatched k r = watched_none k k [] r (makes_none k)

-- ---- whether the agency has stopped

-- no answer of an agency that goes on is 503
pub goes_on_told : {S : Type 0} (old new : AgencyView S) (outcome : Option ℕ) → StopsWith old new outcome → new.is_stopped ≡ false → outcome ≢ Some 503
goes_on_told old new None stops live = λ is. cc
goes_on_told old new (Some status) (inl goes) live = λ is. goes.0 (cc)
goes_on_told old new (Some status) (inr halts) live = λ is. false≢true (sym live ∙ halts.1)

-- where an agency stops, 503 is answered, or the answer was lost
pub halt_told : {S : Type 0} (old new : AgencyView S) (outcome : Option ℕ) → StopsWith old new outcome → old.is_stopped ≡ false → new.is_stopped ≡ true
    → IsHalt outcome
halt_told old new None stops live stopped = tt
halt_told old new (Some status) (inl goes) live stopped = absurd (false≢true (sym live ∙ sym goes.1 ∙ stopped))
halt_told old new (Some status) (inr halts) live stopped = halts.0

-- the port, or nothing
pub is_port_text : (asked port : ℕ) → IsPortText asked (port_text asked port)
is_port_text zero port = (port, refl)
is_port_text (suc asked) port = refl

-- the writer that failed is told as such
pub is_output : (failed : Output) (r : Result (Unit {0}) Unserved) → IsErrAnd r (λ e. e ≡ unserved.Output failed) → r ≡ Err (unserved.Output failed)
is_output failed (Ok done) h = absurd h
is_output failed (Err why) h = ap Err h

-- and so is a fault
pub is_fault : (fault : Fault) (r : Result (Unit {0}) Unserved) → IsErrAnd r (λ e. e ≡ unserved.Fault fault) → r ≡ Err (unserved.Fault fault)
is_fault fault (Ok done) h = absurd h
is_fault fault (Err why) h = ap Err h

module _ {S : Type 0} (g : Ghosts S) (old mid new : AgencyView S) (k l n : Option (List Bool)) (a m b : Option (List ℕ)) (count : ℕ) (outcome : Option ℕ)
    (was : HasServed g old mid k l a m count) (on : ServesOn g mid new (outcome ∷ [])) (saw : Makes l n (true ∷ [])) where
  all_watched : Makes k n (sights (was.outcomes ++ outcome ∷ []))
  all_watched = subst (Makes k n) (sym (sights_more was.outcomes outcome)) (makes_both k l n (sights was.outcomes) (true ∷ []) was.watched saw)

  -- behind the last look that was made
  was_watched : (r : Result (Unit {0}) Unserved) → IsWatched k n (was.outcomes ++ outcome ∷ []) r
  was_watched r = watched_none k n (was.outcomes ++ outcome ∷ []) r all_watched

  all_on : ServesOn g old new (was.outcomes ++ outcome ∷ [])
  all_on = serves_both g old mid new was.outcomes (outcome ∷ []) was.on on

  all_written : Appends m b (outcome_line outcome) → Appends a b (outcome_lines (was.outcomes ++ outcome ∷ []))
  all_written h =
      subst (Appends a b) (sym (lines_more was.outcomes outcome)) (Appends-trans a m b (outcome_lines was.outcomes) (outcome_line outcome) was.written h)

  one_more : length (was.outcomes ++ outcome ∷ []) ≡ count + 1
  one_more = omega (arith, length-append was.outcomes (outcome ∷ []), was.count_is)

  pub served_more : Appends m b (outcome_line outcome) → outcome ≢ Some 503 → HasServed g old new k n a b (count + 1)
  served_more h goes = record {
    outcomes = was.outcomes ++ outcome ∷ [];
    watched = all_watched;
    on = all_on;
    written = all_written h;
    count_is = one_more;
    going = going_more was.outcomes outcome was.going goes;
  }

  ends : (most : ℕ) → count < most → EndsWith most (was.outcomes ++ outcome ∷ []) outcome
  ends most within = record { before = was.outcomes; is = refl; going = was.going; few = omega (arith, one_more, within) }

  -- the agency stopped at the last one
  pub served_to_halt : (most : ℕ) → count < most → Appends m b (outcome_line outcome) → IsHalt outcome
      → (outcomes : List (Option ℕ)) × ServesOn g old new outcomes × PrintsBehind most [] outcomes a b (Err unserved.Stopped)
      × IsWatched k n outcomes (Err unserved.Stopped)
  served_to_halt most within h halts = (
    was.outcomes ++ outcome ∷ [],
    all_on,
    (record { last = outcome; halts = halts; ends = ends most within }, all_written h),
    was_watched (Err unserved.Stopped),
  )

  -- the writer failed in the last line
  pub served_to_break : (failed : Output) (most : ℕ) → count < most → BreaksOff m b (outcome_line outcome)
      → (outcomes : List (Option ℕ)) × ServesOn g old new outcomes × PrintsBehind most [] outcomes a b (Err (unserved.Output failed))
      × IsWatched k n outcomes (Err (unserved.Output failed))
  unfolding ends
  served_to_break failed most within h = (
    was.outcomes ++ outcome ∷ [],
    all_on,
    record {
      last = outcome;
      ends = ends most within;
      cut = h.0;
      part = h.1;
      written = Appends-trans a m b (outcome_lines was.outcomes) (take h.0 (outcome_line outcome)) was.written h.2;
    },
    was_watched (Err (unserved.Output failed)),
  )

-- no further connection could be taken
pub served_to_fault : {S : Type 0} (g : Ghosts S) (old mid new : AgencyView S) (k l n : Option (List Bool)) (a b : Option (List ℕ)) (count most : ℕ)
    (fault : Fault) → HasServed g old mid k l a b count → new ≡ mid → count < most
    → ((seen : Bool) × Makes l n (seen ∷ []) × (seen ≡ false → fault ≡ Store))
    → (outcomes : List (Option ℕ)) × ServesOn g old new outcomes × PrintsBehind most [] outcomes a b (Err (unserved.Fault fault))
    × IsWatched k n outcomes (Err (unserved.Fault fault))
served_to_fault g old mid new k l n a b count most fault was same within look = (
  was.outcomes,
  subst (λ seat. ServesOn g old seat was.outcomes) (sym same) was.on,
  (record { few = omega (arith, was.count_is, within); going = was.going }, was.written),
  record {
    last = look.0 ∷ [];
    sightings = makes_both k l n (sights was.outcomes) (look.0 ∷ []) was.watched look.1;
    ends = Faulted look.0 fault refl look.2;
  },
)

-- behind a text
pub prints_behind : (count : ℕ) (text : List ℕ) (outcomes : List (Option ℕ)) (a m b : Option (List ℕ)) (r : Result (Unit {0}) Unserved)
    → Appends a m text → PrintsBehind count [] outcomes m b r → PrintsBehind count text outcomes a b r
prints_behind count text outcomes a m b (Ok done) first h = (h.0, Appends-trans a m b text (outcome_lines outcomes) first h.1)
prints_behind count text outcomes a m b (Err unserved.Stopped) first h = (h.0, Appends-trans a m b text (outcome_lines outcomes) first h.1)
prints_behind count text outcomes a m b (Err (unserved.Fault fault)) first h = (h.0, Appends-trans a m b text (outcome_lines outcomes) first h.1)
prints_behind count text outcomes a m b (Err (unserved.Output failed)) first h = record {
  last = h.last;
  ends = h.ends;
  cut = h.cut;
  part = h.part;
  written =
      subst (Appends a b) (sym (append_assoc text (outcome_lines h.ends.before) (take h.cut (outcome_line h.last))))
      (Appends-trans a m b text (outcome_lines h.ends.before ++ take h.cut (outcome_line h.last)) first h.written);
}
prints_behind count text outcomes a m b (Err unserved.NoListener) first h = h
