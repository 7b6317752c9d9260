-- One call of a peer's stream more.
use Rattle.std.proofs.Common.{◌≡◌, ◌≢◌, ◌∙◌, ◌++◌, ◌+◌, ◌-◌, ◌*◌, ◌^◌, ◌<◌, ◌≤◌, [], ◌∷◌, ℕ, List, Option, Some, None, Result, Ok, Err, ap}
use Rattle.std.proofs.Common.{append_assoc, zero, suc, false, true, append-nil, arith, inl, inr, length, length-append, refl, subst, sym}
use Rattle.std.specs.Prelude.{IsErrAnd, is_err, unwrap_or}
use Rattle.std.specs.Duration.{as_nanos}
use Rattle.std.specs.Time.{instant_nanos}
use Rattle.std.specs.IoError.{error_kind}
use Rattle.std.specs.declared.time.Instant.{Instant}
use Rattle.std.specs.declared.time.Duration.{Duration}
use Rattle.std.specs.declared.io.Error.{Error}
use Rattle.std.specs.declared.io.ErrorKind.TheVariants.{Interrupted}
use Rattle.dh_http.specs.Calls.{AsksLeft, AsksTime, Call, Drains, EndsAnswered, EndsOutput, HasDrained, Makes, Reads, UsesInTime, left_at, nanos}

pub makes_none : {T : Type 0} (a : Option (List T)) → Makes a a []
makes_none None = tt
makes_none (Some calls) = sym (append-nil calls)

pub makes_both : {T : Type 0} (a m b : Option (List T)) (first second : List T) → Makes a m first → Makes m b second → Makes a b (first ++ second)
makes_both None m b first second one two = tt
makes_both (Some xs) None b first second one two = absurd one
makes_both (Some xs) (Some ys) None first second one two = absurd two
makes_both (Some xs) (Some ys) (Some zs) first second one two = two ∙ ap (λ l. l ++ second) one ∙ append_assoc xs first second

-- the error that is handed on
pub is_error : {T : Type 0} (e : Error) (r : Result T Error) → IsErrAnd r (λ x. x ≡ e) → r ≡ Err e
is_error e (Ok it) h = absurd h
is_error e (Err why) h = ap Err h

-- ---- one use in time

pub left_is : (most : ℕ) (begun : Option Instant) (now first : Instant) (all past left : ℕ) → first ≡ unwrap_or begun now → all ≡ most
    → past ≡ instant_nanos now - instant_nanos first → left ≡ all - past → left ≡ left_at most begun now
left_is most begun now first all past left first_is all_is past_is is =
    is ∙ ap (λ n. n - past) all_is ∙ ap (λ n. most - n) (past_is ∙ ap (λ (i : Instant). instant_nanos now - instant_nanos i) first_is)

pub some_left : (n : ℕ) → (n ≡ 0 → ⊥) → 0 < n
some_left zero h = absurd (h refl)
some_left (suc n) h = omega arith

-- a stream that isn't used fails as the question for the time did
pub unused : (call : ℕ → Result ℕ Error → Call) (most : ℕ) (begun since : Option Instant) (calls : List Call) (e : Error) (r : Result ℕ Error)
    → r ≡ Err e → AsksLeft most begun since calls (Err e) → UsesInTime call most begun since calls r
unused call most begun since calls e r as_is (AsksLeft.Timeless why are same is) =
    let told : e ≡ why = cc is in UsesInTime.Timeless why are same (as_is ∙ ap Err told)
unused call most begun since calls e r as_is (AsksLeft.Late now why are at none kind is) =
    let told : e ≡ why = cc is in UsesInTime.Late now why are at none kind (as_is ∙ ap Err told)
unused call most begun since calls e r as_is (AsksLeft.InTime now left are at is some told) = absurd (cc told)

-- a stream is used within what is left
pub used : (call : ℕ → Result ℕ Error → Call) (most : ℕ) (begun since : Option Instant) (calls : List Call) (left : Duration) (r : Result ℕ Error)
    → AsksLeft most begun since calls (Ok left) → UsesInTime call most begun since (calls ++ call (as_nanos left) r ∷ []) r
used call most begun since calls left r (AsksLeft.Timeless why are same is) = absurd (cc is)
used call most begun since calls left r (AsksLeft.Late now why are at none kind is) = absurd (cc is)
used call most begun since calls left r (AsksLeft.InTime now found are at is some told) =
    let same : left ≡ found = cc told in
    let nanos : as_nanos left ≡ left_at most begun now = ap as_nanos same ∙ is in
    UsesInTime.InTime now (ap (λ l. l ++ call (as_nanos left) r ∷ []) are ∙ ap (λ n. AsksTime (Ok now) ∷ call n r ∷ []) nanos) at
    (subst (λ n. 0 < n) is some)

-- with as many seconds
pub same_time : (call : ℕ → Result ℕ Error → Call) (s t : ℕ) (begun since : Option Instant) (calls : List Call) (r : Result ℕ Error) → s ≡ t
    → UsesInTime call (nanos s) begun since calls r → UsesInTime call (nanos t) begun since calls r
same_time call s t begun since calls r same h = subst (λ n. UsesInTime call (nanos n) begun since calls r) same h

use_calls : (call : ℕ → Result ℕ Error → Call) (most : ℕ) (begun since : Option Instant) (calls : List Call) (r : Result ℕ Error)
    → UsesInTime call most begun since calls r → 0 < length calls
use_calls call most begun since calls r (UsesInTime.Timeless why are same is) = subst (λ l. 0 < length l) (sym are) (omega arith)
use_calls call most begun since calls r (UsesInTime.Late now why are at none kind is) = subst (λ l. 0 < length l) (sym are) (omega arith)
use_calls call most begun since calls r (UsesInTime.InTime now are at some) = subst (λ l. 0 < length l) (sym are) (omega arith)

-- ---- what comes is taken in

-- so far: so many reads were tried, and what is taken in from here on ends it
pub record HasTaken (a b : Option (List Call)) (most : ℕ) (begun since : Option Instant) (bytes left turns : ℕ) : Type 0 where
  pub calls : List Call
  pub made : Makes a b calls
  pub many : turns ≤ length calls
  pub more : (rest : List Call) → Drains most since left rest → Drains most begun bytes (calls ++ rest)

module _ (a m b : Option (List Call)) (most : ℕ) (begun since now : Option Instant) (bytes left turns : ℕ)
    (was : HasTaken a m most begun since bytes left turns) (some : 0 < left) (calls : List Call) (made : Makes m b calls) where
  all_made : Makes a b (was.calls ++ calls)
  all_made = makes_both a m b was.calls calls was.made made

  more_calls : 0 < length calls → turns + 1 ≤ length (was.calls ++ calls)
  more_calls h = omega (arith, length-append was.calls calls, was.many)

  behind : (rest : List Call) → Drains most since left (calls ++ rest) → Drains most begun bytes ((was.calls ++ calls) ++ rest)
  behind rest h = subst (Drains most begun bytes) (sym (append_assoc was.calls calls rest)) (was.more (calls ++ rest) h)

  -- some bytes came
  pub taken_more : (count : ℕ) → 0 < count → UsesInTime (λ n r. Reads n r) most since now calls (Ok count)
      → HasTaken a b most begun now bytes (left - count) (turns + 1)
  taken_more count any used = record {
    calls = was.calls ++ calls;
    made = all_made;
    many = more_calls (use_calls (λ n r. Reads n r) most since now calls (Ok count) used);
    more = λ rest h. behind rest (Drains.More since now left count calls rest some any used h);
  }

  -- a signal came
  pub taken_again : (e : Error) → UsesInTime (λ n r. Reads n r) most since now calls (Err e) → error_kind e ≡ Interrupted
      → HasTaken a b most begun now bytes left (turns + 1)
  taken_again e used kind = record {
    calls = was.calls ++ calls;
    made = all_made;
    many = more_calls (use_calls (λ n r. Reads n r) most since now calls (Err e) used);
    more = λ rest h. behind rest (Drains.Again since now left calls rest e some used kind h);
  }

  -- the input has ended
  pub taken_all : (count : ℕ) → count ≡ 0 → UsesInTime (λ n r. Reads n r) most since now calls (Ok count)
      → (all : List Call) × Makes a b all × HasDrained most begun bytes all
  taken_all count none used =
      let end = subst (λ n. UsesInTime (λ n r. Reads n r) most since now calls (Ok n)) none used in
      (was.calls ++ calls, all_made, inl (was.more calls (Drains.Ends since now left calls some end)))

  -- it failed
  pub taken_part : (e : Error) → UsesInTime (λ n r. Reads n r) most since now calls (Err e) → error_kind e ≢ Interrupted
      → (all : List Call) × Makes a b all × HasDrained most begun bytes all
  taken_part e used kind = (was.calls ++ calls, all_made, inl (was.more calls (Drains.Breaks since now left calls e some used kind)))

pub taken_enough : (a b : Option (List Call)) (most : ℕ) (begun since : Option Instant) (bytes left turns : ℕ)
    → HasTaken a b most begun since bytes left turns → left ≡ 0 → (all : List Call) × Makes a b all × HasDrained most begun bytes all
taken_enough a b most begun since bytes left turns was none = (
  was.calls,
  was.made,
  inl (subst (Drains most begun bytes) (append-nil was.calls)
      (was.more [] (subst (λ n. Drains most since n []) (sym none) (Drains.Enough since)))),
)

-- ---- a stream ends

pub broken : (a b : Option (List Call)) (most bytes : ℕ) (r : Result (Unit {0}) Error) → is_err r ≡ true → Makes a b (EndsOutput r ∷ [])
    → (calls : List Call) × Makes a b calls × EndsAnswered most bytes calls
broken a b most bytes (Ok done) is made = cc
broken a b most bytes (Err e) is made = (EndsOutput (Err e) ∷ [], made, EndsAnswered.Broken e refl)

pub whole : (a m b : Option (List Call)) (most bytes all : ℕ) (begun : Option Instant) (r : Result (Unit {0}) Error) → is_err r ≡ false
    → Makes a m (EndsOutput r ∷ []) → all ≡ most → begun ≡ None → ((rest : List Call) × Makes m b rest × HasDrained all begun bytes rest)
    → (calls : List Call) × Makes a b calls × EndsAnswered most bytes calls
whole a m b most bytes all begun (Ok done) is made all_is fresh taken =
    let first : List Call = EndsOutput (Ok done) ∷ [] in (
      first ++ taken.0,
      makes_both a m b first taken.0 made taken.1,
      EndsAnswered.Whole taken.0 refl
          (subst (λ n. HasDrained n None bytes taken.0) all_is (subst (λ o. HasDrained all o bytes taken.0) fresh taken.2)),
    )
whole a m b most bytes all begun (Err e) is made all_is fresh taken = cc
