-- From what one record does to what a batch does.
use Rattle.std.proofs.Common.{◌≡◌, ◌∙◌, ◌⊎◌, inl, inr, ℕ, zero, suc, ◌+◌, ◌≤◌, Bool, true, false, Option, Some, List, [], ◌∷◌}
use Rattle.std.proofs.Common.{length, take, slice_get, Result, Ok, Err, refl, sym, ap, subst, arith, add-one}
use Rattle.std.specs.Prelude.{◌-◌, ◌^◌, IfSome, IsErrAnd, None, if◌then◌else◌}
use Rattle.std.proofs.lemmas.Bool.{false≢true}
use Rattle.std.specs.Io.KnownBytes.{Appends}
use Rattle.std.proofs.KnownBytes.{Appends-trans}
use Rattle.csv.specs.declared.error.ErrorKind.{ErrorKind}
use Rattle.csv.specs.declared.error.ErrorKind.TheVariants as kind
use Rattle.csv.specs.declared.reader.Reader.{Reader}
use Rattle.sqlite.specs.Store.{Ghosts}
use Rattle.dh_types.specs.Output.{BreaksOff, Puts}
use Rattle.dh_model.specs.Books.{State}
use Rattle.dh_agency.specs.AgencyView.{AgencyView}
use Rattle.dh_agency.specs.Agency.{Leaves, LeavesItsTables, WasClean, machine, stand, stand_of}
use Rattle.dh_agency.proofs.Standing.{leaves_more}
use Rattle.dh_fields.specs.Lines.{Fields}
use Rattle.dh_lines.specs.Session.{answered, line, records_of, state_after}
use Rattle.dh_lines.specs.Batch.{Answers, AnsweredAll, AnsweredFirst, EndsSo, Halts, IsAgencyFault, IsAtRest, IsFirst}
use Rattle.dh_lines.specs.Batch.{IsFaultAt, IsStoreFault, IsWithin}
use Rattle.dh_lines.specs.Batch.{EndsByReading, EndsUnread, OnlyOfRequests, PutsBehind, batch_fault}
use Rattle.dh_lines.specs.declared.watched_reader.Input.{Input}
use Rattle.dh_lines.specs.declared.outcome.Summary.{Summary}
use Rattle.dh_lines.specs.declared.outcome.BatchFault.{BatchFault}
use Rattle.dh_lines.specs.declared.outcome.Halt.{Halt}
use Rattle.dh_lines.specs.declared.outcome.Halt.TheVariants as halt
use Rattle.dh_lines.proofs.Following.{Ended, Follows, Found, state-more}

few : {X : Type 0} (xs : List X) (n : ℕ) → length (take n xs) ≡ n → n ≤ length xs
few [] zero h = omega arith
few [] (suc n) h = absurd (omega arith)
few (x ∷ xs) zero h = omega arith
few (x ∷ xs) (suc n) h = let more : n ≤ length xs = few xs n (omega arith) in omega arith

puts_behind : {T E : Type 0} (a b c : Option (List ℕ)) (first second : List ℕ) (outcome : Result T E) → Appends a b first → Puts b c outcome second
    → PutsBehind a c first outcome second
puts_behind a b c first second (Ok it) h put = Appends-trans a b c first second h put
puts_behind a b c first second (Err e) h broken = (broken.0, broken.1, Appends-trans a b c first (take broken.0 second) h broken.2)

module _ {S : Type 0} (g : Ghosts S) (old new : AgencyView S) (a b : Option (List ℕ)) where
  pub all_answered : (n r : ℕ) (input : List ℕ) → Ended a b (stand g old) (stand g new) n r input
      → AnsweredAll g old new a b (record { records = n; refused = r }) input
  all_answered n r input w = record { written = w.written; state = w.state; records = w.count; refused = w.refused }

module _ {S R : Type 0} (g : Ghosts S) (old new : AgencyView S) (a b : Option (List ℕ)) (rem : R → Option (List ℕ)) (records : Reader R) (n r : ℕ)
    (input : List ℕ)
    (w : Follows rem records a b (stand g old) (stand g new) n r input) where
  pub first_answered : (cause : Input) → (cause.is_full ≡ true → n ≡ 2 ^ 64 - 1) → AnsweredFirst g old new a b cause input
  first_answered cause full = record { count = n; few = few (records_of input) n w.count; full = full; written = w.written; state = w.state }

  left_unread : (c : Option (List ℕ)) (h : Halt) → EndsUnread b c (n + 1) h → (IsAtRest g old → LeavesItsTables g new)
      → EndsSo g old new a c (Err (batch_fault h)) input
  left_unread c (halt.Fault found outcome) told left = absurd told
  left_unread c (halt.Unread cause outcome) told left = (
    outcome,
    record {
      count = n;
      few = few (records_of input) n w.count;
      number = told.0;
      written = puts_behind a b c _ _ outcome w.written told.1;
      state = w.state;
      left = left;
    },
  )
  left_unread c (halt.Input cause) told left = absurd told
  left_unread c (halt.Output failed) told left = absurd told

  -- the next record was not read
  pub ends_unread : {W : Type 0} (held : W → Option (List ℕ)) (one two : W) (k : ErrorKind) (noted : Option Input) (h : Halt) → b ≡ held one
      → IfSome noted (λ cause. cause.is_full ≡ false) → EndsByReading held one two (n + 1) k noted h → (IsAtRest g old → LeavesItsTables g new)
      → EndsSo g old new a (held two) (Err (batch_fault h)) input
  ends_unread {W} held one two k noted h is of_reader told left = by k noted of_reader told
    where
      want : EndsUnread (held one) (held two) (n + 1) h → EndsSo g old new a (held two) (Err (batch_fault h)) input
      want told = left_unread (held two) h (subst (λ o. EndsUnread o (held two) (n + 1) h) (sym is) told) left

      by : (k : ErrorKind) (noted : Option Input) → IfSome noted (λ cause. cause.is_full ≡ false) → EndsByReading held one two (n + 1) k noted h
          → EndsSo g old new a (held two) (Err (batch_fault h)) input
      by (kind.Io e) (Some cause) of_reader told =
          let same : b ≡ held two = is ∙ ap held (sym told.1) in
          subst (λ z. EndsSo g old new a (held two) (Err (batch_fault z)) input) (sym told.0)
          (subst (λ o. AnsweredFirst g old new a o cause input) same (first_answered cause (λ full. absurd (false≢true (sym of_reader ∙ full)))))
      by (kind.Io e) None of_reader told = want told
      by (kind.Utf8 pos e) noted of_reader told = absurd told
      by (kind.UnequalLengths pos expected len) noted of_reader told = absurd told
      by (kind.Serialize text) noted of_reader told = absurd told
      by (kind.Deserialize pos e) noted of_reader told = absurd told
      by kind.OutOfMemory noted of_reader told = want told

-- such an end comes first
pub first_unread : {W : Type 0} (held : W → Option (List ℕ)) (one two : W) (n : ℕ) (k : ErrorKind) (noted : Option Input) (h : Halt)
    → EndsByReading held one two n k noted h → IsFirst (batch_fault h)
first_unread {W} held one two n k noted h told = by k noted told
  where
    memory : (h : Halt) → EndsUnread (held one) (held two) n h → IsFirst (batch_fault h)
    memory (halt.Fault found outcome) told = absurd told
    memory (halt.Unread cause outcome) told = tt
    memory (halt.Input cause) told = absurd told
    memory (halt.Output failed) told = absurd told

    by : (k : ErrorKind) (noted : Option Input) → EndsByReading held one two n k noted h → IsFirst (batch_fault h)
    by (kind.Io e) (Some cause) told = subst (λ z. IsFirst (batch_fault z)) (sym told.0) tt
    by (kind.Io e) None told = memory h told
    by (kind.Utf8 pos e) noted told = absurd told
    by (kind.UnequalLengths pos expected len) noted told = absurd told
    by (kind.Serialize text) noted told = absurd told
    by (kind.Deserialize pos e) noted told = absurd told
    by kind.OutOfMemory noted told = memory h told

no_store_memory : (a b : Option (List ℕ)) (n : ℕ) (h : Halt) → EndsUnread a b n h → ¬ IsStoreFault (batch_fault h)
no_store_memory a b n (halt.Fault found outcome) told is = told
no_store_memory a b n (halt.Unread cause outcome) told is = is
no_store_memory a b n (halt.Input cause) told is = told
no_store_memory a b n (halt.Output failed) told is = told

-- no such end is a fault of the store
pub no_store_unread : {W : Type 0} (held : W → Option (List ℕ)) (one two : W) (n : ℕ) (k : ErrorKind) (noted : Option Input) (h : Halt)
    → EndsByReading held one two n k noted h → ¬ IsStoreFault (batch_fault h)
no_store_unread held one two n (kind.Io e) (Some cause) h told store = subst (λ z. IsStoreFault (batch_fault z)) told.0 store
no_store_unread held one two n (kind.Io e) None h told store = no_store_memory (held one) (held two) n h told store
no_store_unread held one two n (kind.Utf8 pos e) noted h told store = told
no_store_unread held one two n (kind.UnequalLengths pos expected len) noted h told store = told
no_store_unread held one two n (kind.Serialize text) noted h told store = told
no_store_unread held one two n (kind.Deserialize pos e) noted h told store = told
no_store_unread held one two n kind.OutOfMemory noted h told store = no_store_memory (held one) (held two) n h told store

-- a reader that was noted to fail is not the count that is full
pub noted_of_reader : (has_failed : Bool) (noted : Option Input) → noted ≡ (if has_failed then Some (record { is_full = false }) else None)
    → IfSome noted (λ cause. cause.is_full ≡ false)
noted_of_reader true noted is = subst (λ (o : Option Input). IfSome o (λ cause. cause.is_full ≡ false)) (sym is) refl
noted_of_reader false noted is = subst (λ (o : Option Input). IfSome o (λ cause. cause.is_full ≡ false)) (sym is) tt

module _ {S R : Type 0} (g : Ghosts S) (old mid new : AgencyView S) (a b c : Option (List ℕ)) (rem : R → Option (List ℕ)) (records : Reader R) (n r : ℕ)
    (f : Fields)
    (input : List ℕ)
    (w : Found rem records a b (stand g old) (stand g mid) n r f input) where
  next_state : (answered (stand g mid) f).state ≡ state_after (stand g old) (take (n + 1) (records_of input))
  next_state =
      ap (λ s. (answered s f).state) w.state ∙ sym (state-more (stand g old) (take n (records_of input)) f)
      ∙ ap (state_after (stand g old)) (sym w.next.taken)
      ∙ ap (λ k. state_after (stand g old) (take k (records_of input))) (sym (add-one n))

  same_line : line (n + 1) (stand g mid) f ≡ line (n + 1) (state_after (stand g old) (take n (records_of input))) f
  same_line = ap (λ s. line (n + 1) s f) w.state

  moved : (t : State) → IsWithin (stand g mid) (Some f) t → IsWithin (state_after (stand g old) (take n (records_of input))) (slice_get (records_of input) n) t
  moved t h = subst (λ next. IsWithin (state_after (stand g old) (take n (records_of input))) next t) (sym w.next.here)
      (subst (λ s. IsWithin s (Some f) t) w.state h)

  -- the next record ended the batch
  pub ends_early : (e : Halt) → Answers g mid new b c (n + 1) (answered (stand g mid) f) (IsWithin (stand g mid) (Some f)) (Err e) → OnlyOfRequests f e
      → (IsAtRest g old → Leaves g new (IsWithin (stand g mid) (Some f))) → EndsSo g old new a c (Err (batch_fault e)) input
  ends_early (halt.Fault fault outcome) h asked left = (
    outcome,
    record {
      count = n;
      few = few (records_of input) n w.next.count;
      asked = subst (IsFaultAt fault) (sym w.next.here) asked;
      written = puts_behind a b c _ _ outcome w.written h.0;
      state = λ is_open. moved (machine g new) (h.1 is_open);
      undone = λ on. ap stand_of (h.2 on) ∙ w.state;
      left = λ rests. leaves_more g new (IsWithin (stand g mid) (Some f)) _ moved (left rests);
    },
  )
  ends_early (halt.Unread cause outcome) h asked left = absurd h
  ends_early (halt.Input cause) h asked left = absurd h
  ends_early (halt.Output failed) h asked left =
      let broken = subst (BreaksOff b c) same_line h.0 in
      record {
        count = n;
        fields = f;
        cut = broken.0;
        here = w.next.here;
        part = broken.1;
        written = Appends-trans a b c _ _ w.written broken.2;
        state = h.1 ∙ next_state;
      }

-- an error that a `?` hands on
pub ends_handed : {S : Type 0} (g : Ghosts S) (old new : AgencyView S) (a b : Option (List ℕ)) (r : Result Summary BatchFault) (e : BatchFault) (input : List ℕ)
    → IsErrAnd r (λ y. y ≡ e) → EndsSo g old new a b (Err e) input → EndsSo g old new a b r input
ends_handed g old new a b (Ok s) e input is h = absurd is
ends_handed g old new a b (Err y) e input is h = subst (λ z. EndsSo g old new a b (Err z) input) (sym is) h

pub one_at_most : (is_refused : Bool) (k : ℕ) → k ≡ (if is_refused then 1 else 0) → k ≤ 1
one_at_most true k h = omega arith
one_at_most false k h = omega arith

-- an agency that has not stopped after the record had not stopped before it
pub still_on : {P : Type 0} {before after : Bool} → (after ≡ before) ⊎ (P × (after ≡ true)) → after ≡ false → before ≡ false
still_on (inl same) h = sym same ∙ h
still_on (inr stopped) h = cc (stopped.1, h)

-- what a record's answer said of its end, said of the batch's
pub halts_handed : {S : Type 0} (g : Ghosts S) (old mid new : AgencyView S) (r : Result Summary BatchFault) (e : Halt) → IsErrAnd r (λ y. y ≡ batch_fault e)
    → mid.is_stopped ≡ old.is_stopped → WasClean g old mid → (old.is_stopped ≡ true → mid ≡ old) → Halts {X = Bool} batch_fault g mid new (Err e)
    → Halts (λ it. it) g old new r
halts_handed g old mid new (Ok s) e is same clean unmoved did = absurd is
halts_handed g old mid new (Err y) e is same clean unmoved did = record {
  cause = λ live. subst IsFirst (sym is) (did.cause (same ∙ live));
  stops = elim did.stops [ inl alike ↦ inl (alike ∙ same) | inr stopped ↦ inr (subst IsAgencyFault (sym is) stopped.0, stopped.1) ];
  store = λ store. did.store (subst IsStoreFault is store);
  stopped = λ dead. did.stopped (same ∙ dead) ∙ unmoved dead;
  was_clean = omega (arith, clean, did.was_clean);
}
