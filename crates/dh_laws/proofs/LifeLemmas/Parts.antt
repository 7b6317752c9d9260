-- Life after life, the commands that count are a beginning of its calls.
use Rattle.std.proofs.Common.{◌≡◌, ◌∙◌, refl, sym, ap, ℕ, List, [], ◌∷◌, ◌++◌, arith}
use Rattle.dh_types.specs.declared.command.Command.{Command}
use Rattle.dh_types.specs.declared.reply.Reply.{Reply}
use Rattle.dh_model.specs.Books.{State}
use Rattle.dh_laws.specs.Events.{Event, Answered, Interrupted, Attached, RecoveryInterrupted, Recovered, Tables}
use Rattle.dh_laws.specs.Kept.{Kept, NoneLeft, AnswerCounts, UndoneIsLeftOut, DoneCounts, AttachingIsPassed, RecoveryMovesOn, RecoveryEnds}
use Rattle.dh_laws.specs.Lives.{IsOneLife, calls}
use Rattle.dh_laws.specs.EachLife.{AreBeginnings, AreLives, EachLifeKeepsABeginning, joined, lives_of, with_first}

-- the commands fall into beginnings of these lives
record Falls (told : List Command) (lives : List (List (Event × Tables))) : Type 0 where
  parts : List (List Command)
  is : told ≡ joined parts
  begin : AreBeginnings parts lives

one_called : (it : Command) (called : List Command) → it ∷ called ≡ [] → ⊥
one_called it called e = cc

no_front : (part rest : List Command) → [] ≡ part ++ rest → part ≡ []
no_front [] rest e = refl
no_front (it ∷ part) rest e = cc

-- where nothing is called, nothing is called after a cut
calm : (life : List (Event × Tables)) → calls life ≡ [] → IsOneLife life
calm [] none = tt
calm ((Answered it reply, t) ∷ life) none = absurd (one_called it (calls life) none)
calm ((Interrupted it, t) ∷ life) none = absurd (one_called it (calls life) none)
calm ((Attached, t) ∷ life) none = calm life none
calm ((RecoveryInterrupted, t) ∷ life) none = calm life none
calm ((Recovered, t) ∷ life) none = calm life none

-- ---- one event more in the first life

later_said : (it : Command) (reply : Reply) (t : Tables) (lives : List (List (Event × Tables))) → AreLives (with_first (Answered it reply, t) lives)
    → AreLives lives
later_said it reply t [] are = tt
later_said it reply t (life ∷ lives) are = are

later_interrupted : (t : Tables) (lives : List (List (Event × Tables))) → AreLives (with_first (RecoveryInterrupted, t) lives) → AreLives lives
later_interrupted t [] are = tt
later_interrupted t (life ∷ lives) are = are

later_cut : (it : Command) (t : Tables) (lives : List (List (Event × Tables))) → AreLives (with_first (Interrupted it, t) lives) → AreLives lives
later_cut it t [] are = tt
later_cut it t (life ∷ lives) are = (calm life are.0, are.1)

module _ (it : Command) (told : List Command) where
  -- a command that counts is the first of its part
  said_first : (reply : Reply) (t : Tables) (lives : List (List (Event × Tables))) (parts : List (List Command)) → told ≡ joined parts
      → AreBeginnings parts lives
      → Falls (it ∷ told) (with_first (Answered it reply, t) lives)
  said_first reply t [] [] is b = record { parts = (it ∷ []) ∷ []; is = ap (λ ts. it ∷ ts) is; begin = (([], refl, omega arith), tt) }
  said_first reply t (life ∷ lives) (part ∷ parts) is b = record {
    parts = (it ∷ part) ∷ parts;
    is = ap (λ ts. it ∷ ts) is;
    begin = ((b.0.0, ap (λ ts. it ∷ ts) b.0.1, b.0.2), b.1);
  }
  said_first reply t [] (part ∷ parts) is b = absurd b
  said_first reply t (life ∷ lives) [] is b = absurd b

  cut_first : (t : Tables) (lives : List (List (Event × Tables))) (parts : List (List Command)) → told ≡ joined parts → AreBeginnings parts lives
      → Falls (it ∷ told) (with_first (Interrupted it, t) lives)
  cut_first t [] [] is b = record { parts = (it ∷ []) ∷ []; is = ap (λ ts. it ∷ ts) is; begin = (([], refl, omega arith), tt) }
  cut_first t (life ∷ lives) (part ∷ parts) is b = record {
    parts = (it ∷ part) ∷ parts;
    is = ap (λ ts. it ∷ ts) is;
    begin = ((b.0.0, ap (λ ts. it ∷ ts) b.0.1, b.0.2), b.1);
  }
  cut_first t [] (part ∷ parts) is b = absurd b
  cut_first t (life ∷ lives) [] is b = absurd b

-- an interrupted command that doesn't count is the last call of its life, and its part is empty
left_out : (it : Command) (told : List Command) (t : Tables) (lives : List (List (Event × Tables))) (parts : List (List Command))
    → AreLives (with_first (Interrupted it, t) lives)
    → told ≡ joined parts → AreBeginnings parts lives → Falls told (with_first (Interrupted it, t) lives)
left_out it told t [] [] are is b = record { parts = [] ∷ []; is = is; begin = ((it ∷ [], refl, omega arith), tt) }
left_out it told t (life ∷ lives) (part ∷ parts) are is b =
    let none : part ≡ [] = no_front part b.0.0 (sym are.0 ∙ b.0.1) in
    record {
      parts = part ∷ parts;
      is = is;
      begin = ((it ∷ [], ap (λ ts. it ∷ ts) are.0 ∙ ap (λ ts. ts ++ it ∷ []) (sym none), omega arith), b.1);
    }
left_out it told t [] (part ∷ parts) are is b = absurd b
left_out it told t (life ∷ lives) [] are is b = absurd b

interrupted_first : (told : List Command) (t : Tables) (lives : List (List (Event × Tables))) (parts : List (List Command)) → told ≡ joined parts
    → AreBeginnings parts lives
    → Falls told (with_first (RecoveryInterrupted, t) lives)
interrupted_first told t [] [] is b = record { parts = [] ∷ []; is = is; begin = (([], refl, omega arith), tt) }
interrupted_first told t (life ∷ lives) (part ∷ parts) is b = record { parts = part ∷ parts; is = is; begin = b }
interrupted_first told t [] (part ∷ parts) is b = absurd b
interrupted_first told t (life ∷ lives) [] is b = absurd b

-- a life that begins
next_life : (told : List Command) (lives : List (List (Event × Tables))) → Falls told lives → Falls told ([] ∷ lives)
next_life told lives f = record { parts = [] ∷ f.parts; is = f.is; begin = (([], refl, omega arith), f.begin) }

module _ (size : ℕ) where
  fall : {s last : State} {events : List (Event × Tables)} {told : List Command} → Kept size s events told last → AreLives (lives_of events)
      → Falls told (lives_of events)
  fall NoneLeft are = record { parts = [] ∷ []; is = refl; begin = (([], refl, omega arith), tt) }
  fall (AnswerCounts {it = it} {reply = reply} {after = t} {events = events} {told = told} is k) are =
      let f = fall k (later_said it reply t (lives_of events) are) in
      said_first it told reply t (lives_of events) f.parts f.is f.begin
  fall (UndoneIsLeftOut {it = it} {after = t} {events = events} {told = told} run k) are =
      let f = fall k (later_cut it t (lives_of events) are) in
      left_out it told t (lives_of events) f.parts are f.is f.begin
  fall (DoneCounts {it = it} {after = t} {events = events} {told = told} run k) are =
      let f = fall k (later_cut it t (lives_of events) are) in
      cut_first it told t (lives_of events) f.parts f.is f.begin
  fall (AttachingIsPassed {events = events} {told = told} k) are = next_life told (lives_of events) (fall k are.1)
  fall (RecoveryMovesOn {after = t} {events = events} {told = told} run k) are =
      let f = fall k (later_interrupted t (lives_of events) are) in
      interrupted_first told t (lives_of events) f.parts f.is f.begin
  fall (RecoveryEnds {events = events} {told = told} k) are = next_life told (lives_of events) (fall k are.1)

pub each_life_keeps_a_beginning : (size : ℕ) → EachLifeKeepsABeginning size
each_life_keeps_a_beginning size s last events told are k = let f = fall size k are in (f.parts, f.is, f.begin)
