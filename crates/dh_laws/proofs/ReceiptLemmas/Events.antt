-- What each step of the machine keeps of the whole books, whatever happens keeps.
use Rattle.std.proofs.Common.{◌≡◌, sym, ap, subst, inl, inr, ℕ, List, [], ◌∷◌, ◌++◌}
use Rattle.dh_types.specs.declared.command.Command.{Command}
use Rattle.dh_types.specs.declared.reply.Reply.{Reply}
use Rattle.dh_model.specs.Books.{Books, State}
use Rattle.dh_model.specs.Machine.{step}
use Rattle.dh_model.specs.Whole.{whole}
use Rattle.dh_laws.specs.InOrder.{IsEntered}
use Rattle.dh_laws.specs.Events.{Interrupted, Event, Follow, Happens, Recovered, Answered, Tables, Attached, RecoveryInterrupted, state_of}
use Rattle.dh_laws.specs.Lives.{AreEntered}

pub entered_both : (before later : List (Event × Tables)) → AreEntered (before ++ later) → AreEntered before × AreEntered later
entered_both [] later e = (tt, e)
entered_both ((Answered it answer, a) ∷ before) later e = let both = entered_both before later e.1 in ((e.0, both.0), both.1)
entered_both ((Interrupted it, a) ∷ before) later e = let both = entered_both before later e.1 in ((e.0, both.0), both.1)
entered_both ((Attached, a) ∷ before) later e = entered_both before later e
entered_both ((RecoveryInterrupted, a) ∷ before) later e = entered_both before later e
entered_both ((Recovered, a) ∷ before) later e = entered_both before later e

-- each step keeps it
abbrev pub StepsKeep : ℕ → (Books → Type 0) → Type 0
StepsKeep size P = (s : State) (told : Command) → IsEntered told → P s.books → P (step size s told).0.books

-- books that have it are whole
abbrev pub AreWhole : ℕ → (Books → Type 0) → Type 0
AreWhole size P = (books : Books) → P books → whole size books ≡ books

module _ (size : ℕ) (P : Books → Type 0) (steps : StepsKeep size P) (wholes : AreWhole size P) where
  abbrev Of : Tables → Type 0
  Of t = P (whole size t.books)

  pub said_keeps : (it : Command) (answer : Reply) (b a : Tables) → IsEntered it → Happens size (Answered it answer) b a → Of b → Of a
  said_keeps it answer b a entered is p = subst P (ap (λ (r : State × Reply). r.0.books) is) (steps (state_of size b) it entered p)

  cut_keeps : (it : Command) (b a : Tables) → IsEntered it → Happens size (Interrupted it) b a → Of b → Of a
  cut_keeps it b a entered (inl undone) p = subst P (sym undone.books) p
  cut_keeps it b a entered (inr done) p = subst P (sym done.books) (steps (state_of size b) it entered p)

  recovered_keeps : (b a : Tables) → Happens size Recovered b a → Of b → Of a
  recovered_keeps b a is p = subst Of (sym is) (subst P (sym (wholes (whole size b.books) p)) p)

  -- past the events: the tables that they leave have it, and the rest follows those
  pub through : (events rest : List (Event × Tables)) (t : Tables) → AreEntered events → Follow size t (events ++ rest) → Of t → (last : Tables) × Of last
      × Follow size last rest
  through [] rest t e f p = (t, p, f)
  through ((Answered it answer, a) ∷ events) rest t e f p = through events rest a e.1 f.2 (said_keeps it answer t a e.0 f.1 p)
  through ((Interrupted it, a) ∷ events) rest t e f p = through events rest a e.1 f.2 (cut_keeps it t a e.0 f.1 p)
  through ((Attached, a) ∷ events) rest t e f p = through events rest a e f.2 (subst Of (sym f.1) p)
  through ((RecoveryInterrupted, a) ∷ events) rest t e f p = through events rest a e f.2 (subst P (sym f.1.books) p)
  through ((Recovered, a) ∷ events) rest t e f p = through events rest a e f.2 (recovered_keeps t a f.1 p)
