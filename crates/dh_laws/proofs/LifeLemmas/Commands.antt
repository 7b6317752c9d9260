-- The commands that stand behind the tables.
use Rattle.std.proofs.Common.{◌≡◌, refl, ap, subst, inl, inr, ℕ, List, [], ◌∷◌, ◌++◌, None}
use Rattle.dh_types.specs.declared.command.Command.{Command}
use Rattle.dh_types.specs.declared.reply.Reply.{Reply}
use Rattle.dh_model.specs.Books.{Books, State}
use Rattle.dh_model.specs.Machine.{step}
use Rattle.dh_model.specs.Verdicts.{verdict_on}
use Rattle.dh_model.specs.Whole.{whole}
use Rattle.dh_laws.specs.Events.{Event, Answered, Interrupted, Attached, RecoveryInterrupted, Recovered}
use Rattle.dh_laws.specs.Events.{Follow, IsMovedOn, RunIfDone, RunIfUndone, Tables, state_of}
use Rattle.dh_laws.specs.Kept.{Kept, NoneLeft, AnswerCounts, UndoneIsLeftOut, DoneCounts, AttachingIsPassed, RecoveryMovesOn, RecoveryEnds}
use Rattle.dh_laws.specs.Lives.{AllLives}
use Rattle.dh_laws.proofs.LifeLemmas.Tables.{recovered_whole}

module _ (size : ℕ) (after : Tables) where
  -- some commands lead from the state to these tables, with no run open
  abbrev Leads : State → List (Event × Tables) → Type 0
  Leads s events = (told : List Command) × (last : State) × Kept size s events told last × (after.books ≡ last.books) × (last.open_run ≡ None)

  answered : (s next : State) (it : Command) (reply : Reply) (t : Tables) (events : List (Event × Tables)) → step size s it ≡ (next, reply)
      → Leads next events → Leads s ((Answered it reply, t) ∷ events)
  answered s next it reply t events e l = (it ∷ l.0, l.1, AnswerCounts e l.2, l.3, l.4)

  left_out : (s : State) (it : Command) (t : Tables) (events : List (Event × Tables)) → RunIfUndone size s.books it s.open_run t.run
      → Leads (record s { open_run = t.run }) events → Leads s ((Interrupted it, t) ∷ events)
  left_out s it t events run l = (l.0, l.1, UndoneIsLeftOut run l.2, l.3, l.4)

  taken_in : (s : State) (it : Command) (t : Tables) (events : List (Event × Tables)) → RunIfDone size s it (verdict_on s.books s.open_run it) t.run
      → Leads (record (step size s it).0 { open_run = t.run }) events → Leads s ((Interrupted it, t) ∷ events)
  taken_in s it t events run l = (it ∷ l.0, l.1, DoneCounts run l.2, l.3, l.4)

  moved_on : (s : State) (t : Tables) (events : List (Event × Tables)) → IsMovedOn size s.books s.open_run t.run → Leads (record s { open_run = t.run }) events
      → Leads s ((RecoveryInterrupted, t) ∷ events)
  moved_on s t events run l = (l.0, l.1, RecoveryMovesOn run l.2, l.3, l.4)

  -- the tables stand for these books and their open run
  moved : (t : Tables) (books : Books) (events : List (Event × Tables)) → whole size t.books ≡ books → Leads (state_of size t) events
      → Leads (record { books = books; open_run = t.run }) events
  moved t books events is l = subst (λ b. Leads (record { books = b; open_run = t.run }) events) is l

  closed : (s : State) (t : Tables) (events : List (Event × Tables)) → whole size t.books ≡ s.books → t.run ≡ None → Leads (state_of size t) events
      → Leads s ((Recovered, t) ∷ events)
  closed s t events is none l =
      let it = subst (λ run. Leads (record s { open_run = run }) events) none (moved t s.books events is l) in
      (it.0, it.1, RecoveryEnds it.2, it.3, it.4)

  abbrev to_the_end : List (Event × Tables) → List (Event × Tables)
  to_the_end events = events ++ (Recovered, after) ∷ []

  lead : (start : Tables) (events : List (Event × Tables)) → Follow size start (to_the_end events) → Leads (state_of size start) (to_the_end events)
  lead start [] f = ([], record { books = whole size start.books; open_run = None }, RecoveryEnds NoneLeft, ap (λ (t : Tables). t.books) f.1, refl)
  lead start ((Answered it reply, t) ∷ events) f = answered (state_of size start) (state_of size t) it reply t (to_the_end events) f.1 (lead t events f.2)
  lead start ((Interrupted it, t) ∷ events) f = elim f.1 [
    | inl undone ↦
        left_out (state_of size start) it t (to_the_end events) undone.run
        (moved t (whole size start.books) (to_the_end events) undone.books (lead t events f.2))
    | inr done ↦
        taken_in (state_of size start) it t (to_the_end events) done.run
        (moved t (step size (state_of size start) it).0.books (to_the_end events) done.books (lead t events f.2))
  ]
  lead start ((Attached, t) ∷ events) f =
      let it = subst (λ u. Leads (state_of size u) (to_the_end events)) f.1 (lead t events f.2) in
      (it.0, it.1, AttachingIsPassed it.2, it.3, it.4)
  lead start ((RecoveryInterrupted, t) ∷ events) f =
      moved_on (state_of size start) t (to_the_end events) f.1.run (moved t (whole size start.books) (to_the_end events) f.1.books (lead t events f.2))
  lead start ((Recovered, t) ∷ events) f =
      closed (state_of size start) t (to_the_end events) (recovered_whole size t (whole size start.books) f.1 f.0) (ap (λ (u : Tables). u.run) f.1)
      (lead t events f.2)

pub lives : (size : ℕ) → AllLives size
lives size start after events shown f = lead size after start events f
