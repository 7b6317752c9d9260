-- Happenings, one after the other.
use Rattle.std.proofs.Common.{◌≡◌, ◌∙◌, refl, sym, ap, subst, inl, inr, ℕ, suc, ◌+◌, ◌<◌, ◌≤◌, List, [], ◌∷◌, ◌++◌, Option, Some, None, length, drop, get_or}
use Rattle.std.proofs.Common.{drop-cons, add-one}
use Rattle.std.specs.Option.{option_to_list}
use Rattle.std.proofs.lemmas.List.{append-nil, append_assoc, drop_all}
use Rattle.dh_types.specs.declared.reply.Reply.{Reply}
use Rattle.dh_model.specs.Books.{Books, State}
use Rattle.dh_model.specs.Runs.{batch_size}
use Rattle.dh_laws.specs.Events.{Event, Answered, Interrupted, Attached, RecoveryInterrupted, Recovered, Tables, state_of}
use Rattle.dh_laws.specs.Kept.{Kept, NoneLeft, AnswerCounts, UndoneIsLeftOut, DoneCounts, AttachingIsPassed, RecoveryMovesOn, RecoveryEnds}
use Rattle.dh_laws.proofs.LifeLemmas.Tables.{recovered_whole}
use Rattle.dh_laws.specs.StateTables.{IsStateInOrder, as_tables}
use Rattle.dh_rules.specs.declared.events.Happening.{Happening}
use Rattle.dh_rules.specs.declared.events.Happening.TheVariants as happening
use Rattle.dh_rules.specs.Playing.{IsPlayed, IsStep, counted}

-- what is kept of these events, from these books on
abbrev KeptFrom : List Happening → State → State → List (Event × Tables) → Books → Type 0
KeptFrom happenings middle after events books =
    Kept batch_size (record { books = books; open_run = middle.open_run }) events (counted happenings) (state_of batch_size (as_tables after))

pub nothing_played : (s : State) → IsPlayed [] [] s s
nothing_played s = record { events = []; follow = tt; are = tt; answers = refl; ends = refl; kept = NoneLeft }

-- a happening in front of others
one_more : (one : Happening) (happenings : List Happening) (reply : Option Reply) (replies : List Reply) (before middle after : State)
    → IsStateInOrder middle → IsStep one reply before middle → IsPlayed happenings replies middle after
    → IsPlayed (one ∷ happenings) (option_to_list reply ++ replies) before after
one_more (happening.Answered told) happenings (Some reply) replies before middle after o step p = record {
  events = (Answered told reply, as_tables middle) ∷ p.events;
  follow = (o.shown, step, p.follow);
  are = ((refl, step), p.are);
  answers = ap (λ rs. reply ∷ rs) p.answers;
  ends = p.ends;
  kept = AnswerCounts step p.kept;
}
one_more (happening.Undone told reach) happenings None replies before middle after o step p = record {
  events = (Interrupted told, as_tables middle) ∷ p.events;
  follow = (o.shown, inl step.undone, p.follow);
  are = ((refl, step), p.are);
  answers = p.answers;
  ends = p.ends;
  kept = UndoneIsLeftOut step.undone.run (subst (λ (b : Books). KeptFrom happenings middle after p.events b) step.undone.books p.kept);
}
one_more (happening.Done told standing) happenings None replies before middle after o step p = record {
  events = (Interrupted told, as_tables middle) ∷ p.events;
  follow = (o.shown, inr step.done, p.follow);
  are = ((refl, step), p.are);
  answers = p.answers;
  ends = p.ends;
  kept = DoneCounts step.done.run (subst (λ (b : Books). KeptFrom happenings middle after p.events b) step.done.books p.kept);
}
one_more happening.Attached happenings None replies before middle after o step p = record {
  events = (Attached, as_tables middle) ∷ p.events;
  follow = (o.shown, step, p.follow);
  are = (step, p.are);
  answers = p.answers;
  ends = p.ends;
  kept = AttachingIsPassed
      (subst (λ (t : Tables). Kept batch_size (state_of batch_size t) p.events (counted happenings) (state_of batch_size (as_tables after))) step p.kept);
}
one_more (happening.RecoveryInterrupted reach) happenings None replies before middle after o step p = record {
  events = (RecoveryInterrupted, as_tables middle) ∷ p.events;
  follow = (o.shown, step.interrupted, p.follow);
  are = (step, p.are);
  answers = p.answers;
  ends = p.ends;
  kept = RecoveryMovesOn step.interrupted.run (subst (λ (b : Books). KeptFrom happenings middle after p.events b) step.interrupted.books p.kept);
}
one_more happening.Recovered happenings None replies before middle after o step p = record {
  events = (Recovered, as_tables middle) ∷ p.events;
  follow = (o.shown, step, p.follow);
  are = (step, p.are);
  answers = p.answers;
  ends = p.ends;
  kept =
      let whole = recovered_whole batch_size (as_tables middle) _ step o.shown in
      let none = ap (λ (t : Tables). t.run) step in
      RecoveryEnds
      (subst (λ (s : State). Kept batch_size s p.events (counted happenings) (state_of batch_size (as_tables after)))
      (λ i. record { books = whole i; open_run = none i }) p.kept);
}
one_more (happening.Answered told) happenings None replies before middle after o step p = absurd step
one_more (happening.Undone told reach) happenings (Some reply) replies before middle after o step p = absurd step
one_more (happening.Done told standing) happenings (Some reply) replies before middle after o step p = absurd step
one_more happening.Attached happenings (Some reply) replies before middle after o step p = absurd step
one_more (happening.RecoveryInterrupted reach) happenings (Some reply) replies before middle after o step p = absurd step
one_more happening.Recovered happenings (Some reply) replies before middle after o step p = absurd step

module _ (all : List Happening) (start : State) where
  -- whatever is played from here on, was played from the start with what came before
  abbrev pub SoFar : List Happening → List Reply → State → Type 0
  SoFar rest replies now =
      IsStateInOrder start
      → IsStateInOrder now
      × ((more : List Reply) (after : State) → IsPlayed rest more now after → IsPlayed all (replies ++ more) start after)

  pub so_far_more : (i : ℕ) (one : Happening) (reply : Option Reply) (replies later : List Reply) (now next : State) → i < length all → one ≡ get_or all i one
      → SoFar (drop i all) replies now
      → (IsStateInOrder now → IsStep one reply now next × IsStateInOrder next)
      → later ≡ replies ++ option_to_list reply → SoFar (drop (i + 1) all) later next
  so_far_more i one reply replies later now next here is so step added in_order =
      let rest = drop (i + 1) all in
      let front : drop i all ≡ one ∷ rest = rw (add-one i) (drop-cons all i one here ∙ ap (λ x. x ∷ drop (suc i) all) (sym is)) in
      let was = so in_order in
      let made = step was.0 in (
        made.1,
        λ more after p.
            subst (λ rs. IsPlayed all rs start after) (sym (ap (λ rs. rs ++ more) added ∙ append_assoc replies (option_to_list reply) more))
            (was.1 (option_to_list reply ++ more) after
            (subst (λ hs. IsPlayed hs (option_to_list reply ++ more) now after) (sym front) (one_more one rest reply more now next after made.1 made.0 p))),
      )

  pub so_far_all : (i : ℕ) (replies : List Reply) (now : State) → length all ≤ i → SoFar (drop i all) replies now → IsStateInOrder start
      → IsPlayed all replies start now
  so_far_all i replies now ended so in_order =
      subst (λ rs. IsPlayed all rs start now) (append-nil replies)
      ((so in_order).1 [] now (subst (λ hs. IsPlayed hs [] now now) (sym (drop_all i all ended)) (nothing_played now)))
