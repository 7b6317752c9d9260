-- The books that a recovery leaves, come to its end.
use Rattle.std.proofs.Common.{◌≡◌, ◌∙◌, sym, ap, subst, inl, inr, ℕ, ◌≤◌, List, [], ◌∷◌, ◌++◌}
use Rattle.std.specs.List.{IsAmong}
use Rattle.std.specs.FinMap.{values}
use Rattle.dh_types.specs.declared.lease.Charge.{Charge}
use Rattle.dh_types.specs.declared.command.Command.{Command}
use Rattle.dh_types.specs.declared.reply.Reply.{Reply}
use Rattle.dh_model.specs.Books.{Books, State}
use Rattle.dh_model.specs.Leases.{dues}
use Rattle.dh_model.specs.Machine.{step}
use Rattle.dh_model.specs.Rules.{IsLawful, IsThere}
use Rattle.dh_model.specs.Whole.{whole}
use Rattle.dh_model.proofs.DueLemmas.{month_of_due}
use Rattle.dh_laws.specs.InOrder.{AreKeyed, IsEntered}
use Rattle.dh_laws.proofs.InvariantLemmas.Order.{changes_keep_order}
use Rattle.dh_laws.proofs.MonthLemmas.Steps.{steps_keep}
use Rattle.dh_laws.proofs.MonthLemmas.Whole.{whole_is_lawful}
use Rattle.dh_laws.proofs.BalanceLemmas.Charges.{charges_are_dues}
use Rattle.dh_laws.proofs.BatchLemmas.Opening.{run_is_opening_made_whole}
use Rattle.dh_laws.specs.Events.{Event, Answered, Interrupted, Attached, RecoveryInterrupted, Recovered, Follow, Tables, state_of}
use Rattle.dh_laws.specs.Lives.{AreEntered, MonthsAreChargedOnce, RecoveredBooksAreLawful}
use Rattle.dh_laws.proofs.LifeLemmas.Tables.{recovered_whole}

module _ (size : ℕ) (pos : 1 ≤ size) where
  -- each row is under its key, the rules hold, and no run is open
  abbrev Law : Books → Type 0
  Law books = AreKeyed books × IsLawful books size

  stepped : (s : State) (it : Command) → IsEntered it → Law s.books → Law (step size s it).0.books
  stepped s it entered law = steps_keep size (changes_keep_order size) (whole_is_lawful size) (run_is_opening_made_whole size) s it pos law.0 law.1 entered

  answered : (s next : State) (it : Command) (reply : Reply) → IsEntered it → Law s.books → step size s it ≡ (next, reply) → Law next.books
  answered s next it reply entered law e = subst (λ (made : State × Reply). Law made.0.books) e (stepped s it entered law)

  kept : (start after : Tables) (events : List (Event × Tables)) → AreEntered events → Law (whole size start.books)
      → Follow size start (events ++ (Recovered, after) ∷ []) → Law after.books
  kept start after [] entered law f = subst Law (sym (ap (λ (t : Tables). t.books) f.1)) law
  kept start after ((Answered it reply, t) ∷ events) entered law f =
      kept t after events entered.1 (answered (state_of size start) (state_of size t) it reply entered.0 law f.1) f.2
  kept start after ((Interrupted it, t) ∷ events) entered law f = elim f.1 [
    | inl undone ↦ kept t after events entered.1 (subst Law (sym undone.books) law) f.2
    | inr done ↦ kept t after events entered.1 (subst Law (sym done.books) (stepped (state_of size start) it entered.0 law)) f.2
  ]
  kept start after ((Attached, t) ∷ events) entered law f = kept t after events entered (subst (λ (u : Tables). Law (whole size u.books)) (sym f.1) law) f.2
  kept start after ((RecoveryInterrupted, t) ∷ events) entered law f = kept t after events entered (subst Law (sym f.1.books) law) f.2
  kept start after ((Recovered, t) ∷ events) entered law f =
      kept t after events entered (subst Law (sym (recovered_whole size t (whole size start.books) f.1 f.0)) law) f.2

pub recovered_books_are_lawful : (size : ℕ) → RecoveredBooksAreLawful size
recovered_books_are_lawful size start after events pos in_order entered f =
    kept size pos start after events entered (whole_is_lawful size start.books start.run pos in_order) f

module _ (size : ℕ) (pos : 1 ≤ size) (books : Books) (keyed : AreKeyed books) (lawful : IsLawful books size) (month : ℕ) (charge : Charge) where
  is_of_run : IsAmong (values books.charges) charge → charge.month ≡ month → IsThere books.runs month × IsAmong (dues books month) charge
  is_of_run a is =
      let owed = (charges_are_dues size books charge pos keyed lawful).0 a in
      let same : owed.0 ≡ month = sym (month_of_due books owed.0 charge owed.2) ∙ is in
      (subst (λ m. IsThere books.runs m) same owed.1, subst (λ m. IsAmong (dues books m) charge) same owed.2)

  is_charged : IsThere books.runs month → IsAmong (dues books month) charge → IsAmong (values books.charges) charge × (charge.month ≡ month)
  is_charged run a = ((charges_are_dues size books charge pos keyed lawful).1 (month, run, a), month_of_due books month charge a)

pub months_are_charged_once : (size : ℕ) → MonthsAreChargedOnce size
months_are_charged_once size start after events month charge pos in_order entered f =
    let law = recovered_books_are_lawful size start after events pos in_order entered f in
    (λ h. is_of_run size pos after.books law.0 law.1 month charge h.0 h.1, λ h. is_charged size pos after.books law.0 law.1 month charge h.0 h.1)
