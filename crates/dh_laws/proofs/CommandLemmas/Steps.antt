-- What a step of the machine makes of the books: the same, with a run made, or what an accepted change makes of them.
use Rattle.std.proofs.Common.{◌≡◌, refl, sym, subst, ℕ, true}
use Rattle.dh_types.specs.declared.command.Command.{Command}
use Rattle.dh_types.specs.declared.command.Command.TheVariants as command
use Rattle.dh_types.specs.declared.command.RunOrder.{RunOrder}
use Rattle.dh_types.specs.declared.reply.Reply.{Reply}
use Rattle.dh_types.specs.declared.reply.Refusal.{Refusal}
use Rattle.dh_model.specs.declared.rows.Change.{Change}
use Rattle.dh_model.specs.declared.rows.Change.TheVariants as change
use Rattle.dh_model.specs.declared.rows.Verdict.{Verdict}
use Rattle.dh_model.specs.declared.rows.Verdict.TheVariants as verdict
use Rattle.dh_model.specs.Books.{Books, State}
use Rattle.dh_model.specs.Runs.{ran}
use Rattle.dh_model.specs.Verdicts.{opened_run, verdict_on}
use Rattle.dh_model.specs.Machine.{settled, step}
use Rattle.dh_model.proofs.MachineLemmas.{resumed_books}
use Rattle.dh_laws.specs.Batches.{is_plain}
use Rattle.dh_laws.proofs.VerdictLemmas.Acceptance.{Accepted, turned, turned_is}
use Rattle.dh_laws.proofs.VerdictLemmas.Cases.{case_of, plain_of, rows_of}

-- what holds of the books after a step, under its verdict
module _ (size : ℕ) (s : State) (P : Verdict → Books → Type 0)
    (already : (kept : Reply) → P (verdict.Already kept) s.books)
    (refused : (why : Refusal) → P (verdict.Refused why) s.books)
    (posts : P (verdict.Change change.Post) s.books)
    (runs : (order : RunOrder) → order.month ≡ s.books.next → P (verdict.Change (change.Open (opened_run s.books order))) (ran size s.books order.key))
    (turns : (rows : Change) (a : Accepted s.books s.open_run rows) → is_plain rows ≡ true → P (verdict.Change rows) (turned s.books s.open_run rows a)) where
  abbrev Holds : Command → Verdict → Type 0
  Holds told v = P v (settled size s told v).0.books

  carried : (told : Command) → Accepted s.books s.open_run (rows_of s.books told) → Holds told (verdict.Change (rows_of s.books told))
  carried (command.Run order) a = runs order a.month
  carried (command.Open order) a = runs order a.month
  carried (command.Post count) a = subst (P (verdict.Change change.Post)) (sym (resumed_books size s.books count s.open_run)) posts
  carried told a =
      let rows = rows_of s.books told in
      subst (P (verdict.Change rows)) (turned_is s.books s.open_run rows a) (turns rows a (plain_of s.books told refl))

  settled_holds : (told : Command) (v : Verdict) → verdict_on s.books s.open_run told ≡ v → Holds told v
  settled_holds told (verdict.Change rows) e =
      let case = case_of s.books s.open_run rows told e in
      subst (λ r. Holds told (verdict.Change r)) (sym case.0) (carried told case.1)
  settled_holds told (verdict.Already kept) e = already kept
  settled_holds told (verdict.Refused why) e = refused why

  pub step_holds : (told : Command) → P (verdict_on s.books s.open_run told) (step size s told).0.books
  step_holds told = settled_holds told (verdict_on s.books s.open_run told) refl
