-- Rows that were put and committed, or not.
use Rattle.std.proofs.Common.{◌≡◌, ◌∙◌, ◌⊎◌, ◌≤◌, inl, inr, ap, sym, subst, true, false, IsTrue, Option, Ok, arith}
use Rattle.sqlite_trees.specs.Tree.{Trees}
use Rattle.sqlite_trees.specs.View.{doubt}
use Rattle.sqlite.specs.Effect.{Database}
use Rattle.sqlite.specs.State.{HasCleanDisk, Shows, State, Survives}
use Rattle.sqlite.specs.Store.{Ghosts}
use Rattle.sqlite.specs.Held.{Held, state}
use Rattle.dh_model.specs.declared.open_run.OpenRun.{OpenRun}
use Rattle.dh_model.specs.Books.{Books}
use Rattle.dh_model.specs.Books as machine
use Rattle.dh_model.specs.Rules.{MeetsRules}
use Rattle.dh_model.specs.Runs.{batch_size}
use Rattle.dh_model.specs.Whole.{IsOpenAt}
use Rattle.dh_laws.specs.StateTables as office
use Rattle.dh_laws.proofs.ShownLemmas.Run.{run_shown_is_reckoned}
use Rattle.dh_schema.specs.Putting.{Puts}
use Rattle.dh_schema.specs.Store.{AreTables, Commits, IsReady, Leaves, tables}
use Rattle.dh_schema.specs.Tables.{AreInOrder, IsSound, books_in, state_in}
use Rattle.dh_schema.proofs.Crashing.{survives_committed}
use Rattle.dh_schema.proofs.Installing.{ready_after}
use Rattle.dh_schema.proofs.Keyed.{books_are_keyed}

-- from ready tables a crash leaves these, or what was committed since
pub leaves_either : (old new : State) (after : machine.State) → ((left : Trees) → IsTrue old.is_open → old.may_leave left → left ≡ old.committed.trees)
    → (HasCleanDisk old → IsReady old) → HasCleanDisk new → Commits old new (λ t. t ≡ after) → Leaves new (λ t. (t ≡ tables old) ⊎ (t ≡ after))
leaves_either old new after settled was_ready clean survives left may = elim (survives.crash clean left may) [
  | inl was ↦
      let ready = was_ready (omega (arith, survives.clean, clean)) in
      let same = settled left ready.is_open was ∙ ap (λ (d : Database). d.trees) (sym ready.settled) in
      (subst IsSound (sym same) ready.sound, inl (ap state_in same))
  | inr made ↦ (made.0, inr made.1)
]

-- tables in order with the books of tables that an office works on are sound, and show their run
sound_after : (after : machine.State) (trees : Trees) → office.IsStateInOrder after → AreInOrder trees → books_in trees ≡ after.books
    → AreTables (λ t. t ≡ after) trees
sound_after after trees order in_order is =
    let run : Option OpenRun = after.open_run in
    let shown : IsOpenAt batch_size (books_in trees) run = subst (λ (books : Books). IsOpenAt batch_size books run) (sym is) order.shown in
    let reckoned = run_shown_is_reckoned batch_size (books_in trees) run (omega arith) (books_are_keyed trees) shown in (
      record { in_order = in_order; rules = subst (λ (books : Books). MeetsRules books batch_size) (sym is) order.rules },
      λ i. record { books = is i; open_run = reckoned i },
    )

-- a transaction is begun, rows are put, and it is committed: the tables are these then
module _ {S : Type 0} (g : Ghosts S) (after : machine.State → machine.State) (x : Unit {0}) (old begun last held new : Held S)
    (is : begun ≡ record old { in_transaction = true }) (order : HasCleanDisk (state g old) → office.IsStateInOrder (after (tables (state g old))))
    (puts : Puts (after (tables (state g begun))).books (Ok x) (state g begun) (state g last)) (same : held ≡ new)
    (commit : Survives (state g last) (state g held) (λ db. db ≡ (state g last).now.trees))
  where
    abbrev After : machine.State → Type 0
    After t = t ≡ after (tables (state g old))

    sound : HasCleanDisk (state g last) → AreTables After (state g last).now.trees
    sound clean =
        let moved : Puts (after (tables (state g old))).books (Ok x) (state g (record old { in_transaction = true })) (state g last) =
        subst (λ (h : Held S). Puts (after (tables (state g h))).books (Ok x) (state g h) (state g last)) is puts in
        let below : doubt (state g old).is_clean ≤ doubt (state g last).is_clean = moved.crash.clean in
        let done = moved.put clean in
        sound_after (after (tables (state g old))) (state g last).now.trees (order (omega (arith, below, clean))) done.0.in_order done.1

    pub committed : Commits (state g old) (state g new) After
    committed =
        subst (λ h. Commits (state g old) (state g h) After) same (survives_committed g old begun last held (AreTables After) is puts.crash sound commit)

    pub ready_with : HasCleanDisk (state g new)
        → (HasCleanDisk (state g held) → Shows (state g last) (state g held) (state g last).now (state g last).now false)
        → IsReady (state g new) × After (tables (state g new))
    ready_with clean shown =
        let done : HasCleanDisk (state g held) = subst (λ h. HasCleanDisk (state g h)) (sym same) clean in
        let early : HasCleanDisk (state g last) = omega (arith, commit.clean, done) in
        subst (λ h. IsReady (state g h) × After (tables (state g h))) same
        (ready_after After (state g last) (state g held) (puts.put early).0.version (shown done) (sound early))
