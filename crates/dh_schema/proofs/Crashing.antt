-- What a crash leaves, from what calls may commit.
use Rattle.std.proofs.Common.{◌≡◌, true, IsTrue, ap, refl, sym, subst, ◌∙◌, inl, inr, arith}
use Rattle.sqlite.specs.Tree.{Trees}
use Rattle.sqlite.specs.Effect.{Database}
use Rattle.sqlite.specs.State.{State, HasCleanDisk, Survives}
use Rattle.sqlite.specs.Store.{Ghosts}
use Rattle.sqlite.specs.Held.{Held, state}
use Rattle.sqlite.proofs.StateLemmas.{survives_then}
use Rattle.sqlite.proofs.Callers.{survives_begin}
use Rattle.dh_model.specs.Books as machine
use Rattle.dh_schema.specs.Store.{AreTables, IsReady, Leaves, LeavesItsTables, tables}

-- nothing was done
pub commits_nothing : (s : State) → Survives s s (λ _. ⊥)
commits_nothing s = record {
  clean = omega arith;
  shield = λ shielded. shielded;
  counts = omega arith;
  limit = refl;
  closes = λ _ still. inl still;
  crash = λ _ left may. inl may;
}

-- nothing is committed by either
pub survives_both : (a b c : State) → Survives a b (λ _. ⊥) → Survives b c (λ _. ⊥) → Survives a c (λ _. ⊥)
survives_both a b c = survives_then a b c _ _ _ (λ _ _ none. none) (λ _ _ none. none)

-- a transaction is begun, does these things, and is committed
pub survives_committed : {S : Type 0} (g : Ghosts S) (old begun last new : Held S) (P : Trees → Type 0) → begun ≡ record old { in_transaction = true }
    → Survives (state g begun) (state g last) (λ _. ⊥) → (HasCleanDisk (state g last) → P (state g last).now.trees)
    → Survives (state g last) (state g new) (λ db. db ≡ (state g last).now.trees) → Survives (state g old) (state g new) P
survives_committed g old begun last new P is inside made commit =
    survives_then (state g old) (state g last) (state g new) (λ _. ⊥) _ P (λ _ db none. absurd none)
    (λ clean db same. subst P (sym same) (made (omega (arith, commit.clean, clean))))
    (survives_begin g old (state g last) _ (rw is at inside)) commit

-- between calls a store that is open leaves its last commit, and that is what it shows
pub ready_leaves : (s : State) → ((left : Trees) → IsTrue s.is_open → s.may_leave left → left ≡ s.committed.trees)
    → (IsTrue s.is_open → s.may_leave s.committed.trees) → IsReady s → LeavesItsTables s
ready_leaves s settled stays ready =
    let same = ap (λ (d : Database). d.trees) (sym ready.settled) in
    record {
      only = λ left may. settled left ready.is_open may ∙ same;
      some = subst s.may_leave same (stays ready.is_open);
      sound = ready.sound;
    }

-- tables that are left alone are tables of which this holds
pub leaves_these : (s : State) (P : machine.State → Type 0) → LeavesItsTables s → P (tables s) → Leaves s P
leaves_these s P alone holds left may = subst (AreTables P) (sym (alone.only left may)) (alone.sound, holds)

-- where nothing was committed since the tables were ready, a crash leaves these
pub unchanged_leaves : (old new : State) → ((left : Trees) → IsTrue old.is_open → old.may_leave left → left ≡ old.committed.trees)
    → IsReady old → HasCleanDisk new → Survives old new (λ _. ⊥) → Leaves new (λ t. t ≡ tables old)
unchanged_leaves old new settled ready clean survives left may = elim (survives.crash clean left may) [
  | inl was ↦
      let same = settled left ready.is_open was ∙ ap (λ (d : Database). d.trees) (sym ready.settled) in
      subst (AreTables (λ t. t ≡ tables old)) (sym same) (ready.sound, refl)
  | inr none ↦ absurd none
]
