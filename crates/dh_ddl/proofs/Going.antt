-- Texts that are run one after the other.
use Rattle.std.proofs.Common.{◌∙◌, ◌++◌, ◌+◌, ◌<◌, ◌≤◌, length, drop, get_or, Bor, ℕ, List}
use Rattle.std.proofs.Common.{[], ◌∷◌, inl, IsTrue, refl, sym, ap, subst, arith, append-nil, append_assoc}
use Rattle.std.proofs.lemmas.List.{drop_more, drop_all}
use Rattle.sqlite_trees.specs.Tree.{Trees}
use Rattle.sqlite_schema.specs.declared.schema.Table.{Table}
use Rattle.sqlite_schema.specs.declared.schema.Schema.{Schema}
use Rattle.sqlite_catalog.specs.Change.{KeepsRows}
use Rattle.sqlite.specs.Effect.{Database}
use Rattle.sqlite.specs.State.{State, HasCleanDisk, KeepsCommit, Survives}
use Rattle.sqlite.proofs.StateLemmas.{survives_then}
use Rattle.sqlite.proofs.InsideLemmas.{keeps_then}
use Rattle.dh_ddl.specs.Meanings.{Build}
use Rattle.dh_ddl.specs.Making.{AreEmpty, Adds, Makes, all_of}

-- tables that were empty and are kept, and more
kept_empty : (tables : List Table) (old new : Trees) → AreEmpty tables old → KeepsRows tables old new → AreEmpty tables new
kept_empty [] old new none kept = tt
kept_empty (t ∷ tables) old new none kept = (kept.0 ∙ none.0, kept_empty tables old new none.1 kept.1)

both_empty : (first more : List Table) (trees : Trees) → AreEmpty first trees → AreEmpty more trees → AreEmpty (first ++ more) trees
both_empty [] more trees none new = new
both_empty (t ∷ first) more trees none new = (none.0, both_empty first more trees none.1 new)

kept_apart : (first more : List Table) (old new : Trees) → KeepsRows (first ++ more) old new → KeepsRows first old new × KeepsRows more old new
kept_apart [] more old new kept = (tt, kept)
kept_apart (t ∷ first) more old new kept = let later = kept_apart first more old new kept.1 in ((kept.0, later.0), later.1)

kept_twice : (tables : List Table) (a b c : Trees) → KeepsRows tables a b → KeepsRows tables b c → KeepsRows tables a c
kept_twice [] a b c one two = tt
kept_twice (t ∷ tables) a b c one two = (two.0 ∙ one.0, kept_twice tables a b c one.1 two.1)

kept_itself : (tables : List Table) (trees : Trees) → KeepsRows tables trees trees
kept_itself [] trees = tt
kept_itself (t ∷ tables) trees = (refl, kept_itself tables trees)

adds_none : (db : Database) → Adds db db
adds_none db = record { made = []; behind = sym (append-nil db.schema.tables); rows = kept_itself db.schema.tables db.trees; empty = tt }

adds_then : (a b c : Database) → Adds a b → Adds b c → Adds a c
adds_then a b c one two =
    let first = a.schema.tables in
    let kept = kept_apart first one.made b.trees c.trees (subst (λ tables. KeepsRows tables b.trees c.trees) one.behind two.rows) in
    record {
      made = one.made ++ two.made;
      behind = two.behind ∙ ap (λ tables. tables ++ two.made) one.behind ∙ append_assoc first one.made two.made;
      rows = kept_twice first a.trees b.trees c.trees one.rows kept.0;
      empty = both_empty one.made two.made c.trees (kept_empty one.made b.trees c.trees one.empty kept.1) two.empty;
    }

-- of these texts those are left, which build the rest
pub record HasGone (texts left : List (List ℕ)) (old now : State) : Type 0 where
  pub inside : HasCleanDisk now → IsTrue now.in_transaction
  pub made : HasCleanDisk now → (after : Schema) → Build texts old.now.schema after → Build left now.now.schema after × Adds old.now now.now
  pub kept : HasCleanDisk now → KeepsCommit old now
  pub crash : Survives old now (λ _. ⊥)

unmoved : (s : State) → Survives s s (λ _. ⊥)
unmoved s = record {
  clean = omega arith;
  shield = λ h. h;
  counts = omega arith;
  limit = refl;
  closes = λ clean h. inl h;
  crash = λ clean db h. inl h;
}

pub none_gone : (texts : List (List ℕ)) (s : State) → (HasCleanDisk s → IsTrue s.in_transaction) → HasGone texts texts s s
none_gone texts s inside = record {
  inside = inside;
  made = λ clean after build. (build, adds_none s.now);
  kept = λ clean. record { was_open = λ h. h; committed = λ h. refl };
  crash = unmoved s;
}

module _ (texts left : List (List ℕ)) (old now new : State) (gone : HasGone texts left old now) (survives : Survives now new (λ _. ⊥)) where
  earlier : HasCleanDisk new → HasCleanDisk now
  earlier clean = omega (arith, survives.clean, clean)

  pub crash_on : Survives old new (λ _. ⊥)
  crash_on = survives_then old now new _ _ _ (λ _ _ none. none) (λ _ _ none. none) gone.crash survives

  pub kept_on : (HasCleanDisk new → KeepsCommit now new) → HasCleanDisk new → KeepsCommit old new
  kept_on kept clean = keeps_then old now new (gone.kept (earlier clean)) (kept clean)

-- what a text that went well has left
pub record HasRun (text : List ℕ) (now new : State) : Type 0 where
  pub inside : HasCleanDisk new → IsTrue new.in_transaction
  pub made : HasCleanDisk new → Makes (text ∷ []) now new
  pub kept : HasCleanDisk new → KeepsCommit now new
  pub crash : Survives now new (λ _. ⊥)

module _ (texts left : List (List ℕ)) (text : List ℕ) (old now new : State) where
  gone_on : HasGone texts (text ∷ left) old now → HasRun text now new → HasGone texts left old new
  gone_on gone ran =
      let before : HasCleanDisk new → HasCleanDisk now = earlier texts (text ∷ left) old now new gone ran.crash in
      record {
        inside = ran.inside;
        made = λ clean after build.
            let it = gone.made (before clean) after build in
            let one = ran.made clean it.0.0 (it.0.0, it.0.1, refl) in
            (subst (λ s. Build left s after) (sym one.0.schema_is) it.0.2, adds_then old.now now.now new.now it.1 one.1);
        kept = kept_on texts (text ∷ left) old now new gone ran.crash ran.kept;
        crash = crash_on texts (text ∷ left) old now new gone ran.crash;
      }

-- those from this place on are left
abbrev pub IsAt : List (Bor (List ℕ)) → ℕ → State → State → Type 0
IsAt texts at old now = HasGone (all_of texts) (all_of (drop at texts)) old now

module _ (texts : List (Bor (List ℕ))) (at : ℕ) (old new : State) where
  pub next_at : (text : Bor (List ℕ)) (now : State) → at < length texts → IsAt texts at old now
      → HasRun (get_or texts at text).now now new → IsAt texts (at + 1) old new
  next_at text now low gone ran =
      let is = subst (λ left. HasGone (all_of texts) (all_of left) old now) (drop_more texts at text low) gone in
      gone_on (all_of texts) (all_of (drop (at + 1) texts)) (get_or texts at text).now old now new is ran

  pub all_at : length texts ≤ at → IsAt texts at old new → HasCleanDisk new → Makes (all_of texts) old new
  all_at high gone clean after build =
      let done = subst (λ left. HasGone (all_of texts) (all_of left) old new) (drop_all at texts high) gone in
      let it = done.made clean after build in
      (record { inside = done.inside clean; schema_is = it.0 }, it.1)
