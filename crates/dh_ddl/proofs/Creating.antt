-- What a text that makes a table or an index, or takes an index away, has done, where it went well.
use Rattle.std.proofs.Common.{◌≡◌, ◌⊎◌, inl, inr, ◌∙◌, ℕ, List, [], ◌∷◌, false, None, Ok, Err, Result, refl, sym, ap, subst, append-nil}
use Rattle.sqlite_schema.specs.declared.schema.Schema.{Schema}
use Rattle.sqlite_schema.specs.declared.command.Command.TheVariants.{CreateTable, CreateIndex, DropIndex}
use Rattle.sqlite_catalog.specs.Change.{created, indexed, next_tree}
use Rattle.sqlite.specs.Does.{Tally, lacks_sequence}
use Rattle.sqlite.specs.Effect.{Database}
use Rattle.sqlite.specs.State.{State, Writes, ExecutesInside}
use Rattle.sqlite.proofs.Callers.{runs_as}
use Rattle.dh_ddl.specs.Meanings.{DropsIndex, MakesTable, MakesIndex, Turns}
use Rattle.dh_ddl.specs.Making.{Adds, Makes}

went : {B E R : Type 0} {b : B} {Stops : E → Type 0} → ((stop : E) × Stops stop × (Ok b ≡ Err stop)) ⊎ R → R
went (inl stopped) = absurd (let e = stopped.2 in cc)
went (inr on) = on

same_value : {B E : Type 0} {a b : B} → ◌≡◌ {A = Result B E} (Ok a) (Ok b) → a ≡ b
same_value e = cc

-- what the text has made
abbrev HasMade : Schema → State → State → Type 0
HasMade after old new = (new.now.schema ≡ after) × Adds old.now new.now

module _ (text : List ℕ) (after : Schema) (old new : State) (count : ℕ) where
  table_wrote : (is : MakesTable text old.now.schema after) → Writes old new None CreateTable text [] count → HasMade after old new
  table_wrote is w =
      let before = old.now.schema in
      let all = went w.changed in
      let first = went all.1 in
      let made = first.1 in
      let same : made.table ≡ is.table = same_value (sym made.defined ∙ is.defines) in
      let grown : first.0.schema ≡ created before is.table = made.is ∙ ap (created before) same in
      let plain : lacks_sequence first.0.schema ≡ false = ap lacks_sequence (grown ∙ is.grows) ∙ is.uncounted in
      let now : first.0 ≡ new.now = sym (ap (λ (p : Tally × Database). p.1) (same_value all.2) ∙ same_value (rw plain at first.2)) in
      let adds : Adds old.now first.0 = record {
        made = record is.table { tree = next_tree before } ∷ [];
        behind = ap (λ (s : Schema). s.tables) grown;
        rows = made.others;
        empty = (made.empty, tt);
      } in
      (ap (λ (d : Database). d.schema) (sym now) ∙ grown ∙ is.grows, subst (Adds old.now) now adds)

  index_wrote : (is : MakesIndex text old.now.schema after) → Writes old new None (CreateIndex is.at) text [] count → HasMade after old new
  index_wrote is w =
      let all = went (rw is.listed at w.changed) in
      let made = all.1 in
      let same : made.index ≡ is.index = same_value (sym made.defined ∙ is.defines) in
      let grown : all.0.schema ≡ indexed old.now.schema is.table is.index = made.is ∙ ap (indexed old.now.schema is.table) same in
      let now : all.0 ≡ new.now = sym (ap (λ (p : Tally × Database). p.1) (same_value all.2)) in
      let adds : Adds old.now all.0 = record {
        made = [];
        behind = ap (λ (s : Schema). s.tables) grown ∙ sym (append-nil old.now.schema.tables);
        rows = made.rows;
        empty = tt;
      } in
      (ap (λ (d : Database). d.schema) (sym now) ∙ grown ∙ is.grows, subst (Adds old.now) now adds)

  index_went : (is : DropsIndex text old.now.schema after) → Writes old new None (DropIndex is.at) text [] count → HasMade after old new
  index_went is w =
      let all = went (rw is.listed at w.changed) in
      let left = all.1 in
      let now : all.0 ≡ new.now = sym (ap (λ (p : Tally × Database). p.1) (same_value all.2)) in
      let adds : Adds old.now all.0 = record {
        made = [];
        behind = ap (λ (s : Schema). s.tables) left.0 ∙ sym (append-nil old.now.schema.tables);
        rows = left.1;
        empty = tt;
      } in
      (ap (λ (d : Database). d.schema) (sym now) ∙ left.0 ∙ is.leaves, subst (Adds old.now) now adds)

  made_one : Turns text old.now.schema after → ExecutesInside 0 text [] old new (Ok count) → HasMade after old new
  made_one (inl is) h =
      let ran = runs_as text [] old new old.now.schema refl CreateTable is.command is.plain count h.0 in
      table_wrote is (subst (λ t. Writes old new None CreateTable t [] count) is.whole ran)
  made_one (inr (inl is)) h =
      let ran = runs_as text [] old new old.now.schema refl (CreateIndex is.at) is.command is.plain count h.0 in
      index_wrote is (subst (λ t. Writes old new None (CreateIndex is.at) t [] count) is.whole ran)
  made_one (inr (inr is)) h =
      let ran = runs_as text [] old new old.now.schema refl (DropIndex is.at) is.command is.plain count h.0 in
      index_went is (subst (λ t. Writes old new None (DropIndex is.at) t [] count) is.whole ran)

-- the text alone builds a schema
pub makes_one : (text : List ℕ) (old new : State) (count : ℕ) → ExecutesInside 0 text [] old new (Ok count) → Makes (text ∷ []) old new
makes_one text old new count h after build =
    let it = made_one text build.0 old new count build.1 h in
    (record { inside = h.1.mode; schema_is = it.0 ∙ build.2 }, it.1)
