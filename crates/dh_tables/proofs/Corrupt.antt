-- Why a query answers that the database is corrupt, and what the rows are that it shows.
use Rattle.std.proofs.Common.{◌≡◌, ◌∙◌, inl, inr, refl, ap, subst, sym, ℕ, Bool, true, false, cond, is_eq}
use Rattle.std.proofs.Common.{List, [], ◌∷◌, map, IsPermutation}
use Rattle.std.proofs.Common.{Result, Ok, Err, IfErr, IfOk}
use Rattle.std.specs.declared.cmp.Ordering.{Ordering}
use Rattle.std.specs.Cmp.{IsTotalOrder}
use Rattle.std.specs.List.{AllByRecursion, IsDistinct, filter}
use Rattle.std.specs.Ordering.{eq_by_cmp}
use Rattle.std.proofs.lemmas.Cmp.{tied_itself}
use Rattle.std.specs.declared.alloc.Global.{Global}
use Rattle.std.specs.Prelude.{Option, Vec}
use Rattle.sqlite_value.specs.Order.{Row}
use Rattle.sqlite_schema.specs.declared.schema.Schema.{Schema}
use Rattle.sqlite_sql.specs.Term.{Term}
use Rattle.sqlite_trees.proofs.ListLemmas.{all-map, all-permutation}
use Rattle.sqlite_trees.specs.declared.error.StoreError.{StoreError}
use Rattle.sqlite_trees.specs.declared.error.StoreError.TheVariants.{Broken, Corrupt, Full, Io, OutOfMemory, Unstorable}
use Rattle.sqlite.specs.declared.error.Error.{Error}
use Rattle.sqlite.specs.declared.error.Error.TheVariants.{SqliteFailure}
use Rattle.sqlite.specs.declared.error.ErrorCode.TheVariants.{DatabaseCorrupt}
use Rattle.sqlite.specs.Command.TheVariants.{Select}
use Rattle.sqlite_schema.specs.declared.program.Program.{Program}
use Rattle.sqlite.specs.Effect.{Database, RefusesToRead}
use Rattle.sqlite.specs.Clock.{timed}
use Rattle.sqlite.specs.Listing.{understood}
use Rattle.sqlite.specs.State.{FailsToQuery, FailsToShow, HasCause, IsNoStatement, IsNotRun, Shown, State, store_error}
use Rattle.sqlite.proofs.Callers.{IsPlain, command_of}
use Rattle.dh_sql.specs.Queries.{passes_all, shows}
use Rattle.dh_sql.specs.Shape.{IsGreatest, IsStored, Shape, shown_keys, stored_in}
use Rattle.dh_sql.specs.Texts.{IsSelectText}
use Rattle.dh_sql.proofs.Lists.{has_all, map_same}
use Rattle.dh_sql.proofs.Selecting.{shows_rows}
use Rattle.dh_tables.specs.Calls.{HasFailed, IsCorrupt}
use Rattle.dh_tables.specs.Questions.{AreOneAtMost, AsksFor, IsAskedRow}

-- no text is refused so
no_text : (s : State) (text : List ℕ) (params : Row) → IsNoStatement s text params (SqliteFailure DatabaseCorrupt) → ⊥
no_text s text params (inl h) = let e = h.2 in cc
no_text s text params (inr h) = elim h.2 [
  | inl many ↦ let e = many.1 in cc
  | inr more ↦ elim more [
    | inl count ↦ let e = count.1 in cc
    | inr clock ↦ let e = clock.1 in cc
  ]
]

-- and no query
not_read : (limit : Option ℕ) (q : Program) (names : List (List ℕ)) (db : Database) (params : Row)
    → RefusesToRead limit (Select q names) db params (SqliteFailure DatabaseCorrupt) → ⊥
not_read limit q names db params (inl h) = let e = h.0 in cc
not_read limit q names db params (inr (inl h)) = let e = h.0 in cc
not_read limit q names db params (inr (inr h)) = let e = h.0 in cc

of_cause : (old new : State) (cause : StoreError) → SqliteFailure DatabaseCorrupt ≡ store_error cause → HasCause old new ⊥ cause → HasFailed old new
of_cause old new Corrupt e why = why
of_cause old new OutOfMemory e why = absurd cc
of_cause old new Io e why = absurd cc
of_cause old new Full e why = absurd cc
of_cause old new Broken e why = absurd cc
of_cause old new Unstorable e why = absurd cc

module _ (text : List ℕ) (schema : Schema) (params : Row) (q : Program) (names : List (List ℕ))
    (is : command_of (understood schema text) ≡ Select q names) (plain : IsPlain (understood schema text)) where
  -- so the disk has failed
  failed : (old new : State) → old.now.schema ≡ schema → FailsToQuery text params old new (SqliteFailure DatabaseCorrupt) → HasFailed old new
  unfolding FailsToQuery IsNotRun
  failed old new has (inl (inl h)) = absurd (no_text old text params h.0)
  failed old new has (inl (inr h)) = of_cause old new h.0 h.1 h.2
  failed old new has (inr h) =
      let known = sym h.1.is ∙ ap (λ s. understood s text) has in
      let none = (subst IsPlain (sym known) plain).0 in
      let full = timed params h.0.formats h.1.now in
      let it = subst (FailsToShow old new text h.0 full (SqliteFailure DatabaseCorrupt)) none h.2 in
      let command = ap command_of known ∙ is in
      let refused = subst (λ k. RefusesToRead old.step_limit k it.0 full (SqliteFailure DatabaseCorrupt)) command it.2 in
      absurd (not_read old.step_limit q names it.0 full refused)

  pub failed_err : (r : Result (Vec Row Global) Error) (old new : State) → old.now.schema ≡ schema → IfErr r (FailsToQuery text params old new)
      → IsCorrupt r → HasFailed old new
  failed_err r old new has h so = failed old new has (subst (λ r. IfErr r (FailsToQuery text params old new)) so h)

-- ---- the rows that a question shows

module _ {K X : Type 0} {R : K → K → Ordering} (o : IsTotalOrder R) (it : Shape K X) (asks : X → Bool) where
  -- those that pass are records that are asked for
  passing : (pass : Row → Bool) → ((r : Row) → IsStored it r → pass r ≡ asks (stored_in it r)) → (xs : List Row) → AllByRecursion (IsStored it) xs
      → AllByRecursion (λ r. IsAskedRow it asks (it.columns r)) (filter pass xs)
  passing pass passes [] h = tt
  passing pass passes (x ∷ xs) h = by (pass x) refl (passing pass passes xs h.1)
    where
      by : (b : Bool) → pass x ≡ b → AllByRecursion (λ r. IsAskedRow it asks (it.columns r)) (filter pass xs)
          → AllByRecursion (λ r. IsAskedRow it asks (it.columns r)) (cond b (x ∷ filter pass xs) (filter pass xs))
      by false is more = more
      by true is more = ((h.0, sym (passes x h.0) ∙ is), more)

  pub asked_each : (text : List ℕ) (schema : Schema) (tests project : List Term) (names : List (List ℕ)) (params : Row)
      → IsSelectText text schema it.tree tests project [] names → ((r : Row) → shows project params r ≡ it.columns r)
      → ((r : Row) → IsStored it r → passes_all params tests r ≡ asks (stored_in it r))
      → (old new : State) → old.now.schema ≡ schema → AllByRecursion (IsStored it) (old.now.trees it.tree)
      → (r : Result (Vec Row Global) Error) → IfOk r (λ rows. Shown text params old new rows.items)
      → IfOk r (λ rows. AllByRecursion (IsAskedRow it asks) rows.items)
  asked_each text schema tests project names params is columns passes old new has kept (Err e) h = tt
  asked_each text schema tests project names params is columns passes old new has kept (Ok rows) h =
      let all = filter (passes_all params tests) (old.now.trees it.tree) in
      let shown = shows_rows text schema it.tree tests project [] names params is old new rows.items has h in
      let moved = subst (λ xs. IsPermutation xs rows.items) (map_same (shows project params) it.columns columns all) shown in
      all-permutation (IsAskedRow it asks) (map it.columns all) rows.items moved
      (all-map (IsAskedRow it asks) it.columns all (passing (passes_all params tests) passes (old.now.trees it.tree) kept))

  -- of a question for one key they are one at most
  pub one_at_most : (key : K) → AsksFor it asks key → (rows : List Row) → AllByRecursion (IsAskedRow it asks) rows
      → IsDistinct (eq_by_cmp R) (shown_keys it rows) → AreOneAtMost it.is_row rows
  unfolding IsDistinct
  one_at_most key asked [] each once = tt
  one_at_most key asked (row ∷ []) each once = each.0.0
  one_at_most key asked (row ∷ more ∷ rows) each once =
      let its = it.key (it.row_in row) in
      let same = asked.only (it.row_in more) each.1.0.1 ∙ sym (asked.only (it.row_in row) each.0.1) in
      let tied : eq_by_cmp R its (it.key (it.row_in more)) ≡ true = ap (eq_by_cmp R its) same ∙ ap is_eq (tied_itself o its) in
      absurd (let apart = once.0.0 in cc)

-- of the greatest number there is one row at most
pub greatest_one : {X : Type 0} (it : Shape ℕ X) (all : List Row) → AllByRecursion (IsStored it) all → (rows : List Row) → IsGreatest it all rows
    → AreOneAtMost it.is_row rows
greatest_one it all stored [] top = tt
greatest_one it all stored (row ∷ []) top = subst (λ r. it.is_row r ≡ true) (sym top.2) (has_all (IsStored it) all top.0 stored top.1)
greatest_one it all stored (row ∷ more ∷ rows) top = top
