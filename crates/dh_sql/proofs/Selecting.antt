-- What a SELECT of the rows of a table that pass its WHERE shows.
use Rattle.std.proofs.Common.{◌≡◌, ◌⊎◌, inl, inr, ℕ, List, [], map, IfErr, OnErr, IfOk, OnOk, Ok, Err, Result, subst, IsPermutation, arith}
use Rattle.std.specs.List.{filter}
use Rattle.std.specs.declared.alloc.Global.{Global}
use Rattle.std.specs.Prelude.{Vec}
use Rattle.sqlite_value.specs.declared.keys.Key.{Key}
use Rattle.sqlite.specs.declared.types.Value.TheVariants.{Null}
use Rattle.sqlite.specs.Order.{Row}
use Rattle.sqlite.specs.Term.{Term}
use Rattle.sqlite.specs.Program.{overlay}
use Rattle.sqlite.specs.Schema.{Schema}
use Rattle.sqlite.specs.State.{State, Survives, Shown, ShowsRows, IsUnchanged, IsRolledBack, FailsToQuery, IsNotRun, FailsToShow, CommitsShowing, HasCleanDisk}
use Rattle.sqlite.specs.declared.error.Error.{Error}
use Rattle.sqlite.specs.Listing.{understood}
use Rattle.sqlite.proofs.StateLemmas.{survives_weaker}
use Rattle.sqlite.proofs.Callers.{reads_as, never_commits, IsPlain}
use Rattle.dh_sql.specs.Queries.{passes_all, shows}
use Rattle.dh_sql.specs.Texts.{IsSelectText}
use Rattle.dh_sql.proofs.Reading.{plain_rows}

-- a query with no RETURNING that fails changes nothing, or ends the transaction
fails_whole : (sql : List ℕ) (params : Row) (old new : State) (e : Error) → IsPlain (understood old.now.schema sql) → FailsToQuery sql params old new e
    → IsUnchanged old new ⊎ IsRolledBack old new
unfolding FailsToQuery IsNotRun
fails_whole sql params old new e plain (inl (inl refused)) = inl refused.1
fails_whole sql params old new e plain (inl (inr failed)) = inr failed.3
fails_whole sql params old new e plain (inr h) =
    let none = (subst IsPlain h.1.is plain).0 in
    inl (subst (FailsToShow old new sql h.0 _ e) none h.2).3

-- a query with no RETURNING changes nothing
same : (sql : List ℕ) (params : Row) (old new : State) (rows : List Row) → IsPlain (understood old.now.schema sql) → Shown sql params old new rows
    → IsUnchanged old new
unfolding Shown
same sql params old new rows plain h =
    let none = (subst IsPlain h.1.is plain).0 in
    (subst (ShowsRows old new sql h.0 _ rows) none h.2).3

-- and commits nothing
pub commits_none : (text : List ℕ) (params : Row) (old new : State) → (HasCleanDisk old → IsPlain (understood old.now.schema text))
    → Survives old new (CommitsShowing text params old) → Survives old new (λ _. ⊥)
commits_none text params old new plain s =
    survives_weaker old new _ _ (λ clean db. never_commits text params old db (plain (omega (arith, s.clean, clean)))) s

-- what holds of any query with no RETURNING
module _ (text : List ℕ) (schema : Schema) (params : Row) (plain : IsPlain (understood schema text)) where
  plain_at : (old : State) → old.now.schema ≡ schema → IsPlain (understood old.now.schema text)
  plain_at old has = rw has plain

  module _ (r : Result (Vec Row Global) Error) (old new : State) where
    pub plain_same : old.now.schema ≡ schema → IfOk r (λ rows. Shown text params old new rows.items) → OnOk r (IsUnchanged old new)
    plain_same has h = by r h
      where
        by : (r : Result (Vec Row Global) Error) → IfOk r (λ rows. Shown text params old new rows.items) → OnOk r (IsUnchanged old new)
        by (Err e) h = tt
        by (Ok rows) h = same text params old new rows.items (plain_at old has) h

    pub plain_undone : old.now.schema ≡ schema → IfErr r (FailsToQuery text params old new) → OnErr r (IsUnchanged old new ⊎ IsRolledBack old new)
    plain_undone has h = by r h
      where
        by : (r : Result (Vec Row Global) Error) → IfErr r (FailsToQuery text params old new) → OnErr r (IsUnchanged old new ⊎ IsRolledBack old new)
        by (Ok rows) h = tt
        by (Err e) h = fails_whole text params old new e (plain_at old has) h

module _ (text : List ℕ) (schema : Schema) (tree : ℕ) (tests project : List Term) (order : List (Term × Key)) (names : List (List ℕ)) (params : Row)
    (is : IsSelectText text schema tree tests project order names) where
  -- the rows that pass, in some order
  pub shows_rows : (old new : State) (rows : List Row) → old.now.schema ≡ schema → Shown text params old new rows
      → IsPermutation (map (shows project params) (filter (passes_all params tests) (old.now.trees tree))) rows
  shows_rows old new rows has h =
      let got = reads_as text params old new schema has _ is.command is.plain is.unlisted rows h in
      let found = plain_rows Null tree tests project order (overlay old.now.trees []) params rows (got.answer Null) in
      subst (λ all. IsPermutation (map (shows project params) (filter (passes_all params tests) all)) rows) (is.stored old.now.trees) found
