-- What an UPDATE of the row of one key does, for any table.
use Rattle.std.proofs.Common.{◌≡◌, ◌∙◌, refl, sym, ap, subst, ℕ, List, [], ◌∷◌, map, drop, true, false, not, Some, Ok, IsPermutation}
use Rattle.std.specs.declared.cmp.Ordering.{Ordering}
use Rattle.std.specs.List.{AllByRecursion, filter}
use Rattle.std.specs.Cmp.{IsTotalOrder}
use Rattle.std.specs.FinMap.{IsAntisymmetric, get, insert}
use Rattle.sqlite.specs.declared.types.Value.TheVariants.{Null}
use Rattle.sqlite_value.specs.Order.{Row}
use Rattle.sqlite_schema.specs.declared.program.Program.{Program}
use Rattle.sqlite_schema.specs.declared.schema.Schema.{Schema}
use Rattle.sqlite_rules.specs.Calls.{ids_of}
use Rattle.sqlite_rules.specs.Lists.{Has}
use Rattle.sqlite_trees.specs.View.{is_int}
use Rattle.sqlite.specs.Cast.{cast_row}
use Rattle.sqlite.specs.Edit.{are_fresh, id_in, numbered, put_all, without_all}
use Rattle.sqlite.specs.Rowids.TheVariants.{Given}
use Rattle.sqlite.specs.Command.TheVariants.{Update}
use Rattle.sqlite.specs.Listing.{understood}
use Rattle.sqlite.specs.Program.{overlay}
use Rattle.sqlite.specs.State.{State, Executes}
use Rattle.sqlite.specs.Table.{Table}
use Rattle.sqlite.specs.Term.{Term}
use Rattle.sqlite.specs.Tree.{has_rowid, put_row, rowid}
use Rattle.sqlite.proofs.Callers.{runs_as, statement_of}
use Rattle.dh_sql.specs.Changes.{Becomes, IsTurnedInto}
use Rattle.dh_sql.specs.Queries.{passes_all, plain_query, shows}
use Rattle.dh_sql.specs.Shape.{AreApart, IsKept, IsStored, Shape, rows_in, stored_in}
use Rattle.dh_sql.specs.Texts.{IsQuiet, IsUpdateText}
use Rattle.dh_sql.proofs.Apart.{apart_with}
use Rattle.dh_sql.proofs.Found.{keyed_rows}
use Rattle.dh_sql.proofs.Lists.{has_all}
use Rattle.dh_sql.proofs.Reading.{plain_rows}
use Rattle.dh_sql.proofs.Staying.{others_stay}
use Rattle.dh_sql.proofs.Updating.{apart_among, kept_after, only_row, others_apart, others_own, own, updated, was, is}
use Rattle.dh_sql.proofs.Writing.{updates}

as_given : (rows xs : List Row) → numbered Given rows xs ≡ xs
as_given rows [] = refl
as_given rows (x ∷ xs) = ap (λ ys. x ∷ ys) (as_given (put_row x rows) xs)

module _ {K X : Type 0} {R : K → K → Ordering} (o : IsTotalOrder R) (anti : IsAntisymmetric R) (shape : Shape K X) (text : List ℕ) (schema : Schema)
    (quiet : IsQuiet schema) (at : ℕ) (t : Table) (tests project : List Term) (means : IsUpdateText text schema at t tests project) where
  abbrev it : Shape K X
  it = record shape { tree = t.tree }

  -- the row that a row becomes
  abbrev pub after : Row → Row → Row
  after params r = drop 1 (shows project params r)

  module _ (old new : State) (params : Row) (count : ℕ) (k : K) (x y : X) (has : old.now.schema ≡ schema) (kept : IsKept it R old.now.trees)
      (apart : AreApart (old.now.trees t.tree))
      (passing : (r : Row) → Has (old.now.trees t.tree) r
      → (passes_all params tests r ≡ true → it.key (stored_in it r) ≡ k) × (it.key (stored_in it r) ≡ k → passes_all params tests r ≡ true))
      (keeps : (r : Row) → rowid (shows project params r) ≡ rowid r)
      (turns : (r : Row) → IsStored it r → is_int (rowid r) ≡ true → stored_in it r ≡ x → IsTurnedInto it t r (after params r) y) where
    -- the record under the key is another, and all else is as it was
    pub changes : get (rows_in it {R = R} old.now.trees) k ≡ Some x → it.key y ≡ k → Executes text params old new (Ok count)
        → Becomes it R schema (insert (rows_in it old.now.trees) k y) old new
    changes there same h =
        let program : Program = record { lets = []; body = plain_query t.tree tests project [] } in
        let w = runs_as text params old new schema has (Update at program) means.command means.plain count h in
        let did = updates schema quiet at t means.listed old new has (statement_of text (understood schema text)) params count program w in
        let rows = old.now.trees t.tree in
        let answer = did.shown in
        let finds = passes_all params tests in
        let shown = shows project params in
        let first = plain_rows Null t.tree tests project [] (overlay old.now.trees []) params answer (did.answer.answer Null) in
        let found : IsPermutation (map shown (filter finds rows)) answer =
        subst (λ all. IsPermutation (map shown (filter finds all)) answer) (means.stored old.now.trees) first in
        let only = only_row o anti it old.now.trees kept finds k passing x there in
        let r = only.0 in
        let left = without_all rows (ids_of answer) in
        let news = map (λ s. cast_row t (drop 1 s)) answer in
        let alike : numbered Given left news ≡ news = as_given left news in
        let fresh : are_fresh left news ≡ true = subst (λ ns. are_fresh left ns ≡ true) alike did.applied.fresh in
        let tree : new.now.trees t.tree ≡ put_all left news = did.applied.rows ∙ ap (put_all left) alike in
        let before = was t rows answer finds shown found keeps kept.rowids apart r only.1 in
        let behind = subst (IsPermutation _) (sym tree) (is t rows answer finds shown found keeps kept.rowids apart r only.1 fresh) in
        let rowid_r = own t rows answer finds shown found keeps kept.rowids apart r only.1 in
        let key = keyed_rows o anti it old.now.trees k x there in
        let turned = turns r only.3 rowid_r only.2 in
        let s = cast_row t (after params r) in
        let at_s : rowid s ≡ rowid r = ap rowid turned.stays ∙ turned.rowid_is in
        let record_is : stored_in it s ≡ y = ap (stored_in it) turned.stays ∙ turned.record_is in
        let grammar : IsStored it s = subst (IsStored it) (sym turned.stays) turned.grammar in
        let keyed : is_int (rowid s) ≡ true = ap is_int at_s ∙ rowid_r in
        let rest = filter (λ s. not (finds s)) rows in
        let free = subst (λ v. AllByRecursion (λ z. has_rowid (id_in v) z ≡ false) rest) (sym at_s)
        (others_apart t rows answer finds shown found keeps kept.rowids apart r only.1) in
        let ints = others_own t rows answer finds shown found keeps kept.rowids apart r only.1 in
        let among = apart_among t rows answer finds shown found keeps kept.rowids apart r only.1 in
        let put = updated o anti it old.now.trees kept new.now.trees r s x y rest before behind only.2 record_is (key ∙ sym same) in
        record {
          schema_is = did.schema_is;
          listed = did.listed;
          rows = subst (λ q. rows_in it {R = R} new.now.trees ≡ insert (rows_in it old.now.trees) q y) same put;
          kept = kept_after o anti it old.now.trees kept new.now.trees r s x y rest before behind only.2 record_is (key ∙ sym same) grammar keyed;
          apart = λ _. apart_with rest (new.now.trees t.tree) s behind keyed ints free among;
          others = others_stay schema t.tree old.now.trees new.now.trees did.applied.tables;
        }

  -- the same, of a shape whose tree is that of the table
  pub amends : t.tree ≡ shape.tree → (old new : State) (params : Row) (count : ℕ) (k : K) (x y : X) → old.now.schema ≡ schema → IsKept shape R old.now.trees
      → AreApart (old.now.trees shape.tree)
      → ((r : Row) → IsStored shape r
      → (passes_all params tests r ≡ true → shape.key (stored_in shape r) ≡ k) × (shape.key (stored_in shape r) ≡ k → passes_all params tests r ≡ true))
      → ((r : Row) → rowid (shows project params r) ≡ rowid r)
      → ((r : Row) → IsStored shape r → is_int (rowid r) ≡ true → stored_in shape r ≡ x → IsTurnedInto shape t r (after params r) y)
      → get (rows_in shape {R = R} old.now.trees) k ≡ Some x → shape.key y ≡ k → Executes text params old new (Ok count)
      → Becomes shape R schema (insert (rows_in shape old.now.trees) k y) old new
  amends tree_is old new params count k x y has =
      let placed : ℕ → Shape K X = λ n. record shape { tree = n } in
      subst (λ n. IsKept (placed n) R old.now.trees → AreApart (old.now.trees n)
      → ((r : Row) → IsStored (placed n) r
      → (passes_all params tests r ≡ true → shape.key (stored_in shape r) ≡ k) × (shape.key (stored_in shape r) ≡ k → passes_all params tests r ≡ true))
      → ((r : Row) → rowid (shows project params r) ≡ rowid r)
      → ((r : Row) → IsStored (placed n) r → is_int (rowid r) ≡ true → stored_in (placed n) r ≡ x → IsTurnedInto (placed n) t r (after params r) y)
      → get (rows_in (placed n) {R = R} old.now.trees) k ≡ Some x → shape.key y ≡ k → Executes text params old new (Ok count)
      → Becomes (placed n) R schema (insert (rows_in (placed n) old.now.trees) k y) old new) tree_is
      (λ kept apart finds keeps turns there same h.
      let passing = λ (r : Row) (at : Has (old.now.trees t.tree) r). finds r (has_all (IsStored it) (old.now.trees t.tree) r kept.values at) in
      changes old new params count k x y has kept apart passing keeps turns there same h)
