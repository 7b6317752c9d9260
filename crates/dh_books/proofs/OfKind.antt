-- What books in memory find, list, put and change, for each kind of record.
use Rattle.std.proofs.Common.{◌≡◌, ◌∙◌, sym, ap, Bool, cond, List, map, Option, Some, None}
use Rattle.std.specs.BTreeMap.{is_at}
use Rattle.std.specs.List.{filter}
use Rattle.std.specs.List.Sorted.{IsStrictlySortedBy}
use Rattle.std.specs.Map.{keys_of, lookup}
use Rattle.std.specs.FinMap.{FinMap, entries, from_entries, get, insert, values}
use Rattle.dh_model.specs.Books.{State}
use Rattle.dh_model.specs.Edits.{updated}
use Rattle.dh_model.specs.Kinds.{Kind, key_of, order_of, record_of, records_of, with_records}
use Rattle.dh_model.specs.Whole.{rows_where}
use Rattle.dh_model.proofs.KindOrders.{ties_of, total_of}
use Rattle.dh_model.proofs.MapLemmas.{entries-made, get-made, one-given}
use Rattle.dh_books.specs.Seen.{state_of}
use Rattle.dh_books.specs.declared.books.Books.TheInside.{Inside}

-- books whose rows of the kind are these entries
module _ (kind : Kind) (b : Inside) {now : State} (view : state_of b ≡ now) (es : List (key_of kind × record_of kind))
    (held : records_of kind (state_of b).books ≡ from_entries {R = order_of kind} es) where
  abbrev pub with_rows : FinMap (order_of kind) (record_of kind) → State → State
  with_rows rows s = record s { books = with_records kind rows s.books }

  pub got : (key : key_of kind) {found : Option (record_of kind)} → found ≡ lookup (is_at (order_of kind key)) es
      → found ≡ get (records_of kind now.books) key
  got key is =
      is ∙ sym (ap (λ rows. get rows key) held ∙ get-made (total_of kind) es key) ∙ ap (λ (s : State). get (records_of kind s.books) key) view

  made : IsStrictlySortedBy (order_of kind) (keys_of es) → es ≡ entries (records_of kind (state_of b).books)
  made sorted = sym (ap entries held ∙ entries-made (total_of kind) es sorted)

  pub entries_are : IsStrictlySortedBy (order_of kind) (keys_of es) → es ≡ entries (records_of kind now.books)
  entries_are sorted = made sorted ∙ ap (λ (s : State). entries (records_of kind s.books)) view

  pub listed : {rows : List (record_of kind)} → IsStrictlySortedBy (order_of kind) (keys_of es) → rows ≡ map (λ e. e.1) es
      → rows ≡ values (records_of kind now.books)
  listed sorted is = is ∙ ap (map (λ e. e.1)) (entries_are sorted)

  module _ (key : key_of kind) (row : record_of kind) (fs : List (key_of kind × record_of kind))
      (writes : (q : key_of kind) → lookup (is_at (order_of kind q)) fs
      ≡ cond (is_at (order_of kind key) q) (Some row) (lookup (is_at (order_of kind q)) es)) where
    pub put : with_rows (from_entries fs) (state_of b) ≡ with_rows (insert (records_of kind now.books) key row) now
    put =
        ap (λ rows. with_rows rows (state_of b)) (one-given (total_of kind) (ties_of kind) es fs key row writes ∙ ap (λ rows. insert rows key row) (sym held))
        ∙ ap (λ (s : State). with_rows (insert (records_of kind s.books) key row) s) view

    -- in the place of one that was there
    pub put_for : (into : record_of kind → record_of kind) {was : record_of kind} → Some was ≡ lookup (is_at (order_of kind key)) es → row ≡ into was
        → with_rows (from_entries fs) (state_of b) ≡ record now { books = updated kind key into now.books (get (records_of kind now.books) key) }
    put_for into there turned =
        put ∙ ap (λ row. with_rows (insert (records_of kind now.books) key row) now) turned
        ∙ ap (λ found. let s : State = record now { books = updated kind key into now.books found } in s) (got key there)

  -- nothing changes where there is none
  pub none_there : (key : key_of kind) (into : record_of kind → record_of kind) → None ≡ lookup (is_at (order_of kind key)) es
      → state_of b ≡ record now { books = updated kind key into now.books (get (records_of kind now.books) key) }
  none_there key into none = view ∙ ap (λ found. let s : State = record now { books = updated kind key into now.books found } in s) (got key none)

  -- the rows that pass a test
  module _ (test : record_of kind → Bool) {fs : List (key_of kind × record_of kind)} (sorted : IsStrictlySortedBy (order_of kind) (keys_of es))
      (is : fs ≡ filter (λ e. test e.1) es) where
    pub passing : from_entries {R = order_of kind} fs ≡ rows_where test (records_of kind (state_of b).books)
    passing = ap (from_entries {R = order_of kind}) (is ∙ ap (filter (λ e. test e.1)) (made sorted))

    pub kept_where : with_rows (from_entries fs) (state_of b) ≡ with_rows (rows_where test (records_of kind now.books)) now
    kept_where = ap (λ rows. with_rows rows (state_of b)) passing
        ∙ ap (λ (s : State). with_rows (rows_where test (records_of kind s.books)) s) view
