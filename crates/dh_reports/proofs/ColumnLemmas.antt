-- The columns of a line, one after the other.
use Rattle.std.proofs.Common.{◌≡◌, ◌∙◌, ℕ, ◌+◌, ◌<◌, ◌≤◌, Option, List, [], ◌∷◌, ◌++◌, length, drop, map, get_or, drop-cons, add-one, refl, sym, ap}
use Rattle.std.proofs.Common.{subst, append_assoc, append-nil}
use Rattle.std.specs.Io.KnownBytes.{Appends}
use Rattle.std.specs.List.{join_with_byte}
use Rattle.std.proofs.lemmas.List.{drop_all}
use Rattle.dh_types.specs.Output.{BreaksOff}
use Rattle.dh_types.proofs.WritingLemmas.{Written, written-start, written-part, written-part_front}
use Rattle.dh_reports.specs.declared.columns.Column.{Column}
use Rattle.dh_reports.specs.Columns.{column_text, line}

-- what is left of a line: a parting before the next column, spaces before the others, and the end of the line
abbrev pub ahead : List ℕ → List (List ℕ) → List ℕ
ahead parting [] = 10 ∷ []
ahead parting (column ∷ columns) = parting ++ column ++ ahead (32 ∷ []) columns

ahead_is : (columns : List (List ℕ)) → ahead [] columns ≡ line columns
ahead_is [] = refl
ahead_is (x ∷ []) = refl
ahead_is (x ∷ y ∷ xs) =
    ap (λ t. x ++ 32 ∷ t) (ahead_is (y ∷ xs)) ∙ sym (append_assoc x (32 ∷ join_with_byte 32 (y ∷ xs)) (10 ∷ []))

pub columns-start : (a : Option (List ℕ)) (columns : List Column) → Written a a (line (map column_text columns)) (ahead [] (map column_text columns))
columns-start a columns =
    let text = map column_text columns in
    subst (Written a a (line text)) (sym (ahead_is text)) (written-start a (line text))

column-next : (parting : List ℕ) (columns : List Column) (i : ℕ) (d : Column) → i < length columns
    → ahead parting (map column_text (drop i columns))
    ≡ (parting ++ column_text (get_or columns i d)) ++ ahead (32 ∷ []) (map column_text (drop (i + 1) columns))
column-next parting columns i d h = rw (add-one, drop-cons columns i d) refl

-- a column as it is put
abbrev pub put_column : List ℕ → Column → List ℕ
put_column parting column = parting ++ (column.before.now ++ (column.text.now ++ (column.behind.now ++ [])))

put_column_is : (parting : List ℕ) (column : Column) → put_column parting column ≡ parting ++ column_text column
put_column_is parting column =
    ap (λ t. parting ++ (column.before.now ++ (column.text.now ++ t))) (append-nil column.behind.now)
    ∙ ap (λ t. parting ++ t) (sym (append_assoc column.before.now column.text.now column.behind.now))

module _ (a b c : Option (List ℕ)) (text parting : List ℕ) (columns : List Column) (i : ℕ) (d : Column) (here : i < length columns) where
  next : Written a b text (ahead parting (map column_text (drop i columns)))
      → Written a b text (put_column parting (get_or columns i d) ++ ahead (32 ∷ []) (map column_text (drop (i + 1) columns)))
  next w =
      let rest = ahead (32 ∷ []) (map column_text (drop (i + 1) columns)) in
      subst (Written a b text) (ap (λ (t : List ℕ). t ++ rest) (sym (put_column_is parting (get_or columns i d))))
      (rw (column-next parting columns i d here) at w)

  pub columns-more : Written a b text (ahead parting (map column_text (drop i columns))) → Appends b c (put_column parting (get_or columns i d))
      → Written a c text (ahead (32 ∷ []) (map column_text (drop (i + 1) columns)))
  columns-more w h = written-part a b c text (put_column parting (get_or columns i d)) _ (next w) h

  pub columns-front : Written a b text (ahead parting (map column_text (drop i columns)))
      → BreaksOff b c (put_column parting (get_or columns i d)) → BreaksOff a c text
  columns-front w h = written-part_front a b c text (put_column parting (get_or columns i d)) _ (next w) h

-- behind the last column the line ends
pub columns-done : (a b : Option (List ℕ)) (text parting : List ℕ) (columns : List Column) (i : ℕ) → length columns ≤ i
    → Written a b text (ahead parting (map column_text (drop i columns))) → Written a b text (10 ∷ [])
columns-done a b text parting columns i h w = rw (drop_all i columns h) at w
