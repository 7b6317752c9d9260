-- Tables that show no open run.
use Rattle.std.proofs.Common.{◌≡◌, ◌∙◌, sym, ap, subst, ℕ, not, List, [], map, None}
use Rattle.std.specs.Ordering.{nat_cmp}
use Rattle.std.specs.List.{find}
use Rattle.std.specs.FinMap.{FinMap, empty, entries, len-empty, len-entries}
use Rattle.dh_types.specs.declared.run.Run.{Run}
use Rattle.dh_model.specs.Books.{Books}
use Rattle.dh_model.specs.Whole.{IsOpenAt, completed, whole}
use Rattle.dh_laws.specs.Events.{IsShown, Tables}
use Rattle.dh_laws.specs.Lives.{EmptyTablesAreShown}
use Rattle.dh_laws.proofs.InvariantLemmas.EmptyBooks.{none_left}

module _ (size : ℕ) where
  whole_itself : (t : Tables) → t.run ≡ None → IsShown size t → whole size t.books ≡ t.books
  whole_itself t none shown = let closed : IsOpenAt size t.books None = subst (λ run. IsOpenAt size t.books run) none shown in
      ap (completed size t.books) closed

  -- tables that a recovery made of whole books are these
  pub recovered_whole : (t : Tables) (books : Books) → t ≡ record { books = books; run = None } → IsShown size t → whole size t.books ≡ books
  recovered_whole t books is shown = whole_itself t (ap (λ (u : Tables). u.run) is) shown ∙ ap (λ (u : Tables). u.books) is

pub empty_tables_are_shown : (size : ℕ) → EmptyTablesAreShown size
empty_tables_are_shown size month =
    let runs : FinMap nat_cmp Run = empty in
    let none : entries runs ≡ [] = none_left (entries runs) (sym (len-entries runs) ∙ len-empty nat_cmp Run) in
    ap (λ (rows : List (ℕ × Run)). find (λ (run : Run). not run.is_closed) (map (λ (row : ℕ × Run). row.1) rows)) none
