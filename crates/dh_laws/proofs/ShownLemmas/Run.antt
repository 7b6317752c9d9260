-- Keyed books that meet the rules show exactly one open run, or none: the one that is reckoned from their part rows.
use Rattle.std.proofs.Common.{◌≡◌, ◌∙◌, refl, sym, ap, subst, inl, inr, ℕ, ◌+◌, ◌≤◌, false, Option, Some, None, is_some, arith}
use Rattle.std.specs.FinMap.{get, values}
use Rattle.std.specs.Option.{option_map}
use Rattle.std.proofs.lemmas.Bool.{cases_lt}
use Rattle.dh_types.specs.declared.run.Run.{Run}
use Rattle.dh_model.specs.declared.open_run.OpenRun.{OpenRun}
use Rattle.dh_model.specs.Books.{Books}
use Rattle.dh_model.specs.Kinds.{Kind}
use Rattle.dh_model.specs.Rules.{ArePosted, MeetsRules, MonthIsOpen, MonthsInOrder, RunsInOrder}
use Rattle.dh_model.specs.Rules.Rule.{Months, Runs}
use Rattle.dh_model.specs.Whole.{IsOpenAt, batches_shown, open_row}
use Rattle.dh_model.proofs.Among.{Among, among, is_among}
use Rattle.dh_model.proofs.KeyOrders.{nat_ties, nat_total}
use Rattle.dh_model.proofs.MapRows.{inside}
use Rattle.dh_model.proofs.RunLemmas.{one_number_of_batches}
use Rattle.dh_laws.specs.InOrder.{AreKeyed}
use Rattle.dh_laws.specs.Shown.{OneRunIsShown, OpenRowIsFound, RunShownIsReckoned, SoundBooksAreLawfulWhole, SoundBooksShow}
use Rattle.dh_laws.proofs.MapMerges.{own_row}
use Rattle.dh_laws.proofs.MonthLemmas.Open.{run_within}
use Rattle.dh_laws.proofs.MonthLemmas.Shown.{all_closed, shown_row}
use Rattle.dh_laws.proofs.MonthLemmas.Whole.{whole_of}
use Rattle.dh_laws.proofs.ShownLemmas.Batches.{shown_are_done}

module _ (size : ℕ) (books : Books) (pos : 1 ≤ size) (keyed : AreKeyed books) (rules : MeetsRules books size) where
  abbrev at : ℕ → ℕ → OpenRun
  at month done = record { month = month; done = done }

  months : MonthsInOrder books size
  months = rules Months

  runs : RunsInOrder books
  runs = rules Runs

  -- the one row that is shown is at some number of batches
  under_way : (row : Run) → open_row books ≡ Some row → MonthIsOpen books size row
  under_way row shown = let is = shown_row books row shown in months.under_way row (is_among (values books.runs) row is.0) is.1

  -- and at no other
  only : (row : Run) (done : ℕ) → open_row books ≡ Some row → ArePosted books size row.month done → (other : Option OpenRun) → IsOpenAt size books other
      → other ≡ Some (at row.month done)
  only row done shown posted None none = let apart : None ≡ Some row = sym none ∙ shown in cc
  only row done shown posted (Some other) is =
      let row_is : is.0 ≡ row = inside is.0 row (sym is.1 ∙ shown) in
      let month_is : other.month ≡ row.month = sym is.2 ∙ ap (λ (r : Run). r.month) row_is in
      let theirs : ArePosted books size row.month other.done = subst (λ month. ArePosted books size month other.done) month_is is.3 in
      let done_is : other.done ≡ done = one_number_of_batches size books row.month other.done done pos (keyed Kind.Leases) theirs posted in
      λ i. Some (record { month = month_is i; done = done_is i })

  own : (row : Run) → Among (values books.runs) row → get books.runs row.month ≡ Some row
  own row a = own_row nat_total nat_ties (λ (run : Run). run.month) books.runs (keyed Kind.Runs) row a

  -- a row that is open is of the month before the next
  last : (row : Run) → Among (values books.runs) row → row.is_closed ≡ false → row.month + 1 ≡ books.next
  last row a is_open =
      let within = run_within books (keyed Kind.Runs) runs row a in
      elim (cases_lt (row.month + 1) books.next) [
        | inl earlier ↦ let closed = runs.closed row (is_among (values books.runs) row a) earlier in absurd (cc)
        | inr latest ↦ omega (arith, within.1, latest)
      ]

  -- so no two are open
  same_row : (row other : Run) → Among (values books.runs) row → row.is_closed ≡ false → Among (values books.runs) other → other.is_closed ≡ false → row ≡ other
  same_row row other a is_open b also =
      let row_last = last row a is_open in
      let other_last = last other b also in
      let month_is : row.month ≡ other.month = omega (arith, row_last, other_last) in
      inside row other (sym (own row a) ∙ ap (get books.runs) month_is ∙ own other b)

  -- an open row is the one that is shown
  shown_is : (row : Run) → Among (values books.runs) row → row.is_closed ≡ false → (found : Option Run) → open_row books ≡ found → open_row books ≡ Some row
  shown_is row a is_open None none = let closed = all_closed books none row a in absurd (cc)
  shown_is row a is_open (Some other) shown =
      let is = shown_row books other shown in
      shown ∙ ap (λ (r : Run). Some r) (same_row other row is.0 is.1 a is_open)

  abbrev Shows : Option Run → Type 0
  Shows found = (run : Option OpenRun) × IsOpenAt size books run × (is_some run ≡ is_some found)
      × ((other : Option OpenRun) → IsOpenAt size books other → other ≡ run)

  only_none : open_row books ≡ None → (other : Option OpenRun) → IsOpenAt size books other → other ≡ None
  only_none none None is = refl
  only_none none (Some other) is = let apart : None ≡ Some is.0 = sym none ∙ is.1 in cc

  shows : (found : Option Run) → open_row books ≡ found → Shows found
  shows None none = (None, none, refl, only_none none)
  shows (Some row) shown =
      let way = under_way row shown in
      (Some (at row.month way.done), (row, shown, refl, way.posted), refl, only row way.done shown way.posted)

  found_at : (row : Run) → open_row books ≡ Some row
      → (done : ℕ) × IsOpenAt size books (Some (at row.month done)) × ((other : Option OpenRun) → IsOpenAt size books other → other ≡ Some (at row.month done))
  found_at row shown =
      let way = under_way row shown in
      (way.done, (row, shown, refl, way.posted), only row way.done shown way.posted)

pub one_run_is_shown : (size : ℕ) → OneRunIsShown size
one_run_is_shown size books pos keyed rules = shows size books pos keyed rules (open_row books) refl

pub open_row_is_found : (size : ℕ) → OpenRowIsFound size
open_row_is_found size books row pos keyed rules a is_open =
    found_at size books pos keyed rules row (shown_is size books pos keyed rules row (among (values books.runs) row a) is_open (open_row books) refl)

pub sound_books_are_lawful_whole : (size : ℕ) → SoundBooksAreLawfulWhole size
sound_books_are_lawful_whole size books pos keyed rules = whole_of size books pos keyed rules (open_row books) refl

-- the run as it is reckoned from the part rows of its row's month
abbrev reckoned_at : ℕ → Books → Run → OpenRun
reckoned_at size books row = record { month = row.month; done = batches_shown size books row.month }

pub run_shown_is_reckoned : (size : ℕ) → RunShownIsReckoned size
run_shown_is_reckoned size books None pos keyed none = ap (option_map (reckoned_at size books)) none
run_shown_is_reckoned size books (Some at) pos keyed is =
    let row : Run = is.0 in
    let all = shown_are_done size books at.month at.done pos (keyed Kind.Leases) (keyed Kind.Parts) is.3 in
    let month_is : row.month ≡ at.month = is.2 in
    let done_is : batches_shown size books row.month ≡ at.done = ap (batches_shown size books) month_is ∙ all in
    let own : Some (reckoned_at size books row) ≡ Some at = λ i. Some (record { month = month_is i; done = done_is i }) in
    ap (option_map (reckoned_at size books)) is.1 ∙ own

pub sound_books_show : (size : ℕ) → SoundBooksShow size
sound_books_show size books pos keyed rules =
    let one = one_run_is_shown size books pos keyed rules in
    subst (λ run. IsOpenAt size books run) (sym (run_shown_is_reckoned size books one.0 pos keyed one.1)) one.1
