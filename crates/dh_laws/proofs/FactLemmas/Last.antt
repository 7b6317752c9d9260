-- The last receipt, and the last run.
use Rattle.std.proofs.Common.{◌≡◌, ◌∙◌, ◌≤◌, ◌<◌, ◌+◌, ◌-◌, refl, sym, ap, subst, ℕ, true, false, List, [], ◌∷◌, length, Option, Some, None, inl, inr}
use Rattle.std.proofs.Common.{if◌then◌else◌, option_map, Less, arith}
use Rattle.std.specs.Ordering.{nat_cmp}
use Rattle.std.specs.Cmp.{ranked}
use Rattle.std.specs.FinMap.{entries, get, get-entries, is_sorted, len, len-entries}
use Rattle.std.specs.FinMap.Entries.{below_all}
use Rattle.std.proofs.lemmas.Bool.{and_parts}
use Rattle.dh_types.specs.declared.lease.Receipt.{Receipt}
use Rattle.dh_types.specs.declared.run.Run.{Run}
use Rattle.dh_model.specs.declared.open_run.OpenRun.{OpenRun}
use Rattle.dh_model.specs.Books.{Books}
use Rattle.dh_model.specs.Kinds.{Kind}
use Rattle.dh_model.specs.Rules.{KeysInOrder, RunsInOrder}
use Rattle.dh_model.specs.Whole.{IsOpenAt, open_row}
use Rattle.dh_model.proofs.Among.{Among}
use Rattle.dh_model.proofs.KeyOrders.{nat_ties, nat_total}
use Rattle.dh_model.proofs.MapRows.{below_at, each_got, is_less, of_row, sorted, there}
use Rattle.dh_laws.specs.InOrder.{AreKeyed}
use Rattle.dh_laws.specs.Looks.{IsLast, LastNumberIsCount, OpenMonthIsLast, OpenRunIsLast, last_open, month_open, number_of, unless_closed}
use Rattle.dh_laws.proofs.MapMerges.{own_row}
use Rattle.dh_laws.proofs.MonthLemmas.Shown.{all_closed, shown_row}
use Rattle.dh_model.proofs.BranchDues.{entry_found}

-- ---- receipts are numbered without a gap

module _ {X : Type 0} where
  -- keys that rise within bounds are no more than fit between
  bounded : (low high : ℕ) (es : List (ℕ × X)) → low ≤ high → is_sorted nat_cmp es ≡ true → ((e : ℕ × X) → Among es e → (low < e.0) × (e.0 ≤ high))
      → low + length es ≤ high
  bounded low high [] fits rise within = omega (arith, fits)
  bounded low high (e ∷ es) fits rise within =
      let parts = and_parts (below_all nat_cmp e.0 es) (is_sorted nat_cmp es) rise in
      let here = within e (inl refl) in
      let above : (f : ℕ × X) → Among es f → e.0 < f.0
      = λ f a. ranked e.0 f.0 Less (sym (is_less (nat_cmp e.0 f.0) (below_at nat_total nat_ties e.0 es f parts.0 a))) in
      let more = bounded e.0 high es here.1 parts.1 (λ f a. (above f a, (within f (inr a)).1)) in
      omega (arith, here.0, more)

module _ (books : Books) (keyed : AreKeyed books) (rule : KeysInOrder books) where
  numbered : (number : ℕ) (it : Receipt) → get books.receipts number ≡ Some it → (1 ≤ number) × (number ≤ len books.receipts)
  numbered number it is =
      subst (λ n. (1 ≤ n) × (n ≤ len books.receipts)) (keyed Kind.Receipts number it is)
      (each_got nat_total nat_ties books.receipts (λ r. (1 ≤ r.number) × (r.number ≤ len books.receipts)) rule.numbers number it is)

  got : (e : ℕ × Receipt) → Among (entries books.receipts) e → get books.receipts e.0 ≡ Some e.1
  got e a = get-entries books.receipts e.0 ∙ entry_found nat_cmp nat_total (entries books.receipts) e (sorted nat_total nat_ties books.receipts) a

  -- where no number is greater, there are no more
  no_more : (last : ℕ) → ((number : ℕ) (it : Receipt) → get books.receipts number ≡ Some it → number ≤ last) → len books.receipts ≤ last
  no_more last greatest =
      let few : 0 + length (entries books.receipts) ≤ last
      = bounded 0 last (entries books.receipts) (omega arith) (sorted nat_total nat_ties books.receipts)
      (λ e a. (omega (arith, (numbered e.0 e.1 (got e a)).0), greatest e.0 e.1 (got e a))) in
      omega (arith, len-entries books.receipts, few)

  count_of : (last : Option Receipt) → IsLast books.receipts last → len books.receipts ≡ number_of last
  count_of None none =
      let few = no_more 0 (λ number it is. let no = none number in cc) in
      omega (arith, few)
  count_of (Some last) is =
      let few = no_more last.number is.1 in
      let many = (numbered last.number last is.0).1 in
      omega (arith, few, many)

pub last_number_is_count : LastNumberIsCount
last_number_is_count books last keyed rule is = count_of books keyed rule last is

-- ---- only the last run can be open

module _ (books : Books) (keyed : AreKeyed books) (rule : RunsInOrder books) where
  before_next : (row : Run) → get books.runs row.month ≡ Some row → row.is_closed ≡ false → row.month + 1 ≡ books.next
  before_next row is shut =
      let within = (rule.run row.month).0 ((there nat_total nat_ties books.runs row.month).1 (row, is)) in
      let late : ¬ (row.month + 1 < books.next)
      = λ early.
      let closed = each_got nat_total nat_ties books.runs (λ (r : Run). r.month + 1 < books.next → r.is_closed ≡ true) rule.closed row.month row is early in
      cc in
      omega (arith, within.1, late)

  closed_there : (found : Option Run) → ((row : Run) → found ≡ Some row → row.is_closed ≡ true) → None ≡ unless_closed found
  closed_there None all = refl
  closed_there (Some row) all = sym (ap (λ b. if b then None else Some row) (all row refl))

  found_last : (found : Option Run) → open_row books ≡ found → found ≡ last_open books
  found_last None none =
      closed_there (get books.runs (books.next - 1))
      (λ row is. all_closed books none row (of_row nat_total nat_ties books.runs (books.next - 1) row is))
  found_last (Some row) is =
      let shown = shown_row books row is in
      let own = own_row nat_total nat_ties (λ (r : Run). r.month) books.runs (keyed Kind.Runs) row shown.0 in
      let month : books.next - 1 ≡ row.month = omega (arith, before_next row own shown.1) in
      sym (ap (λ m. unless_closed (get books.runs m)) month ∙ ap unless_closed own ∙ ap (λ b. if b then None else Some row) shown.1)

pub open_run_is_last : OpenRunIsLast
open_run_is_last books keyed rule = found_last books keyed rule (open_row books) refl

shown_month : (size : ℕ) (books : Books) (run : Option OpenRun) → IsOpenAt size books run → month_open run ≡ option_map (λ row. row.month) (open_row books)
shown_month size books None none = sym (ap (option_map (λ (row : Run). row.month)) none)
shown_month size books (Some at) is = sym (ap (option_map (λ (row : Run). row.month)) is.1 ∙ ap (λ m. Some m) is.2)

pub open_month_is_last : (size : ℕ) → OpenMonthIsLast size
open_month_is_last size books run keyed rule shown =
    shown_month size books run shown ∙ ap (option_map (λ (row : Run). row.month)) (open_run_is_last books keyed rule)
