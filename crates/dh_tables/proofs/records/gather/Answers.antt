use Rattle.std.proofs.Common.{◌≡◌, ◌<◌, ◌+◌, ◌∙◌, ◌↔◌, length, ℕ, zero, suc}
use Rattle.std.proofs.Common.{List, [], ◌∷◌, ◌++◌, take, IfSome, IsSome, refl, true, sym, ap, subst, arith}
use Rattle.std.specs.List.{AllByRecursion}
use Rattle.std.specs.declared.cmp.Ordering.{Ordering}
use Rattle.std.specs.FinMap.{FinMap, insert}
use Rattle.std.proofs.lemmas.List.{take_more}
use Rattle.sqlite_value.specs.Order.{Row}
use Rattle.dh_model.specs.Books.{State}
use Rattle.dh_sql.specs.Shape.{Shape}
use Rattle.dh_sql.specs.Gathered.{put_row, put_rows}
use Rattle.dh_tables.proofs.records.gather.Goals as goal

push : {K X : Type 0} {R : K → K → Ordering} (it : Shape K X) (rows : List Row) (row : Row) (m : FinMap R X)
    → put_rows it (rows ++ row ∷ []) m ≡ put_row it (put_rows it rows m) row
push it [] row m = refl
push it (r ∷ rows) row m = push it rows row (put_row it m r)

one_more : (P : Row → Type 0) (rows : List Row) (row : Row) → AllByRecursion P rows → P row → AllByRecursion P (rows ++ row ∷ [])
one_more P [] row h here = (here, tt)
one_more P (r ∷ rows) row h here = (h.0, one_more P rows row h.1 here)

last_of : (P : Row → Type 0) (rows : List Row) (row : Row) → AllByRecursion P (rows ++ row ∷ []) → P row
last_of P [] row h = h.0
last_of P (r ∷ rows) row h = last_of P rows row h.1

all_taken : (P : Row → Type 0) (rows : List Row) (n : ℕ) → AllByRecursion P rows → AllByRecursion P (take n rows)
all_taken P rows zero h = tt
all_taken P [] (suc n) h = tt
all_taken P (r ∷ rows) (suc n) h = (h.0, all_taken P rows n h.1)

pub loop-row-preserved : goal.loop-row-preserved
loop-row-preserved g c =
    let T = g.R.Tabled in
    let laws = g.met.R.Tabled in
    let low : c.loop-row.row-index < length c.args.rows.now = omega arith in
    let row = c.row-item.result in
    let rows = take c.loop-row.row-index c.args.rows.now in
    let more = rw (← c.row-item.is) at (take_more c.args.rows.now c.loop-row.row-index row low) in
    let x = c.in-Some.record in
    let read = subst (λ o. IfSome o (λ r. g.R.Record.row r ≡ row)) c.in-Some.is c.in_ok-record.ensures.read in
    let good = (subst (λ o. IsSome o ↔ (g.R.Record.is_row row ≡ true)) c.in-Some.is c.in_ok-record.ensures.exact).0 refl in
    let record_is = ap T.shape.row_in (sym read) ∙ laws.has_shape.row_in_is (g.R.Record.row x) ∙ g.met.R.Record.decodes x (rw read good) in
    let old = c.args.books.now in
    let m = put_rows T.shape rows (T.accessor.held old) in
    let held : T.accessor.held c.loop-row.books ≡ m = ap T.accessor.held c.loop-row.invariant.0 ∙ T.accessor.held_with old m in
    let added = insert m (T.shape.key x) x in
    let step : put_rows T.shape (take (c.loop-row.row-index + 1) c.args.rows.now) (T.accessor.held old) ≡ added =
    ap (λ rs. put_rows T.shape rs (T.accessor.held old)) more ∙ push T.shape rows row (T.accessor.held old) ∙ ap (λ y. insert m (T.shape.key y) y) record_is in
    let books = c.in_ok-put.ensures ∙ ap (λ n. T.accessor.with c.loop-row.books (insert n (T.shape.key x) x)) held
    ∙ ap (λ (s : State). T.accessor.with s added) c.loop-row.invariant.0 ∙ T.accessor.with_with old m added ∙ ap (T.accessor.with old) (sym step) in
    let here : g.R.Record.is_row row ≡ true = good in (
      books,
      subst (AllByRecursion (λ r. g.R.Record.is_row r ≡ true)) (sym more)
          (one_more (λ r. g.R.Record.is_row r ≡ true) rows row c.loop-row.invariant.1 here),
    )

pub returns-in_default-clause-damaged : goal.returns-in_default-clause-damaged
returns-in_default-clause-damaged g c is all =
    let low : c.loop-row.row-index < length c.args.rows.now = omega arith in
    let row = c.row-item.result in
    let rows = take c.loop-row.row-index c.args.rows.now in
    let more = rw (← c.row-item.is) at (take_more c.args.rows.now c.loop-row.row-index row low) in
    let first = subst (AllByRecursion (λ r. g.R.Record.is_row r ≡ true)) more
    (all_taken (λ r. g.R.Record.is_row r ≡ true) c.args.rows.now (c.loop-row.row-index + 1) all) in
    let here = last_of (λ r. g.R.Record.is_row r ≡ true) rows row first in
    let some = (subst (λ o. IsSome o ↔ (g.R.Record.is_row row ≡ true)) c.in_default.is c.in_ok-record.ensures.exact).1 here in
    cc
