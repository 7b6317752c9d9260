use Rattle.std.proofs.Common.{◌≡◌, take, true}
use Rattle.std.specs.List.{AllByRecursion}
use Rattle.dh_sql.specs.Gathered.{put_rows}
use Rattle.dh_tables.proofs.records.gather.Given as goal

abbrev pub invariant-loop-row : goal.invariant-loop-row
invariant-loop-row g l =
    let it = g.R.Tabled.accessor in
    (l.books ≡ it.with l.fn.books (put_rows g.R.Tabled.shape (take l.row-index l.rows) (it.held l.fn.books)))
    × AllByRecursion (λ row. g.R.Record.is_row row ≡ true) (take l.row-index l.rows)
