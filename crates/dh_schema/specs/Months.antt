-- The version and the months of the tables.
use Rattle.std.specs.Prelude.{◌≡◌}
use Rattle.sqlite.specs.State.{State}
use Rattle.dh_types.specs.declared.version.Version.{Version}
use Rattle.dh_model.specs.Books.{Books}
use Rattle.dh_rows.specs.Months.{Months}
use Rattle.dh_schema.specs.Store.{IsReady, tables}

abbrev pub AreMonthsOf : Months → Books → Type 0
AreMonthsOf months books = (months.first ≡ books.first) × (months.next ≡ books.next) × (months.version ≡ books.version)

-- ready, with tables of this version
abbrev pub IsReadyOf : Version → State → Type 0
IsReadyOf version s = IsReady s × (version ≡ (tables s).books.version)

-- ready, with tables of this version and these months
abbrev pub IsReadyIn : Months → State → Type 0
IsReadyIn months s = IsReady s × AreMonthsOf months (tables s).books
