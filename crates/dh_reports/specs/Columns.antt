-- The columns of a line.
use Rattle.std.specs.Prelude.{ℕ, ◌-◌, nat_eq, List, [], ◌∷◌, ◌++◌, length, replicate}
use Rattle.std.specs.List.{count_by, join_with_byte}
use Rattle.dh_reports.specs.declared.columns.Column.{Column}

-- left-aligned in so many columns; what is longer is not cut
abbrev pub left_aligned : ℕ → List ℕ → List ℕ
left_aligned width text = text ++ replicate (width - length text) 32

-- right-aligned; what is longer is not cut
abbrev pub right_aligned : ℕ → List ℕ → List ℕ
right_aligned width text = replicate (width - length text) 32 ++ text

-- the end of a line
abbrev pub newline : List ℕ
newline = 10 ∷ []

-- how many line feeds the text has
abbrev pub line_feeds : List ℕ → ℕ
line_feeds text = count_by (λ b. nat_eq b 10) text

-- columns parted by one space, and the end of the line
abbrev pub line : List (List ℕ) → List ℕ
line columns = join_with_byte 32 columns ++ newline

-- what a column of the program is written as
abbrev pub column_text : Column → List ℕ
column_text column = column.before.now ++ column.text.now ++ column.behind.now
