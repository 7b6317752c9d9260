-- The texts of SQL that add a row to a table, ask for rows and change one, of its name and its columns.
use Rattle.std.specs.Prelude.{ℕ, zero, suc, ◌+◌, ◌/◌, ◌%◌, nat_lt, if◌then◌else◌, List, [], ◌∷◌, ◌++◌, length, codes}
use Rattle.sqlite_value.specs.declared.value.Value.TheVariants.{Null}
use Rattle.sqlite_sql.specs.Term.{Term, lit, col}
use Rattle.sqlite_schema.specs.declared.schema.Column.{Column}
use Rattle.sqlite_schema.specs.declared.schema.Table.{Table}

-- texts with this between them
abbrev pub joined : List ℕ → List (List ℕ) → List ℕ
joined between [] = []
joined between (text ∷ []) = text
joined between (text ∷ texts) = text ++ between ++ joined between texts

-- a number below 100 in decimal
abbrev pub small : ℕ → List ℕ
small n = if nat_lt n 10 then ((48 + n) ∷ []) else ((48 + n / 10) ∷ (48 + n % 10) ∷ [])

-- a parameter for each column
abbrev pub parameters : ℕ → List (List ℕ) → List (List ℕ)
parameters n [] = []
parameters n (column ∷ columns) = (codes "?" ++ small n) ∷ parameters (n + 1) columns

-- of so many rows, the parameters of which begin with this number: each row is a text
abbrev pub parameter_rows : ℕ → ℕ → List (List ℕ) → List (List ℕ)
parameter_rows zero n columns = []
parameter_rows (suc rows) n columns = joined (codes ", ") (parameters n columns) ∷ parameter_rows rows (n + length columns) columns

-- so many rows are added
abbrev pub insert_rows_text : ℕ → List ℕ → List (List ℕ) → List ℕ
insert_rows_text rows table columns =
    codes "INSERT INTO " ++ table ++ codes " (" ++ joined (codes ", ") columns ++ codes ") VALUES ("
    ++ joined (codes "), (") (parameter_rows rows 1 columns) ++ codes ")"

abbrev pub insert_text : List ℕ → List (List ℕ) → List ℕ
insert_text = insert_rows_text 1

abbrev pub select_text : List ℕ → List (List ℕ) → List ℕ
select_text table columns = codes "SELECT " ++ joined (codes ", ") columns ++ codes " FROM " ++ table

-- each column with a parameter, of which the first has this number
abbrev pub given_by : ℕ → List (List ℕ) → List (List ℕ)
given_by n [] = []
given_by n (column ∷ columns) = (column ++ codes " = ?" ++ small n) ∷ given_by (n + 1) columns

abbrev pub select_where : List ℕ → List (List ℕ) → List (List ℕ) → List ℕ
select_where table columns keys = select_text table columns ++ codes " WHERE " ++ joined (codes " AND ") (given_by 1 keys)

-- the columns behind those of the key are set
abbrev pub update_text : List ℕ → List (List ℕ) → List (List ℕ) → List ℕ
update_text table keys columns =
    codes "UPDATE " ++ table ++ codes " SET " ++ joined (codes ", ") (given_by (length keys + 1) columns) ++ codes " WHERE "
    ++ joined (codes " AND ") (given_by 1 keys)

-- a term for each column, which stand one behind the other from this place on
abbrev pub terms_from : ℕ → ℕ → List (List ℕ) → List Term
terms_from row n [] = []
terms_from row n (column ∷ columns) = col row n ∷ terms_from row (n + 1) columns

-- The columns of a table by their names: what a new row is put together of, what is shown of a stored one, and how the rowid is called.
pub record Named : Type 0 where
  pub table : List ℕ
  pub names : List (List ℕ)
  pub put : List Term
  pub shown : List Term
  pub rowid_name : List ℕ

-- the names of columns
abbrev pub names_of : List Column → List (List ℕ)
names_of [] = []
names_of (column ∷ columns) = column.name ∷ names_of columns

-- the rowid is no column
abbrev pub rowid_apart : Table → Named
rowid_apart table = record {
  table = table.name;
  names = names_of table.columns;
  put = lit Null ∷ terms_from 0 0 (names_of table.columns);
  shown = terms_from 1 1 (names_of table.columns);
  rowid_name = codes "rowid";
}

-- what so many new rows are put together of, where the rowid is no column; their parameters stand from this place on
abbrev pub put_apart : ℕ → ℕ → List (List ℕ) → List Term
put_apart zero n names = []
put_apart (suc rows) n names = lit Null ∷ terms_from 0 n names ++ put_apart rows (n + length names) names

-- the first name, and those behind it
abbrev pub first_of : List (List ℕ) → List ℕ
first_of [] = []
first_of (name ∷ names) = name

abbrev pub behind_first : List (List ℕ) → List (List ℕ)
behind_first [] = []
behind_first (name ∷ names) = names

-- it is the first column, whose own place holds NULL
abbrev pub rowid_first : Table → Named
rowid_first table = record {
  table = table.name;
  names = names_of table.columns;
  put = col 0 0 ∷ lit Null ∷ terms_from 0 1 (behind_first (names_of table.columns));
  shown = col 1 0 ∷ terms_from 1 2 (behind_first (names_of table.columns));
  rowid_name = first_of (names_of table.columns);
}
