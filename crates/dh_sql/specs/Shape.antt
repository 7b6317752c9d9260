-- How records of one kind stand in a tree, and the finite map that they are.
use Rattle.std.specs.Prelude.{◌≡◌, ◌≤◌, ℕ, Bool, true, List, [], ◌∷◌, map}
use Rattle.std.specs.declared.cmp.Ordering.{Ordering}
use Rattle.std.specs.Ordering.{eq_by_cmp}
use Rattle.std.specs.List.{AllByRecursion, IsDistinct}
use Rattle.std.specs.FinMap.{FinMap, from_entries}
use Rattle.sqlite_value.specs.Order.{Row}
use Rattle.sqlite_trees.specs.Tree.{Trees, has_rowid, rowid}
use Rattle.sqlite_trees.specs.View.{is_int}
use Rattle.sqlite_rules.specs.Lists.{Has}
use Rattle.sqlite_rules.specs.Edit.{id_in}

-- each rowid is of one row
abbrev pub AreApart : List Row → Type 0
AreApart rows = (x y : Row) → Has rows x → Has rows y → has_rowid (id_in (rowid x)) y ≡ true → x ≡ y

pub record Shape (K X : Type 0) : Type 0 where
  pub tree : ℕ
  -- the columns of a stored row, which begins with its rowid
  pub columns : Row → Row
  -- each column holds a value of its kind
  pub is_row : Row → Bool
  -- the record that such columns are, and its key
  pub row_in : Row → X
  pub key : X → K

module _ {K X : Type 0} (it : Shape K X) where
  abbrev pub under_key : X → K × X
  under_key x = (it.key x, x)

  -- the record that a stored row is
  abbrev pub stored_in : Row → X
  stored_in r = it.row_in (it.columns r)

  abbrev pub entry_in : Row → K × X
  entry_in r = under_key (stored_in r)

  -- the keys of rows that are columns alone
  abbrev pub shown_keys : List Row → List K
  shown_keys rows = map (λ row. it.key (it.row_in row)) rows

  -- what a stored row of a record is
  abbrev pub IsStored : Row → Type 0
  IsStored r = it.is_row (it.columns r) ≡ true

  module _ {R : K → K → Ordering} where
    -- the records in the tree
    abbrev pub rows_in : Trees → FinMap R X
    rows_in trees = from_entries (map entry_in (trees it.tree))

    -- the records that these columns are
    abbrev pub rows_of : List Row → FinMap R X
    rows_of rows = from_entries (map (λ row. under_key (it.row_in row)) rows)

  module _ (R : K → K → Ordering) where
    -- each column holds a value of its kind, rows have rowids, and each key is there once
    pub record IsKept (trees : Trees) : Type 0 where
      pub values : AllByRecursion IsStored (trees it.tree)
      pub rowids : AllByRecursion (λ r. is_int (rowid r) ≡ true) (trees it.tree)
      pub keys : IsDistinct (eq_by_cmp R) (map (λ r. it.key (stored_in r)) (trees it.tree))

-- ---- keys that are numbers

module _ {X : Type 0} (it : Shape ℕ X) where
  -- the number of a stored row
  abbrev pub number_at : Row → ℕ
  number_at r = it.key (stored_in it r)

  -- of all rows that of the greatest number is shown, where there is any
  abbrev pub IsGreatest : List Row → List Row → Type 0
  IsGreatest all [] = all ≡ []
  IsGreatest all (row ∷ []) = (top : Row) × Has all top × (row ≡ it.columns top) × AllByRecursion (λ r. number_at r ≤ number_at top) all
  IsGreatest all (row ∷ more ∷ rows) = ⊥
