-- What holds of tables, whatever their rows are.
use Rattle.std.specs.Prelude.{◌≡◌}
use Rattle.sqlite_trees.specs.Tree.{Trees}
use Rattle.dh_types.specs.declared.version.Version.TheVariants.{First}
use Rattle.dh_model.specs.Rules.{Endings, Fees, Holds}
use Rattle.dh_model.specs.Runs.{batch_size}
use Rattle.dh_laws.specs.Events.{IsShown}
use Rattle.dh_laws.specs.InOrder.{AreKeyed}
use Rattle.dh_schema.specs.Tables.{AreInOrder, HasValues, IsSound, books_in, tables_in, version_of_tables}

-- each record stands under its key
abbrev pub BooksAreKeyed : Type 0
BooksAreKeyed = (trees : Trees) → AreKeyed (books_in trees)

-- tables in order hold values of their kinds
abbrev pub OrderHasValues : Type 0
OrderHasValues = (trees : Trees) → AreInOrder trees → HasValues trees

-- the run that sound tables give is the one that they show
abbrev pub SoundTablesShowTheirRun : Type 0
SoundTablesShowTheirRun = (trees : Trees) → IsSound trees → IsShown batch_size (tables_in trees)

-- tables of the first version break no rule of what came with the second
abbrev pub FirstBreaksNoLaterRule : Type 0
FirstBreaksNoLaterRule = (trees : Trees) → version_of_tables trees ≡ First
    → Holds (books_in trees) batch_size Fees × Holds (books_in trees) batch_size Endings
