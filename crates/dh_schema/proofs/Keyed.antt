-- What holds of tables: their books are keyed, in order they hold values of their kinds, and sound they show their run.
use Rattle.std.proofs.Common.{arith}
use Rattle.std.specs.declared.cmp.Ordering.{Ordering}
use Rattle.std.specs.FinMap.{FinMap}
use Rattle.sqlite_trees.specs.Tree.{Trees}
use Rattle.dh_types.specs.declared.version.Version.{Version}
use Rattle.dh_types.specs.declared.version.Version.TheVariants.{First, Second}
use Rattle.dh_model.specs.Kinds.{Kind, Branches, came_with}
use Rattle.dh_model.specs.Runs.{batch_size}
use Rattle.dh_model.proofs.KindOrders.{ties_of, total_of}
use Rattle.dh_laws.proofs.ShownLemmas.Run.{sound_books_show}
use Rattle.dh_laws.proofs.InvariantLemmas.EmptyBooks.{none_under}
use Rattle.dh_model.specs.Books.{StandUnder}
use Rattle.dh_sql.specs.Shape.{rows_in}
use Rattle.dh_sql.proofs.Found.{keyed_rows}
use Rattle.dh_schema.specs.Kinds.{shape_of}
use Rattle.dh_schema.specs.Tables.{books_in, records_in, rows_since, version_of_tables}
use Rattle.dh_schema.specs.TableLaws.{BooksAreKeyed, OrderHasValues, SoundTablesShowTheirRun}

keyed_since : {K X : Type 0} {R : K → K → Ordering} (came version : Version) (key : X → K) (rows : FinMap R X) → StandUnder key rows
    → StandUnder key (rows_since came version rows)
keyed_since First version key rows keyed = keyed
keyed_since Second First key rows keyed = none_under _ key
keyed_since Second Second key rows keyed = keyed

-- the records of a kind stand under their keys
pub keyed : (kind : Kind) (trees : Trees) → StandUnder (shape_of kind).key (records_in kind trees)
keyed kind trees = keyed_since (came_with kind) (version_of_tables trees) (shape_of kind).key (rows_in (shape_of kind) trees)
    (keyed_rows (total_of kind) (ties_of kind) (shape_of kind) trees)

pub books_are_keyed : BooksAreKeyed
books_are_keyed trees Branches = keyed Branches trees
books_are_keyed trees kind = keyed kind trees

pub order_has_values : OrderHasValues
order_has_values trees order = record { months = order.months; meta = order.meta; rows = λ kind has. (order.tables kind has).kept.values }

pub sound_tables_show_their_run : SoundTablesShowTheirRun
sound_tables_show_their_run trees sound = sound_books_show batch_size (books_in trees) (omega arith) (books_are_keyed trees) sound.rules
