-- What a command looks at, from what single looks bring.
use Rattle.std.proofs.Common.{◌≡◌, ◌∙◌, ap, subst, List, ℕ, Option, None}
use Rattle.std.specs.FinMap.{get, len}
use Rattle.sqlite_trees.specs.Tree.{Trees}
use Rattle.dh_types.proofs.SameValues.{texts}
use Rattle.dh_types.specs.declared.property.Property.{Property}
use Rattle.dh_types.specs.declared.version.Version.{Version}
use Rattle.dh_types.specs.declared.command.Command.{Command}
use Rattle.dh_types.specs.declared.lease.Receipt.{Receipt}
use Rattle.dh_model.specs.Books.{StandUnder, State, empty_books}
use Rattle.dh_model.specs.Checks.{is_same_text}
use Rattle.dh_model.specs.Rules.{Keys}
use Rattle.dh_model.specs.Whole.{rows_where}
use Rattle.dh_model.proofs.KeyOrders.{text_ties, text_total}
use Rattle.dh_laws.specs.Looks.{Counts, IsCutOf, IsLast, month_open, number_of}
use Rattle.dh_laws.proofs.FactLemmas.Last.{last_number_is_count}
use Rattle.dh_answers.specs.Seen.{run_of}
use Rattle.dh_answers.proofs.FrozenCommands.{month_of}
use Rattle.dh_sql.proofs.Found.{get_where}
use Rattle.dh_model.specs.Kinds.{Properties}
use Rattle.dh_schema.specs.Tables.{IsSound, books_in, state_in}
use Rattle.dh_schema.proofs.Keyed.{books_are_keyed, keyed}
use Rattle.dh_store.specs.Gathered.{bare, seen}

-- sound tables have as many receipts as the last one's number
pub count_shown : (trees : Trees) (last : Option Receipt) → IsSound trees → IsLast (books_in trees).receipts last
    → len (books_in trees).receipts ≡ number_of last
count_shown trees last sound is = last_number_is_count (books_in trees) last (books_are_keyed trees) (sound.rules Keys) is

-- the property is found among those of its number
pub property_found : (trees : Trees) (t b : State) (number : List ℕ) (found : Option Property) → state_in trees ≡ t
    → b.books.properties ≡ rows_where (λ property. is_same_text property.number number) t.books.properties → found ≡ get b.books.properties number
    → found ≡ get t.books.properties number
property_found trees t b number found at among is =
    is ∙ ap (λ m. get m number) among
    ∙ get_where text_total text_ties (λ (p : Property). is_same_text p.number number) (λ p. p.number) t.books.properties number
    (subst (λ (s : State). StandUnder (λ (p : Property). p.number) s.books.properties) at (keyed Properties trees))
    (λ p same. (texts p.number number).1 same)

-- the rows are gathered, the receipts are counted, and the month of the open run is found
pub cut_of : (told : Command) (t t1 : State) (open_month : Option ℕ) (count : ℕ) (gathered : State) → t1 ≡ t → gathered ≡ seen told t
    → open_month ≡ month_open t.open_run → Counts told t1.books.receipts count
    → IsCutOf (record { books = gathered.books; receipts = count; open_run = run_of open_month }) t.books t.open_run told
cut_of told t t1 open_month count gathered same rows month counted = record {
  rows = ap (λ (s : State). s.books) rows;
  counted = subst (λ (s : State). Counts told s.books.receipts count) same counted;
  month = month_of open_month ∙ month;
}

-- books of the tables' version and months that have no rows
pub bare_of : (t : State) (version : Version) (first next : ℕ) → version ≡ t.books.version → first ≡ t.books.first → next ≡ t.books.next
    → record { books = record (empty_books first) { next = next; version = version }; open_run = None } ≡ bare t
bare_of t version first next is_version is_first is_next = λ i. record {
  books = record (empty_books (is_first i)) { next = is_next i; version = is_version i };
  open_run = None;
}
