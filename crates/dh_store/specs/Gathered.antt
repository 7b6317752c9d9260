-- Books that take rows of the tables, as a command looks at them.
use Rattle.std.specs.Prelude.{List, ℕ, Option, None, Result, OnOk}
use Rattle.std.specs.FinMap.{get}
use Rattle.sqlite.specs.State as sqlite
use Rattle.dh_types.specs.declared.reply.Fault.{Fault}
use Rattle.dh_types.specs.declared.command.Command.{Command}
use Rattle.dh_types.specs.declared.lease.LeaseTerms.{LeaseTerms}
use Rattle.dh_model.specs.Books.{State}
use Rattle.dh_model.specs.Whole.{rows_where}
use Rattle.dh_laws.specs.Looks.{is_beside, is_some_beside, looked_at, manager_in, no_rows, properties_beside, registration_for}
use Rattle.dh_schema.specs.Looked.{AreBoth}

-- the months and the version of the tables, and no rows
abbrev pub bare : State → State
bare t = record { books = no_rows t.books; open_run = None }

-- what the command looks at in the tables
abbrev pub seen : Command → State → State
seen told t = record { books = looked_at t.books told; open_run = None }

-- into books that had the months and the version alone, all came that the command looks at
abbrev pub Gathers : Command → Result (Unit {0}) Fault → sqlite.State → State → sqlite.State → State → Type 0
Gathers told result old books new after = (t : State) → AreBoth t (bare t) old books → OnOk result (AreBoth t (seen told t) new after)

-- the property is there with the manager, where one is given, and what that one manages
abbrev pub with_managed : List ℕ → Option (List ℕ) → State → State → State
with_managed property manager t b = record b {
  books = record b.books {
    staff = manager_in t.books.staff manager;
    properties = properties_beside t.books.properties property manager;
  };
}

-- the client's registration at the branch of the property is there, where that is there
abbrev pub with_registration : LeaseTerms → State → State → State
with_registration terms t b = record b {
  books = record b.books { registrations = registration_for t.books.registrations terms.client (get t.books.properties terms.property) };
}

-- the leases that have a say in a new one are there
abbrev pub with_leases : LeaseTerms → State → State → State
with_leases terms t b = record b { books = record b.books { leases = rows_where (is_beside terms) t.books.leases } }

-- and the endings of these
abbrev pub with_endings : LeaseTerms → State → State → State
with_endings terms t b = record b {
  books = record b.books { endings = rows_where (λ ending. is_some_beside terms (get t.books.leases ending.lease)) t.books.endings };
}
