-- Books that take rows of the tables.
use Rattle.std.specs.Prelude.{◌≡◌, ◌||◌, Bool, OnOk, Result}
use Rattle.std.specs.declared.cmp.Ordering.{Ordering}
use Rattle.std.specs.FinMap.{empty}
use Rattle.sqlite.specs.State as sqlite
use Rattle.dh_types.specs.declared.reply.Fault.{Fault}
use Rattle.dh_model.specs.Books.{Books, State}
use Rattle.dh_model.specs.Whole.{rows_where}
use Rattle.dh_tables.specs.Tables.{Accessor}
use Rattle.dh_schema.specs.Store.{tables}

-- these are the tables that the store shows, and these the books
abbrev pub AreBoth : State → State → sqlite.State → State → Type 0
AreBoth t b s books = sqlite.HasCleanDisk s → (tables s ≡ t) × (books ≡ b)

-- After a look at rows of one kind the store shows the same tables, and the books have what they had and the rows that were asked for:
-- books that had none of the kind, and books that had those which a test picks out.
pub record Brings {K X : Type 0} {R : K → K → Ordering} (accessor : Accessor K X R) (asks : X → Bool) (result : Result (Unit {0}) Fault)
    (old : sqlite.State) (books : State) (new : sqlite.State) (after : State) : Type 0 where
  pub first : (t b : State) → AreBoth t b old books → accessor.held b ≡ empty
      → OnOk result (AreBoth t (accessor.with b (rows_where asks (accessor.held t))) new after)
  pub more : (t b : State) (test : X → Bool) → AreBoth t b old books → accessor.held b ≡ rows_where test (accessor.held t)
      → OnOk result (AreBoth t (accessor.with b (rows_where (λ x. test x || asks x) (accessor.held t))) new after)

-- with the properties, the leases and the endings of other books
abbrev pub with_lettings : Books → State → State
with_lettings others s = record s { books = record s.books { properties = others.properties; leases = others.leases; endings = others.endings } }
