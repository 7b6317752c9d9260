-- What a call on our tables needs, and what it leaves.
use Rattle.std.specs.Prelude.{◌≡◌, ◌⊎◌, ◌||◌, ℕ, Bool, true, IsTrue, List, Option, Some, None, Result, Err}
use Rattle.std.specs.declared.cmp.Ordering.{Ordering}
use Rattle.std.specs.FinMap.{FinMap, get, insert}
use Rattle.sqlite_value.specs.Order.{Row}
use Rattle.sqlite_trees.specs.declared.error.StoreError.TheVariants.{Corrupt}
use Rattle.sqlite.specs.declared.error.Error.{Error}
use Rattle.sqlite.specs.declared.error.Error.TheVariants.{SqliteFailure}
use Rattle.sqlite.specs.declared.error.ErrorCode.TheVariants.{DatabaseCorrupt}
use Rattle.sqlite_schema.specs.declared.program.Program.{Program}
use Rattle.sqlite.specs.Command.TheVariants.{Select}
use Rattle.sqlite.specs.Listing.{understood}
use Rattle.sqlite.proofs.Callers.{IsPlain, command_of}
use Rattle.sqlite.specs.State.{HasCause, IsRolledBack, IsUnchanged, Shows, State, Survives}
use Rattle.dh_model.specs.Books as machine
use Rattle.dh_model.specs.Books.{with_rows}
use Rattle.dh_model.specs.Whole.{rows_where}
use Rattle.dh_types.specs.declared.version.Version.{Version}
use Rattle.dh_ddl.specs.Versions.{HasSince, IsOurs}
use Rattle.dh_sql.specs.Changes.{Becomes}
use Rattle.dh_sql.specs.Shape.{Shape, rows_in, rows_of}
use Rattle.dh_tables.specs.Questions.{AsksFor}
use Rattle.dh_tables.specs.Tables.{Accessor}

-- the tables are ours; of their rows nothing is known
abbrev pub HasOurTables : State → Type 0
HasOurTables s = IsOurs s.now.schema

-- they have those of this version
abbrev pub HasTables : Version → State → Type 0
HasTables since s = HasSince since s.now.schema

-- the text is a SELECT, which changes nothing
pub record IsQuery (text : List ℕ) (s : State) : Type 0 where
  pub program : Program
  pub names : List (List ℕ)
  pub command : command_of (understood s.now.schema text) ≡ Select program names
  pub plain : IsPlain (understood s.now.schema text)

-- within a transaction, over such tables
pub record IsWritingSince (since : Version) (s : State) : Type 0 where
  pub inside : IsTrue s.in_transaction
  pub has : HasSince since s.now.schema

-- open, within a transaction, with our tables
pub record IsInTransaction (s : State) : Type 0 where
  pub is_open : IsTrue s.is_open
  pub inside : IsTrue s.in_transaction
  pub schema : IsOurs s.now.schema

-- a call that failed and left the store open has changed nothing, or has ended the transaction
abbrev pub IsUndone : State → State → Type 0
IsUndone old new = IsTrue new.is_open → IsUnchanged old new ⊎ IsRolledBack old new

-- the answer is that the database is corrupt
abbrev pub IsCorrupt : {X : Type 0} → Result X Error → Type 0
IsCorrupt result = result ≡ Err (SqliteFailure DatabaseCorrupt)

-- the disk has failed in between
abbrev pub HasFailed : State → State → Type 0
HasFailed old new = HasCause old new ⊥ Corrupt

-- no call but a commit commits
abbrev pub CommitsNothing : State → State → Type 0
CommitsNothing old new = Survives old new (λ _. ⊥)

-- the transaction goes on, and what was committed is as it was
abbrev pub StaysInTransaction : State → State → Type 0
StaysInTransaction old new = Shows old new new.now old.committed true

module _ {K X : Type 0} (it : Shape K X) (R : K → K → Ordering) where
  -- no record of the table has the key of this one
  abbrev pub IsNew : X → State → Type 0
  IsNew x s = get (rows_in it {R = R} s.now.trees) (it.key x) ≡ None

  -- the table has this record too
  abbrev pub Adds : X → State → State → Type 0
  Adds x old new = Becomes it R old.now.schema (insert (rows_in it old.now.trees) (it.key x) x) old new

  -- the table has these records too
  abbrev pub AddsEach : List X → State → State → Type 0
  AddsEach xs old new = Becomes it R old.now.schema (with_rows it.key xs (rows_in it old.now.trees)) old new

  -- a record of the table has this key
  abbrev pub IsThere : K → State → Type 0
  IsThere key s = (x : X) × (get (rows_in it {R = R} s.now.trees) key ≡ Some x)

  -- the record that has the key has become another
  abbrev pub Amends : K → (X → X) → State → State → Type 0
  Amends key amended old new =
      (x : X) × (get (rows_in it {R = R} old.now.trees) key ≡ Some x)
      × Becomes it R old.now.schema (insert (rows_in it old.now.trees) key (amended x)) old new

  -- the records that are asked for
  abbrev pub asked_in : (X → Bool) → State → FinMap R X
  asked_in asks s = rows_where asks (rows_in it s.now.trees)

  -- the rows are those that are asked for
  abbrev pub AreAsked : (X → Bool) → State → List Row → Type 0
  AreAsked asks s rows = rows_of it {R = R} rows ≡ asked_in asks s

  -- where exactly the record of a key is asked for, it is what the table has there
  abbrev pub IsFound : (X → Bool) → State → Option X → Type 0
  IsFound asks s found = (key : K) → AsksFor it asks key → found ≡ get (rows_in it {R = R} s.now.trees) key

  module _ (accessor : Accessor K X R) where
    -- the books have what is asked for, and beside it what they had of the table
    abbrev pub HasFetchedMore : (X → Bool) → State → machine.State → machine.State → Type 0
    HasFetchedMore asks s old new = (test : X → Bool) → accessor.held old ≡ asked_in test s → new ≡ accessor.with old (asked_in (λ x. test x || asks x) s)
