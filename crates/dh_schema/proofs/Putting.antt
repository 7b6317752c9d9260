-- Rows that were put into their tables, as a change of the books.
use Rattle.std.proofs.Common.{◌≡◌, ◌∙◌, ◌+◌, inl, inr, refl, sym, ap, subst, Some, Result, Ok, Err, OnErr, OnOk, arith}
use Rattle.std.proofs.lemmas.Result.{err_from_is_err_and}
use Rattle.std.specs.Result.{IsErrAnd}
use Rattle.std.specs.Ordering.{nat_cmp}
use Rattle.std.specs.FinMap.{FinMap, get, insert}
use Rattle.sqlite.specs.declared.error.Error.{Error}
use Rattle.sqlite.specs.State.{HasCleanDisk, KeepsCommit, State}
pub use Rattle.sqlite.proofs.InsideLemmas.{keeps_then as keeps_both}
use Rattle.dh_types.specs.declared.run.Run.{Run}
use Rattle.dh_model.specs.declared.rows.Change.TheVariants as change
use Rattle.dh_model.specs.Books.{Books}
use Rattle.dh_model.specs.Books as machine
use Rattle.dh_model.specs.Machine.{changed}
use Rattle.dh_ddl.specs.Versions.{IsOurs}
use Rattle.dh_sql.specs.Changes.{Becomes}
use Rattle.dh_sql.specs.Shape.{rows_in}
use Rattle.dh_tables.specs.Calls.{Adds, Amends, CommitsNothing, IsUndone, StaysInTransaction}
use Rattle.dh_tables.specs.MetaTable.{SetsNext}
use Rattle.dh_tables.specs.RunTable.{run_shape}
use Rattle.dh_tables.proofs.AmendedRecord.{becomes_there}
use Rattle.dh_model.specs.Kinds.{HasKind, Kind, key_of, order_of, record_of}
use Rattle.dh_schema.specs.Kinds.{accessor_of, shape_of}
use Rattle.dh_model.specs.Kinds.{Runs}
use Rattle.dh_schema.specs.Store.{IsWriting, tables}
use Rattle.dh_schema.specs.Tables.{loaded_from, records_in, version_of_tables}
use Rattle.dh_schema.proofs.Changing.{books_after, books_with_next, in_order_after, in_order_with_next, schema_after, schema_with_next}
use Rattle.dh_schema.proofs.Crashing.{commits_nothing, survives_both}
use Rattle.dh_schema.specs.Putting.{Puts, TurnsBooks}
use Rattle.dh_schema.specs.Changes.{PutsRows}

-- ---- what was committed

-- a call that goes on, or is undone, commits nothing
pub keeps_commit : {X E : Type 0} (r : Result X E) (old new : State) → OnOk r (StaysInTransaction old new) → OnErr r (IsUndone old new) → KeepsCommit old new
keeps_commit (Ok x) old new on undone = record { was_open = λ _. on.was_open; committed = λ _. on.committed_is }
keeps_commit (Err e) old new on undone = record {
  was_open = λ still. elim (undone still) [ inl same ↦ same.0.was_open | inr back ↦ back.was_open still ];
  committed = λ still. elim (undone still) [ inl same ↦ same.0.committed_is | inr back ↦ (back.undone still).1 ];
}

still_commit : (s : State) → KeepsCommit s s
still_commit s = record { was_open = λ still. still; committed = λ _. refl }

pub both_ok : {X E A B C : Type 0} (r : Result X E) → (A → B → C) → OnOk r A → OnOk r B → OnOk r C
both_ok (Ok x) f a b = f a b
both_ok (Err e) f a b = tt

-- behind what commits nothing this was done, of which the books are what it makes of them
pub turns_then : {D : Type 0} (turned : Books → Books) (r : Result (Unit {0}) Error) (old mid new : State)
    → (HasCleanDisk old → HasCleanDisk mid → StaysInTransaction mid new → D → IsWriting new × ((tables new).books ≡ turned (tables old).books))
    → (HasCleanDisk mid → KeepsCommit old mid) → CommitsNothing old mid → (HasCleanDisk new → OnOk r (StaysInTransaction mid new))
    → (HasCleanDisk new → OnOk r D)
    → (HasCleanDisk new → OnErr r (IsUndone mid new)) → CommitsNothing mid new → TurnsBooks turned r old new
turns_then turned r old mid new does kept before on done undone after =
    let both = survives_both old mid new before after in
    let half : HasCleanDisk new → HasCleanDisk mid = λ clean. omega (arith, after.clean, clean) in
    record {
      put = λ clean. both_ok r (does (omega (arith, both.clean, clean)) (half clean)) (on clean) (done clean);
      kept = λ clean. keeps_both old mid new (kept (half clean)) (keeps_commit r mid new (on clean) (undone clean));
      crash = both;
    }

-- ---- one table

module _ (kind : Kind) (records : FinMap (order_of kind) (record_of kind)) (old new : State) where
  abbrev pub Has : Type 0
  Has = HasKind (version_of_tables old.now.trees) kind

  abbrev Turns : Type 0
  Turns = Becomes (shape_of kind) (order_of kind) old.now.schema records old new

  -- the books with these records are what this makes of them
  abbrev pub Means : (Books → Books) → Type 0
  Means turned = ((accessor_of kind).with (loaded_from old.now.trees) records).books ≡ turned (tables old).books

  pub put_in : HasKind (version_of_tables old.now.trees) kind → IsWriting old → StaysInTransaction old new → Turns → IsWriting new
      × ((tables new).books ≡ ((accessor_of kind).with (loaded_from old.now.trees) records).books)
  put_in has order on done = (
    record {
      is_open = on.is_open;
      inside = on.mode;
      schema = subst IsOurs (sym done.schema_is) order.schema;
      version = schema_after kind records old new order.version has done;
      in_order = in_order_after kind records old new order.version has done order.in_order;
    },
    ap (λ (s : machine.State). s.books) (books_after kind records old new order.version has done),
  )

  -- a record was added
  pub added : (turned : Books → Books) (r : Result (Unit {0}) Error) → (HasCleanDisk old → Has) → (HasCleanDisk old → IsWriting old)
      → (HasCleanDisk old → Means turned)
      → (HasCleanDisk new → OnOk r (StaysInTransaction old new)) → (HasCleanDisk new → OnOk r Turns) → (HasCleanDisk new → OnErr r (IsUndone old new))
      → CommitsNothing old new → TurnsBooks turned r old new
  added turned r has writing means =
      turns_then turned r old old new (λ early _ on done. let here = put_in (has early) (writing early) on done in (here.0, here.1 ∙ means early))
      (λ _. still_commit old) (commits_nothing old)

module _ (kind : Kind) (key : key_of kind) (into : record_of kind → record_of kind) (old new : State) where
  abbrev held : FinMap (order_of kind) (record_of kind)
  held = rows_in (shape_of kind) old.now.trees

  -- the record is there, and with what it becomes the books are what this makes of them
  abbrev pub IsThere : (Books → Books) → Type 0
  IsThere turned = (there : record_of kind) × (get held key ≡ Some there) × Means kind (insert held key (into there)) old new turned

  -- a record was changed
  pub amended : (turned : Books → Books) (r : Result (Unit {0}) Error) → (HasCleanDisk old → HasKind (version_of_tables old.now.trees) kind)
      → (HasCleanDisk old → IsWriting old) → (HasCleanDisk old → IsThere turned)
      → (HasCleanDisk new → OnOk r (StaysInTransaction old new)) → (HasCleanDisk new → OnOk r (Amends (shape_of kind) (order_of kind) key into old new))
      → (HasCleanDisk new → OnErr r (IsUndone old new)) → CommitsNothing old new → TurnsBooks turned r old new
  amended turned r has writing is_there =
      turns_then turned r old old new (λ early _ on done.
      let it = is_there early in
      let becomes = becomes_there (shape_of kind) (order_of kind) key into old new done it.0 it.1 in
      let here = put_in kind (insert held key (into it.0)) old new (has early) (writing early) on becomes in (here.0, here.1 ∙ it.2))
      (λ _. still_commit old) (commits_nothing old)

-- ---- an opening

module _ (run : Run) (old mid new : State) where
  abbrev Opened : Type 0
  Opened = IsWriting new × ((tables new).books ≡ changed (change.Open run) (tables old).books)

  after_both : IsWriting old → StaysInTransaction old mid → Adds run_shape nat_cmp run old mid
      → StaysInTransaction mid new → SetsNext (run.month + 1) mid new → Opened
  after_both order on added on_next set =
      let records = insert (records_in Runs old.now.trees) run.month run in
      let first = put_in Runs records old mid tt order on added in
      let in_order = first.0.in_order in
      let moved = set.2 in (
        record {
          is_open = on_next.is_open;
          inside = on_next.mode;
          schema = subst IsOurs (sym moved.schema_is) first.0.schema;
          version = schema_with_next (run.month + 1) mid new first.0.version in_order set;
          in_order = in_order_with_next (run.month + 1) mid new first.0.version in_order set;
        },
        books_with_next (run.month + 1) mid new first.0.version in_order set
            ∙ ap (λ (books : Books). let it : Books = record books { next = run.month + 1 } in it) first.1,
      )

  -- the row of the run was put, and then the next month set
  pub opened : (r : Result (Unit {0}) Error) → (HasCleanDisk old → IsWriting old) → (HasCleanDisk mid → StaysInTransaction old mid)
      → (HasCleanDisk mid → Adds run_shape nat_cmp run old mid) → CommitsNothing old mid → (HasCleanDisk new → OnOk r (StaysInTransaction mid new))
      → (HasCleanDisk new → OnOk r (SetsNext (run.month + 1) mid new)) → (HasCleanDisk new → OnErr r (IsUndone mid new)) → CommitsNothing mid new
      → PutsRows (change.Open run) r old new
  opened r writing on added =
      turns_then (changed (change.Open run)) r old mid new (λ early half. after_both (writing early) (on half) (added half))
      (λ half. keeps_commit {X = Unit {0}} {E = Error} (Ok tt) old mid (on half) tt)

-- where a call failed, nothing is said of the books
pub puts_none : {books : Books} {r : Result (Unit {0}) Error} {e : Error} {old new : State} → r ≡ Err e → (HasCleanDisk new → KeepsCommit old new)
    → CommitsNothing old new → Puts books r old new
puts_none {books = books} {new = new} is kept crash = record {
  put = λ clean. subst (λ (it : Result (Unit {0}) Error). OnOk it (IsWriting new × ((tables new).books ≡ books))) (sym is) tt;
  kept = kept;
  crash = crash;
}

pub puts_failed : (P : Error → Type 0) {books others : Books} {r q : Result (Unit {0}) Error} {old new : State} → IsErrAnd r P → Puts others q old new
    → Puts books r old new
puts_failed P {r = r} is puts = puts_none (err_from_is_err_and r is).1 puts.kept puts.crash

-- where there are no rows, they are as they were
pub nothing_put : {books : Books} (s : State) → (HasCleanDisk s → IsWriting s) → (tables s).books ≡ books → Puts books (Ok tt) s s
nothing_put s writing same = record { put = λ clean. (writing clean, same); kept = λ _. still_commit s; crash = commits_nothing s }
