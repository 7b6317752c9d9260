-- Calls that only read, one after the other, and the books that they make.
use Rattle.std.proofs.Common.{◌≡◌, ◌⊎◌, ◌∙◌, ◌++◌, inl, inr, refl, sym, ap, subst, arith, List, [], ◌∷◌, ℕ}
use Rattle.std.proofs.Common.{pos, Bool, true, false, cond, nat_eq, ◌&&◌, Some, Result, Ok, Err, OnOk, OnErr}
use Rattle.std.proofs.lemmas.Bool.{and_parts}
pub use Rattle.std.proofs.lemmas.Result.{on_ok_weaker as on_ok, on_err_weaker as on_err}
use Rattle.std.specs.List.{AllByRecursion}
use Rattle.std.specs.FinMap.{empty}
use Rattle.sqlite_schema.specs.declared.schema.Schema.{Schema}
use Rattle.sqlite_trees.specs.Tree.{Trees}
use Rattle.sqlite.specs.Effect.{Database}
use Rattle.sqlite.specs.State.{HasCleanDisk, IsRolledBack, IsUnchanged, State}
use Rattle.sqlite.proofs.Callers.{unchanged_then}
use Rattle.dh_model.specs.Books as machine
use Rattle.dh_model.proofs.MapRows.{inside}
use Rattle.dh_rows.specs.Months.{Months}
use Rattle.dh_types.specs.declared.version.Version.{Version}
use Rattle.dh_types.specs.declared.version.Version.TheVariants.{First, Second}
use Rattle.dh_rows.specs.Cells.{version_number}
use Rattle.sqlite_catalog.specs.Listing as catalog
use Rattle.dh_ddl.specs.Versions.{HasSince, schema_of}
use Rattle.dh_sql.specs.Shape.{IsStored, rows_in}
use Rattle.dh_tables.specs.Calls.{IsUndone}
use Rattle.dh_tables.specs.Listing.{IsLoaded}
use Rattle.dh_tables.specs.MetaTable.{HasMonths, meta_rows}
use Rattle.dh_schema.specs.declared.load_fault.LoadFault.{LoadFault}
use Rattle.dh_model.specs.Kinds.{HasKind, IsSince, Kind, came_with, order_of}
use Rattle.dh_schema.specs.Kinds.{IsKind, Stored, accessor_of, shape_of}
use Rattle.dh_model.specs.Kinds.{Branches}
use Rattle.dh_model.specs.Kinds.{BranchFees, PartFees, Endings}
use Rattle.dh_schema.specs.Loaded.{AllAreRecords, AreLoaded, HasNone, HasTablesOf, LacksEach, Loads, Reads, first_kinds, kinds_of, with_records}
use Rattle.dh_schema.specs.Store.{Keeps}
use Rattle.dh_schema.specs.Tables.{AreInOrder, AreRecords, HasValues, IsTableInOrder, empty_over, loaded_from, rows_since, version_of_tables}
use Rattle.dh_schema.specs.Version.{only_version}
use Rattle.dh_schema.proofs.Changing.{told}
use Rattle.dh_schema.proofs.EachKind.{one_kind}
use Rattle.dh_schema.proofs.Crashing.{survives_both}

-- ---- what they leave

module _ (a b c : State) where
  either : IsUnchanged a b → IsUnchanged b c ⊎ IsRolledBack b c → IsUnchanged a c ⊎ IsRolledBack a c
  either x (inl y) = inl (unchanged_then a b c x y)
  either x (inr y) = inr (record {
    was_open = λ still. x.0.was_open;
    undone = λ still. ((y.undone still).0 ∙ x.0.committed_is, (y.undone still).1 ∙ x.0.committed_is);
    autocommit = y.autocommit;
    unmarked = y.unmarked;
    counts = record { changes = y.counts.changes ∙ x.1.changes; last_rowid = y.counts.last_rowid ∙ x.1.last_rowid };
  })

  undone_then : IsUnchanged a b → IsUndone b c → IsUndone a c
  undone_then x y still = either x (y still)

-- the last commit stays what is shown
kept_by : (a b : State) → IsUnchanged a b ⊎ IsRolledBack a b → Keeps a b
kept_by a b (inl x) still settled = (x.0.now_is, x.0.committed_is, λ none. x.0.mode ∙ none)
kept_by a b (inr x) still settled = ((x.undone still).0 ∙ sym settled, (x.undone still).1, λ none. x.autocommit)

pub keeps : {X E : Type 0} (r : Result X E) (a b : State) → OnOk r (IsUnchanged a b) → OnErr r (IsUndone a b) → Keeps a b
keeps (Ok x) a b same undone = kept_by a b (inl same)
keeps (Err e) a b same undone = λ still settled. kept_by a b (undone still) still settled

-- ---- facts of each kind

pub all_before : {X : Type 0} (P : X → Type 0) (xs ys : List X) → AllByRecursion P (xs ++ ys) → AllByRecursion P xs
all_before P [] ys all = tt
all_before P (x ∷ xs) ys all = (all.0, all_before P xs ys all.1)

pub all_behind : {X : Type 0} (P : X → Type 0) (xs ys : List X) → AllByRecursion P (xs ++ ys) → AllByRecursion P ys
all_behind P [] ys all = all
all_behind P (x ∷ xs) ys all = all_behind P xs ys all.1

all_both : {X : Type 0} (P : X → Type 0) (xs ys : List X) → AllByRecursion P xs → AllByRecursion P ys → AllByRecursion P (xs ++ ys)
all_both P [] ys first rest = rest
all_both P (x ∷ xs) ys first rest = (first.0, all_both P xs ys first.1 rest)

pub all_of : (P : Kind → Type 0) → ((kind : Kind) → P kind) → (kinds : List Kind) → AllByRecursion P kinds
all_of P each [] = tt
all_of P each (kind ∷ kinds) = (each kind, all_of P each kinds)

-- ---- of each kind, and of each that is read

is_since : Version → Version → Bool
is_since First version = true
is_since Second First = false
is_since Second Second = true

since : (came version : Version) → is_since came version ≡ true → IsSince came version
unfolding is_since
since First version is = tt
since Second First is = cc
since Second Second is = refl

all_since : Version → List Kind → Bool
all_since version [] = true
all_since version (kind ∷ kinds) = is_since (came_with kind) version && all_since version kinds

all_since_it : (P : Kind → Type 0) (version : Version) (kinds : List Kind) → all_since version kinds ≡ true → ((kind : Kind) → HasKind version kind → P kind)
    → AllByRecursion P kinds
unfolding all_since
all_since_it P version [] are each = tt
all_since_it P version (kind ∷ kinds) are each =
    let both = and_parts (is_since (came_with kind) version) (all_since version kinds) are in
    (each kind (since (came_with kind) version both.0), all_since_it P version kinds both.1 each)

-- what holds of each kind that the version has holds of those that are read
pub of_each : (P : Kind → Type 0) (version : Version) → ((kind : Kind) → HasKind version kind → P kind) → AllByRecursion P (kinds_of version)
unfolding all_since is_since
of_each P First each = all_since_it P First (kinds_of First) refl each
of_each P Second each = all_since_it P Second (kinds_of Second) refl each

has_tree : ℕ → List Kind → Bool
has_tree tree [] = false
has_tree tree (kind ∷ kinds) = cond (nat_eq (shape_of kind).tree tree) true (has_tree tree kinds)

found : (P : Kind → Type 0) (kinds : List Kind) → AllByRecursion P kinds → (kind : Kind) → has_tree (shape_of kind).tree kinds ≡ true → P kind
unfolding has_tree
found P [] all kind is = cc
found P (other ∷ kinds) all kind is = by (nat_eq (shape_of other).tree (shape_of kind).tree) refl is (found P kinds all.1 kind)
  where
    by : (b : Bool) → nat_eq (shape_of other).tree (shape_of kind).tree ≡ b → cond b true (has_tree (shape_of kind).tree kinds) ≡ true
        → (has_tree (shape_of kind).tree kinds ≡ true → P kind)
        → P kind
    by true same is later = subst P (one_kind other kind same) all.0
    by false apart is later = later is

is_read : (version : Version) (kind : Kind) → HasKind version kind → has_tree (shape_of kind).tree (kinds_of version) ≡ true
unfolding has_tree
is_read First BranchFees has = let none : First ≡ Second = has in cc
is_read First PartFees has = let none : First ≡ Second = has in cc
is_read First Endings has = let none : First ≡ Second = has in cc
is_read First kind has = refl
is_read Second Branches has = refl
is_read Second kind has = refl

-- and the other way round
pub each_of : (P : Kind → Type 0) (version : Version) → AllByRecursion P (kinds_of version) → (kind : Kind) → HasKind version kind → P kind
each_of P version all kind has = found P (kinds_of version) all kind (is_read version kind has)

-- ---- one table after the other

books_then : (ks ls : List Kind) (trees : Trees) (books : machine.State)
    → with_records (ks ++ ls) trees books ≡ with_records ls trees (with_records ks trees books)
books_then [] ls trees books = refl
books_then (kind ∷ ks) ls trees books = books_then ks ls trees (with_records (kind ∷ []) trees books)

loaded_both : (ks ls : List Kind) (trees : Trees) (before between after : machine.State) → AreLoaded ks trees before between
    → AreLoaded ls trees between after → AreLoaded (ks ++ ls) trees before after
loaded_both ks ls trees before between after first rest = record {
  in_order = all_both (λ kind. IsTableInOrder kind trees) ks ls first.in_order rest.in_order;
  books = rest.books ∙ ap (with_records ls trees) first.books ∙ sym (books_then ks ls trees before);
}

-- what a call on the table of this kind has done
abbrev ReadsKind : Kind → Result (Unit {0}) LoadFault → State → State → machine.State → machine.State → Type 0
ReadsKind kind r old new before after =
    Reads (IsLoaded (shape_of kind) (order_of kind) (accessor_of kind) old.now.trees before after) (¬ AreRecords kind old.now.trees) r old new

one_table : (kind : Kind) {r : Result (Unit {0}) LoadFault} {old new : State} {before after : machine.State} → ReadsKind kind r old new before after
    → Loads (kind ∷ []) r old new before after
one_table kind {r = r} it = record {
  reads = record {
    done = λ clean. on_ok r (λ one. record { in_order = (record { kept = one.kept; apart = one.apart }, tt); books = one.books }) (it.done clean);
    damaged = λ clean told all. it.damaged clean told all.0;
    cause = it.cause;
    same = it.same;
    undone = it.undone;
    crash = it.crash;
  };
}

-- the same of a type of record
module _ (it : Stored) (is : IsKind it) where
  pub type_has : (schema : Schema) → HasSince (came_with is.kind) schema → HasSince it.since schema
  type_has schema = is.by_kind (λ s as_row of_row as_key. HasSince (came_with is.kind) schema → HasSince s.since schema) (λ h. h)

  pub type_lacks : (books : machine.State) → (accessor_of is.kind).held books ≡ empty → it.accessor.held books ≡ empty
  type_lacks books = is.by_kind (λ s as_row of_row as_key. (accessor_of is.kind).held books ≡ empty → s.accessor.held books ≡ empty) (λ h. h)

  pub type_loads : {r : Result (Unit {0}) LoadFault} {old new : State} {before after : machine.State}
      → Reads (IsLoaded it.shape it.order it.accessor old.now.trees before after) (¬ AllByRecursion (IsStored it.shape) (old.now.trees it.shape.tree)) r old new
      → Loads (is.kind ∷ []) r old new before after
  type_loads {r = r} {old = old} {new = new} {before = before} {after = after} =
      is.by_kind
      (λ s as_row of_row as_key. Reads (IsLoaded s.shape s.order s.accessor old.now.trees before after)
      (¬ AllByRecursion (IsStored s.shape) (old.now.trees s.shape.tree)) r old new → Loads (is.kind ∷ []) r old new before after)
      (one_table is.kind)

-- books that lack each of some kinds and of others lack each of these, and of those when these are read
pub lacks_first : (ks ls : List Kind) (trees : Trees) (books : machine.State) → LacksEach (ks ++ ls) trees books → LacksEach ks trees books
lacks_first [] ls trees books all = tt
lacks_first (kind ∷ ks) ls trees books all = (all.0, lacks_first ks ls trees (with_records (kind ∷ []) trees books) all.1)

lacks_rest : (ks ls : List Kind) (trees : Trees) (books : machine.State) → LacksEach (ks ++ ls) trees books
    → LacksEach ls trees (with_records ks trees books)
lacks_rest [] ls trees books all = all
lacks_rest (kind ∷ ks) ls trees books all = lacks_rest ks ls trees (with_records (kind ∷ []) trees books) all.1

-- books without a record lack each
pub lacks_all : (version : Version) (trees : Trees) (books : machine.State) → HasNone (kinds_of version) books → LacksEach (kinds_of version) trees books
lacks_all First trees books none = none
lacks_all Second trees books none = none

module _ {ks : List Kind} {done : Unit {0}} {old mid : State} {before between : machine.State} (first : Loads ks (Ok done) old mid before between) where
  -- the store is as it was
  same_db : HasCleanDisk mid → mid.now ≡ old.now
  same_db clean = (first.reads.same clean).0.now_is

  pub still_has : (ls : List Kind) → (HasCleanDisk old → HasTablesOf (ks ++ ls) old.now.schema) → HasCleanDisk mid → HasTablesOf ls mid.now.schema
  still_has ls has clean =
      subst (λ (d : Database). HasTablesOf ls d.schema) (sym (same_db clean))
      (all_behind (λ kind. HasSince (came_with kind) old.now.schema) ks ls (has (omega (arith, first.reads.crash.clean, clean))))

  -- and books that lack records of other kinds still lack them
  pub still_lacks : (ls : List Kind) → (HasCleanDisk old → LacksEach (ks ++ ls) old.now.trees before) → HasCleanDisk mid
      → LacksEach ls mid.now.trees between
  still_lacks ls none clean =
      subst (λ (d : Database). LacksEach ls d.trees between) (sym (same_db clean))
      (subst (LacksEach ls old.now.trees) (sym (first.reads.done clean).books)
      (lacks_rest ks ls old.now.trees before (none (omega (arith, first.reads.crash.clean, clean)))))

  pub and_more : {ls : List Kind} {r : Result (Unit {0}) LoadFault} {new : State} {after : machine.State} → Loads ls r mid new between after
      → Loads (ks ++ ls) r old new before after
  and_more {ls = ls} {r = r} {new = new} {after = after} rest =
      let early : HasCleanDisk new → HasCleanDisk mid = λ clean. omega (arith, rest.reads.crash.clean, clean) in
      let same : HasCleanDisk new → IsUnchanged old mid = λ clean. first.reads.same (early clean) in
      let trees : HasCleanDisk new → mid.now.trees ≡ old.now.trees = λ clean. ap (λ (d : Database). d.trees) (same clean).0.now_is in
      record {
        reads = record {
          done = λ clean. on_ok r (λ more. loaded_both ks ls old.now.trees before between after (first.reads.done (early clean))
              (subst (λ (t : Trees). AreLoaded ls t between after) (trees clean) more)) (rest.reads.done clean);
          damaged = λ clean told all. rest.reads.damaged clean told (subst (AllAreRecords ls) (sym (trees clean))
              (all_behind (λ kind. AreRecords kind old.now.trees) ks ls all));
          cause = rest.reads.cause;
          same = λ clean. on_ok r (unchanged_then old mid new (same clean)) (rest.reads.same clean);
          undone = λ clean. on_err r (undone_then old mid new (same clean)) (rest.reads.undone clean);
          crash = survives_both old mid new first.reads.crash rest.reads.crash;
        };
      }

pub same_fault : {X E : Type 0} {a b : E} → ◌≡◌ {A = Result X E} (Err a) (Err b) → a ≡ b
same_fault e = cc

-- a call that failed, as the whole that was to be read
pub stopped : {ks : List Kind} (ls : List Kind) {fault : LoadFault} {answer : Result (Unit {0}) LoadFault} {old new : State} {before after : machine.State}
    → (told : LoadFault) × (answer ≡ Err told) × (told ≡ fault) → Loads ks (Err fault) old new before after → Loads (ks ++ ls) answer old new before after
stopped {ks = ks} ls {fault = fault} {old = old} {new = new} {before = before} {after = after} is its =
    let whole : Loads (ks ++ ls) (Err fault) old new before after = record {
      reads = record {
        done = λ clean. tt;
        damaged = λ clean tells all. its.reads.damaged clean tells (all_before (λ kind. AreRecords kind old.now.trees) ks ls all);
        cause = its.reads.cause;
        same = λ clean. tt;
        undone = its.reads.undone;
        crash = its.reads.crash;
      };
    } in
    subst (λ s. Loads (ks ++ ls) s old new before after) (sym (is.1 ∙ ap Err is.2)) whole

-- ---- all of them

module _ (trees : Trees) (months : Months) (meta : HasMonths months trees) where
  -- what was read of the first version, with the fees and the endings that a version has
  abbrev read : Version → machine.State
  read version =
      let first = with_records first_kinds trees (empty_over months) in
      record first {
        books = record first.books {
          branch_fees = rows_since Second version (rows_in (shape_of BranchFees) {R = order_of BranchFees} trees);
          part_fees = rows_since Second version (rows_in (shape_of PartFees) {R = order_of PartFees} trees);
          endings = rows_since Second version (rows_in (shape_of Endings) {R = order_of Endings} trees);
        };
      }

  -- and with its months
  abbrev over : Months → machine.State
  over m = let s = read m.version in record s { books = record s.books { first = m.first; next = m.next; version = m.version } }

  read_over : (version : Version) → months.version ≡ version → with_records (kinds_of version) trees (empty_over months) ≡ over months
  read_over First is = ap read (sym is)
  read_over Second is = ap read (sym is)

  pub loaded_books : (version : Version) → months.version ≡ version → (books : machine.State) → AreLoaded (kinds_of version) trees (empty_over months) books
      → books ≡ loaded_from trees
  loaded_books version is books it =
      it.books ∙ read_over version is ∙ ap over (sym (told months trees meta))

  -- the version that meta gives
  pub given : (version : Version) → months.version ≡ version → version_of_tables trees ≡ version
  given version is = ap (λ (m : Months). m.version) (told months trees meta) ∙ is

  pub loaded_order : (version : Version) → months.version ≡ version → (before books : machine.State) → catalog.IsSound (schema_of version) trees
      → AreLoaded (kinds_of version) trees before books → AreInOrder trees
  loaded_order version is before books listed it = record {
    listed = subst (λ (v : Version). catalog.IsSound (schema_of v) trees) (sym (given version is)) listed;
    months = months;
    meta = meta;
    tables = λ kind has. each_of (λ kind. IsTableInOrder kind trees) version it.in_order kind (subst (λ (v : Version). HasKind v kind) (given version is) has);
  }

-- meta gives one version
one_version : (v w : Version) → pos (version_number v) ≡ pos (version_number w) → v ≡ w
one_version First First e = refl
one_version First Second e = cc
one_version Second First e = cc
one_version Second Second e = refl

pub months_have : (months : Months) (version : Version) (trees : Trees) → HasMonths months trees
    → only_version (meta_rows trees) ≡ Some (pos (version_number version)) → months.version ≡ version
months_have months version trees has is =
    one_version months.version version (inside _ _ (sym (ap only_version has.rows_are) ∙ is))

-- the version that meta gives is that of tables in order
pub version_given : (version : Version) (trees : Trees) → AreInOrder trees → only_version (meta_rows trees) ≡ Some (pos (version_number version))
    → version_of_tables trees ≡ version
version_given version trees order is = given trees order.months order.meta version (months_have order.months version trees order.meta is)

-- where meta gives no version of ours, not all columns hold values of their kinds
pub no_version : (trees : Trees) → ((version : Version) → only_version (meta_rows trees) ≡ Some (pos (version_number version)) → ⊥) → ¬ HasValues trees
no_version trees none has = none has.months.version (ap only_version has.meta.rows_are)

-- damage in some rows is damage
pub no_values : (version : Version) (trees : Trees) → only_version (meta_rows trees) ≡ Some (pos (version_number version))
    → (¬ AllAreRecords (kinds_of version) trees) → ¬ HasValues trees
no_values version trees is damaged has =
    let its = given trees has.months has.meta version (months_have has.months version trees has.meta is) in
    damaged (of_each (λ kind. AreRecords kind trees) version (λ kind here. has.rows kind (subst (λ (v : Version). HasKind v kind) (sym its) here)))
