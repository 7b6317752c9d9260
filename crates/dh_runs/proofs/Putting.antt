-- Rows that were put into their tables, as what becomes of the books.
use Rattle.std.proofs.Common.{◌≡◌, ◌∙◌, refl, sym, ap, Bool, true, false, [], ◌∷◌, Option, Some, None, is_some, Result, Ok, arith}
use Rattle.std.proofs.lemmas.Bool.{false≢true}
use Rattle.std.proofs.lemmas.Result.{on_ok_weaker}
use Rattle.std.specs.FinMap.{FinMap, get, insert}
use Rattle.sqlite.specs.declared.error.Error.{Error}
use Rattle.sqlite.specs.State.{HasCleanDisk, State}
use Rattle.dh_types.specs.declared.run.Part.{Part}
use Rattle.dh_types.specs.declared.fee.PartFee.{PartFee}
use Rattle.dh_types.specs.declared.version.Version.TheVariants.{Second}
use Rattle.dh_model.specs.Books.{Books}
use Rattle.dh_model.specs.Books as machine
use Rattle.dh_leases.specs.Plans.{HasItsFeeRow}
use Rattle.std.specs.Prelude.{IfSome}
use Rattle.dh_model.specs.Runs.{part_fee_key, part_key}
use Rattle.dh_model.proofs.KeyOrders.{nat_text_ties, nat_text_total}
use Rattle.dh_ddl.specs.Versions.{schema_of}
use Rattle.dh_sql.specs.Shape.{rows_in}
use Rattle.dh_sql.proofs.EachRow.{with_none, with_one}
use Rattle.dh_tables.specs.Calls.{IsWritingSince}
use Rattle.dh_model.specs.Kinds.{order_of}
use Rattle.dh_schema.specs.Kinds.{shape_of}
use Rattle.dh_model.specs.Kinds.{PartFees, Parts}
use Rattle.dh_schema.specs.Store.{IsWriting, tables}
use Rattle.dh_schema.specs.Tables.{version_of_tables}
use Rattle.dh_schema.proofs.Crashing.{survives_both}
use Rattle.dh_schema.proofs.EachKind.{all_since}
use Rattle.dh_schema.proofs.Keyed.{keyed}
use Rattle.dh_schema.proofs.Putting.{IsThere, Means, keeps_both}
use Rattle.dh_schema.specs.Putting.{Puts, TurnsBooks}
use Rattle.dh_runs.specs.Putting.{with_fees, with_part}

-- what writes tables of the second version writes those that came with it
pub later_writing : (s : State) → IsWriting s → version_of_tables s.now.trees ≡ Second → IsWritingSince Second s
later_writing s writing second = record { inside = writing.inside; has = writing.version ∙ ap schema_of second }

-- ---- one after the other

-- what was put, and then this
pub puts_both : {books : Books} (later : Books → Books) {a b c : State} {x : Unit {0}} {r : Result (Unit {0}) Error} → Puts books (Ok x) a b
    → TurnsBooks later r b c → Puts (later books) r a c
puts_both {books = books} later {a = a} {b = b} {c = c} {r = r} one two =
    let half : HasCleanDisk c → HasCleanDisk b = λ clean. omega (arith, two.crash.clean, clean) in
    record {
      put = λ clean. on_ok_weaker r (λ done. (done.0, done.1 ∙ ap later (one.put (half clean)).1)) (two.put clean);
      kept = λ clean. keeps_both a b c (one.kept (half clean)) (two.kept clean);
      crash = survives_both a b c one.crash two.crash;
    }

-- these are the books that the tables have
pub puts_own : {books : Books} {x : Unit {0}} {a b : State} → Puts books (Ok x) a b → Puts (tables b).books (Ok x) a b
puts_own one = record { put = λ clean. ((one.put clean).0, refl); kept = one.kept; crash = one.crash }

-- ---- a part row

part_is : (there part : Part) → part_key there ≡ part_key part → record there { through = part.through; count = part.count; total = part.total } ≡ part
part_is there part same = λ i. record {
  month = (same i).0;
  branch = (same i).1;
  through = part.through;
  count = part.count;
  total = part.total;
}

pub with_new_part : (part : Part) (books : Books)
    → (let it : Books = record books { parts = insert books.parts (part_key part) part } in it) ≡ with_part part books
with_new_part part books =
    ap (λ (parts : FinMap _ Part). let it : Books = record books { parts = parts } in it)
    (sym (with_one part_key nat_text_total nat_text_ties part books.parts))

found : {X : Type 0} (it : Option X) → is_some it ≡ true → (x : X) × (it ≡ Some x)
found None h = absurd (false≢true h)
found (Some x) h = (x, refl)

-- what its branch has of the run becomes this
pub part_there : (part : Part) (old new : State) → is_some (get (tables old).books.parts (part_key part)) ≡ true
    → IsThere Parts (part_key part) (λ it. record it { through = part.through; count = part.count; total = part.total }) old new (with_part part)
part_there part old new some =
    let books = (tables old).books in
    let it = found (get books.parts (part_key part)) some in
    let own = part_is it.0 part (keyed Parts old.now.trees (part_key part) it.0 it.1) in (
      it.0,
      it.1,
      ap (λ (row : Part). let after : Books = record books { parts = insert books.parts (part_key part) row } in after) own ∙ with_new_part part books,
    )

-- or it has nothing of it
pub part_new : {X : Type 0} (it : Option X) → is_some it ≡ false → it ≡ None
part_new None h = refl
part_new (Some x) h = absurd (false≢true (sym h))

-- ---- a fee row

fee_is : (there fee : PartFee) → part_fee_key there ≡ part_fee_key fee → record there { fee = fee.fee; total = fee.total } ≡ fee
fee_is there fee same = λ i. record { month = (same i).0; branch = (same i).1; fee = fee.fee; total = fee.total }

pub with_new_fee : (fee : PartFee) (books : Books)
    → (let it : Books = record books { part_fees = insert books.part_fees (part_fee_key fee) fee } in it) ≡ with_fees (fee ∷ []) books
with_new_fee fee books =
    ap (λ (fees : FinMap _ PartFee). let it : Books = record books { part_fees = fees } in it)
    (sym (with_one part_fee_key nat_text_total nat_text_ties fee books.part_fees))

pub no_fees : (books : Books) → with_fees [] books ≡ books
no_fees books =
    ap (λ (fees : FinMap _ PartFee). let it : Books = record books { part_fees = fees } in it)
    (with_none part_fee_key nat_text_total nat_text_ties books.part_fees)

-- what its part has becomes this
pub fee_there : (fee : PartFee) (old new : State) (second : version_of_tables old.now.trees ≡ Second)
    → is_some (get (tables old).books.part_fees (part_fee_key fee)) ≡ true
    → IsThere PartFees (part_fee_key fee) (λ it. record it { fee = fee.fee; total = fee.total }) old new (with_fees (fee ∷ []))
fee_there fee old new second some =
    let books = (tables old).books in
    let all = all_since Second (version_of_tables old.now.trees) (rows_in (shape_of PartFees) {R = order_of PartFees} old.now.trees) second in
    let it = found (get books.part_fees (part_fee_key fee)) some in
    let own = fee_is it.0 fee (keyed PartFees old.now.trees (part_fee_key fee) it.0 it.1) in (
      it.0,
      ap (λ (m : FinMap _ PartFee). get m (part_fee_key fee)) (sym all) ∙ it.1,
      (λ i. let after : Books = record books { part_fees = insert (sym all i) (part_fee_key fee) (own i) } in after) ∙ with_new_fee fee books,
    )

-- or it is added to what the tables have
pub fee_added : (fee : PartFee) (old new : State) → version_of_tables old.now.trees ≡ Second
    → Means PartFees (insert (rows_in (shape_of PartFees) old.now.trees) (part_fee_key fee) fee) old new (with_fees (fee ∷ []))
fee_added fee old new second =
    let books = (tables old).books in
    let all = all_since Second (version_of_tables old.now.trees) (rows_in (shape_of PartFees) {R = order_of PartFees} old.now.trees) second in
    (λ i. let after : Books = record books { part_fees = insert (sym all i) (part_fee_key fee) fee } in after) ∙ with_new_fee fee books

-- a fee row that the books lack is not in the tables
pub fee_new : (fee : PartFee) (old : State) → version_of_tables old.now.trees ≡ Second
    → is_some (get (tables old).books.part_fees (part_fee_key fee)) ≡ false
    → get (rows_in (shape_of PartFees) {R = order_of PartFees} old.now.trees) (part_fee_key fee) ≡ None
fee_new fee old second none =
    let all = all_since Second (version_of_tables old.now.trees) (rows_in (shape_of PartFees) {R = order_of PartFees} old.now.trees) second in
    ap (λ (m : FinMap _ PartFee). get m (part_fee_key fee)) (sym all) ∙ part_new (get (tables old).books.part_fees (part_fee_key fee)) none

-- a fee row whose part has one or not has one or not in other books that have the same fee rows
pub fee_still : (fee : Option PartFee) (has_part : Bool) (s t : machine.State) → t.books.version ≡ s.books.version → t.books.part_fees ≡ s.books.part_fees
    → IfSome fee (HasItsFeeRow has_part s) → IfSome fee (HasItsFeeRow has_part t)
fee_still None has_part s t version fees h = tt
fee_still (Some fee) has_part s t version fees h = record {
  second = version ∙ h.second;
  known = h.known ∙ ap (λ (m : FinMap _ PartFee). is_some (get m (part_fee_key fee))) (sym fees);
}
