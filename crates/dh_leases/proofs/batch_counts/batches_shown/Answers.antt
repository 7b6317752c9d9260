use Rattle.std.proofs.Common.{◌≡◌, ◌∙◌, sym, ap, true, false, cond, Bool, ℕ, List, ◌∷◌, length, arith}
use Rattle.std.proofs.lemmas.List.Sums.{sum_by-cons}
use Rattle.std.specs.List.{filter, sum_by}
use Rattle.std.specs.Prelude.{nat_eq}
use Rattle.dh_types.specs.declared.run.Part.{Part}
use Rattle.dh_model.specs.Runs.{batch_size, batches_for}
use Rattle.dh_laws.proofs.ShownLemmas.Batches.{shown_are_done}
use Rattle.dh_leases.proofs.batch_counts.batches_shown.Goals as goal

abbrev batches : Part → ℕ
batches part = batches_for batch_size part.count

-- the batches of a part of the month count, and those of another don't
module _ (month : ℕ) (part : Part) (rest : List Part) where
  abbrev of_month : List Part → List Part
  of_month = filter (λ part. nat_eq part.month month)

  counted : (own : Bool) → nat_eq part.month month ≡ own
      → sum_by batches (of_month (part ∷ rest)) ≡ sum_by batches (cond own (part ∷ of_month rest) (of_month rest))
  counted own is = ap (λ b. sum_by batches (cond b (part ∷ of_month rest) (of_month rest))) is

pub loop-part-preserved-then-eq : goal.loop-part-preserved-then-eq
loop-part-preserved-then-eq c =
    let month = c.args.month in
    let part = c.in-Some.part.now in
    let rest = c.next.new.self in
    let own : c.batches_for-done.result ≡ batches_for batch_size part.count =
    c.batches_for-done.ensures.value ∙ ap (batches_for batch_size) c.from.ensures in
    let steps = c.in-Some.ensures.steps in
    let first = ap (λ parts. sum_by batches (of_month month part rest parts)) steps
    ∙ counted month part rest true (sym c.eq.ensures ∙ c.if-eq.true) ∙ sum_by-cons batches part (of_month month part rest rest) in
    let fewer = ap length steps in
    record {
      value = omega (arith, own, first, c.loop-part.invariant.value);
      range = omega (arith, fewer, c.batches_for-done.ensures.bound, c.from.type_inv, c.loop-part.invariant.range);
    }

pub loop-part-preserved : goal.loop-part-preserved
loop-part-preserved c =
    let month = c.args.month in
    let part = c.in-Some.part.now in
    let rest = c.next.new.self in
    let steps = c.in-Some.ensures.steps in
    let first = ap (λ parts. sum_by batches (of_month month part rest parts)) steps
    ∙ counted month part rest false (sym c.eq.ensures ∙ c.if-eq.false) in
    let fewer = ap length steps in
    record {
      value = omega (arith, first, c.loop-part.invariant.value);
      range = omega (arith, fewer, c.loop-part.invariant.range);
    }

pub returns-clause-posted : goal.returns-clause-posted
returns-clause-posted c = λ done posted.
    let books = c.args.books.now.books in
    let month = c.args.month in
    let none = ap (λ parts. sum_by batches (filter (λ part. nat_eq part.month month) parts)) c.in-None.ensures.steps.0 in
    let all = c.loop-part.invariant.value in
    let shown = shown_are_done batch_size books month done (omega arith) c.parts-parts.ensures.numbered c.parts-parts.ensures.keyed posted in
    omega (arith, all, none, shown)
