use Rattle.std.proofs.Common.{◌≡◌, ◌∙◌, ◌+◌, ◌≤◌, Err, Option, List, ℕ, inl, inr, false, sym, subst, ap, refl, arith}
use Rattle.std.specs.Prelude.{if◌then◌else◌}
use Rattle.std.proofs.lemmas.Option.{IfSome_then}
use Rattle.csv.specs.Reading.{error_kind}
use Rattle.csv.specs.Records.{fields_of}
use Rattle.dh_agency.specs.Agency.{IsClean}
use Rattle.dh_lines.specs.declared.watched_reader.Watching.{Watching}
use Rattle.dh_lines.specs.Reading.{left_of}
use Rattle.dh_lines.specs.Batch.{IsFirst, IsStoreFault, batch_fault}
use Rattle.dh_lines.proofs.CrashLemmas.{answered_next, leaves_between, leaves_within}
use Rattle.dh_lines.proofs.Following.{goes_on, ends, found}
use Rattle.dh_lines.proofs.RunningLemmas.{all_answered, first_answered, first_unread, ends_early, ends_handed, ends_unread, noted_of_reader}
use Rattle.dh_lines.proofs.RunningLemmas.{halts_handed, no_store_unread, one_at_most, still_on}
use Rattle.dh_lines.proofs.whole_batch.batch.Goals as goal

pub loop-n-preserved : goal.loop-n-preserved
loop-n-preserved g c =
    let inv = c.loop-n.invariant in
    let did = c.in_ok-is_refused.ensures in
    let read = rw c.in-Ok-true.field-0-test at (c.in-Ok-true.ensures.reads inv.plain inv.ready) in
    let on = c.in-Ok-true.ensures.reads_on c.in-Ok-true.field-0-test in
    let rem : Watching g.row.R.Denot → Option (List ℕ) = λ w. left_of w.has_ended (g.R.Read.remaining w.inner.now) in
    let known : Option (List ℕ) = g.R.Read.remaining c.args.reader.now in
    let f = fields_of c.read_byte_record.new.row in
    let small : c.count_of-refused.result ≤ 1 = one_at_most c.in_ok-is_refused.is_refused c.count_of-refused.result c.count_of-refused.ensures in
    let stays : c.answer.new.agency.is_stopped ≡ c.loop-n.agency.is_stopped = elim did.halts.stops [ inl h ↦ h | inr h ↦ absurd h.0 ] in
    let was : IsClean g.S.Store c.answer.new.agency → IsClean g.S.Store c.loop-n.agency = λ clean. omega (arith, did.halts.was_clean, clean) in
    record {
      plain = on.1 ∙ inv.plain;
      ready = (on.4 inv.ready).0;
      config = on.0 ∙ inv.config;
      flexible = on.2 ∙ inv.flexible;
      few = omega (arith, inv.few, small);
      was_clean = omega (arith, inv.was_clean, did.halts.was_clean);
      unmoved = λ dead. did.halts.stopped (inv.stopped ∙ dead) ∙ inv.unmoved dead;
      stopped = stays ∙ inv.stopped;
      left = λ clean h live. did.left clean (inv.left (was clean) h (sym stays ∙ live)) live;
      answered = λ clean. answered_next g.S.Store c.args.agency.now c.loop-n.agency c.answer.new.agency f (inv.answered (was clean)) (did.answers clean).1;
      follows = λ clean.
          let a = did.answers clean in
          goes_on rem known c.read_byte_record.new.self _ _ _ _ _ _ c.loop-n.n c.loop-n.refused _ f
          (found rem known c.loop-n.records c.read_byte_record.new.self _ _ _ _ c.loop-n.n c.loop-n.refused f inv.config read (inv.follows (was clean)))
          a.0 a.1 (ap (λ k. c.loop-n.refused + k) (c.count_of-refused.ensures ∙ ap (λ b. if b then 1 else 0) a.2));
    }

pub returns-in-Ok-false-clause-ends : goal.returns-in-Ok-false-clause-ends
returns-in-Ok-false-clause-ends g c clean =
    let inv = c.loop-n.invariant in
    let read = rw c.in-Ok-false.field-0-test at (c.in-Ok-false.ensures.reads inv.plain inv.ready) in
    let rem : Watching g.row.R.Denot → Option (List ℕ) = λ w. left_of w.has_ended (g.R.Read.remaining w.inner.now) in
    let known : Option (List ℕ) = g.R.Read.remaining c.args.reader.now in
    let all = ends rem known c.loop-n.records c.read_byte_record.new.self _ _ _ _ c.loop-n.n c.loop-n.refused
    (fields_of c.read_byte_record.new.row) inv.config read (inv.follows clean) in
    IfSome_then known all (λ input w. all_answered g.S.Store c.args.agency.now c.loop-n.agency _ _ c.loop-n.n c.loop-n.refused input w)

pub returns-in-Ok-false-clause-crash : goal.returns-in-Ok-false-clause-crash
returns-in-Ok-false-clause-crash g c clean live h =
    let inv = c.loop-n.invariant in
    leaves_between g.S.Store c.args.agency.now c.loop-n.agency (inv.answered clean) (inv.left clean h (inv.stopped ∙ live))

pub returns-in-Err-clause-ends : goal.returns-in-Err-clause-ends
returns-in-Err-clause-ends g c clean =
    let inv = c.loop-n.invariant in
    IfSome_then (g.R.Read.remaining c.args.reader.now) (inv.follows clean)
    (λ input w.
    ends_handed g.S.Store c.args.agency.now c.loop-n.agency _ _ (Err c.from.result) (batch_fault c.end_by_reading-halt.result) input c.from.ensures
    (ends_unread g.S.Store c.args.agency.now c.loop-n.agency _ _ _ _ _ _ input w g.W.Write.contents _ _ (error_kind c.in-Err.error)
    c.failure-failure.result c.end_by_reading-halt.result refl (noted_of_reader _ _ c.failure-failure.ensures) c.end_by_reading-halt.ensures
    (λ rests. inv.left clean rests.1 (inv.stopped ∙ rests.0))))

pub returns-in-Err-clause-crash : goal.returns-in-Err-clause-crash
returns-in-Err-clause-crash g c clean live h =
    let inv = c.loop-n.invariant in
    leaves_between g.S.Store c.args.agency.now c.loop-n.agency (inv.answered clean) (inv.left clean h (inv.stopped ∙ live))

pub returns-in-Err-clause-halts : goal.returns-in-Err-clause-halts
returns-in-Err-clause-halts g c =
    let inv = c.loop-n.invariant in
    record {
      cause = λ live. subst IsFirst (sym c.from.ensures)
          (first_unread g.W.Write.contents _ _ _ (error_kind c.in-Err.error) c.failure-failure.result c.end_by_reading-halt.result
          c.end_by_reading-halt.ensures);
      stops = inl inv.stopped;
      store = λ is. absurd (no_store_unread g.W.Write.contents _ _ _ (error_kind c.in-Err.error) c.failure-failure.result c.end_by_reading-halt.result
          c.end_by_reading-halt.ensures (subst IsStoreFault c.from.ensures is));
      stopped = inv.unmoved;
      was_clean = inv.was_clean;
    }

pub returns-clause-ends : goal.returns-clause-ends
returns-clause-ends g c clean =
    IfSome_then (g.R.Read.remaining c.args.reader.now) (c.loop-n.invariant.follows clean)
    (λ input w. first_answered g.S.Store c.args.agency.now c.loop-n.agency _ _ _ _ _ _ input w c.full.result (λ full. omega (arith, c.loop-n-test.false)))

pub returns-clause-crash : goal.returns-clause-crash
returns-clause-crash g c clean live h =
    let inv = c.loop-n.invariant in
    leaves_between g.S.Store c.args.agency.now c.loop-n.agency (inv.answered clean) (inv.left clean h (inv.stopped ∙ live))

pub returns-in_err-is_refused-clause-ends : goal.returns-in_err-is_refused-clause-ends
returns-in_err-is_refused-clause-ends g c clean =
    let inv = c.loop-n.invariant in
    let did = c.in_err-is_refused.ensures in
    let read = rw c.in-Ok-true.field-0-test at (c.in-Ok-true.ensures.reads inv.plain inv.ready) in
    let rem : Watching g.row.R.Denot → Option (List ℕ) = λ w. left_of w.has_ended (g.R.Read.remaining w.inner.now) in
    let known : Option (List ℕ) = g.R.Read.remaining c.args.reader.now in
    let f = fields_of c.read_byte_record.new.row in
    let was : IsClean g.S.Store c.loop-n.agency = omega (arith, did.halts.was_clean, clean) in
    let next = found rem known c.loop-n.records c.read_byte_record.new.self _ _ _ _ c.loop-n.n c.loop-n.refused f inv.config read (inv.follows was) in
    IfSome_then known next (λ input w.
    ends_handed g.S.Store c.args.agency.now c.answer.new.agency _ _ c.from_residual.result (batch_fault c.in_err-is_refused.field-0.0) input
    c.from_residual.ensures.1
    (ends_early g.S.Store c.args.agency.now c.loop-n.agency c.answer.new.agency _ _ _ rem c.read_byte_record.new.self c.loop-n.n c.loop-n.refused f input w
    c.in_err-is_refused.field-0.0 (did.answers clean) did.asked
    (λ rests. did.crash clean (inv.stopped ∙ rests.0) (inv.left was rests.1 (inv.stopped ∙ rests.0)))))

pub returns-in_err-is_refused-clause-crash : goal.returns-in_err-is_refused-clause-crash
returns-in_err-is_refused-clause-crash g c clean live h =
    let inv = c.loop-n.invariant in
    let did = c.in_err-is_refused.ensures in
    let was : IsClean g.S.Store c.loop-n.agency = omega (arith, did.halts.was_clean, clean) in
    let on : c.loop-n.agency.is_stopped ≡ false = inv.stopped ∙ live in
    leaves_within g.S.Store c.args.agency.now c.loop-n.agency c.answer.new.agency (fields_of c.read_byte_record.new.row) (inv.answered was)
    (did.crash clean on (inv.left was h on))

pub returns-in_err-is_refused-clause-left : goal.returns-in_err-is_refused-clause-left
returns-in_err-is_refused-clause-left g c clean h live =
    let inv = c.loop-n.invariant in
    let did = c.in_err-is_refused.ensures in
    let was : IsClean g.S.Store c.loop-n.agency = omega (arith, did.halts.was_clean, clean) in
    let on : c.loop-n.agency.is_stopped ≡ false = still_on did.halts.stops live in
    did.left clean (inv.left was h on) live

pub returns-in_err-is_refused-clause-halts : goal.returns-in_err-is_refused-clause-halts
returns-in_err-is_refused-clause-halts g c =
    let inv = c.loop-n.invariant in
    halts_handed g.S.Store c.args.agency.now c.loop-n.agency c.answer.new.agency c.from_residual.result c.in_err-is_refused.field-0.0 c.from_residual.ensures.1
    inv.stopped inv.was_clean inv.unmoved c.in_err-is_refused.ensures.halts
