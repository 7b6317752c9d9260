use Rattle.std.proofs.Common.{◌≡◌, ℕ, List, length, take, sym, subst, arith, ap, ◌∙◌}
use Rattle.std.specs.Io.KnownBytes.{Consumes, prepend_known}
use Rattle.std.proofs.lemmas.Result.{IfOk-weaker}
use Rattle.std.proofs.lemmas.Slice.{take-put_mid}
use borrow.Rule.Slice.PartMut.{put_mid}
use Rattle.dh_reading.specs.Bodies.{FillsOrEnds}
use Rattle.dh_reading.proofs.BodyLemmas.{after_front, filled}
use Rattle.dh_reading.proofs.body.fill_from.Goals as goal

placed : (k : ℕ) (body front new : List ℕ) → new ≡ front → take (length front) (put_mid 0 k body new) ≡ front
placed k body front new e = take-put_mid 0 k body new (length front) (omega (arith, ap length e)) (omega arith) ∙ e

pub returns-clause-whole : goal.returns-clause-whole
returns-clause-whole g c =
    let front = c.args.front.now in
    let start = prepend_known front (g.R.Read.remaining c.args.reader.now) in
    IfOk-weaker c.fill.result (FillsOrEnds start (g.R.Read.remaining c.fill.new.reader) c.fill.new.buffer) _
    (λ whole x. filled (g.R.Read.remaining c.args.reader.now) (g.R.Read.remaining c.fill.new.reader) front c.fill.new.buffer whole x)
    (c.fill.ensures.bytes start
    (subst (Consumes start (g.R.Read.remaining c.args.reader.now))
    (sym (placed (length front) c.args.body.now front c.copy_from_slice-2.new.self c.copy_from_slice-2.ensures.after))
    (after_front (g.R.Read.remaining c.args.reader.now) front)))
