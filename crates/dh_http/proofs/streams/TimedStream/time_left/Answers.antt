use Rattle.std.proofs.Common.{◌*◌, Err, Ok, Some, [], ◌∷◌, ap, refl, sym, ◌∙◌}
use Rattle.std.proofs.lemmas.Bool.{false≢true}
use Rattle.std.specs.Duration.{as_nanos}
use Rattle.dh_http.specs.Calls.{AsksLeft, AsksTime, nanos}
use Rattle.dh_http.proofs.CallLemmas.{is_error, left_is, some_left}
use Rattle.dh_http.proofs.streams.TimedStream.time_left.Goals as goal

pub returns-in_err-now-clause-asks : goal.returns-in_err-now-clause-asks
returns-in_err-now-clause-asks g c =
    let e = c.in_err-now.field-0.0 in
    (AsksTime (Err e) ∷ [], c.in_err-now.ensures.made, AsksLeft.Timeless e refl refl (is_error e c.from_residual.result c.from_residual.ensures.1))

pub returns-then-is_zero-clause-asks : goal.returns-then-is_zero-clause-asks
returns-then-is_zero-clause-asks g c =
    let now = c.in_ok-now.now in
    let begun = c.args.self.now.begun in
    let is =
    left_is (nanos c.args.self.now.seconds) begun now c.unwrap_or-begun.result (as_nanos c.from_secs.result) (as_nanos c.duration_since.result)
    (as_nanos c.saturating_sub-left.result) c.unwrap_or-begun.ensures c.from_secs.ensures c.duration_since.ensures c.saturating_sub-left.ensures in (
      AsksTime (Ok now) ∷ [],
      c.in_ok-now.ensures.made,
      AsksLeft.Late now c.into.result refl (ap Some c.unwrap_or-begun.ensures) (sym is ∙ c.if-is_zero.ensures.0 refl) c.into.ensures refl,
    )

pub returns-clause-asks : goal.returns-clause-asks
returns-clause-asks g c =
    let now = c.in_ok-now.now in
    let begun = c.args.self.now.begun in
    let is =
    left_is (nanos c.args.self.now.seconds) begun now c.unwrap_or-begun.result (as_nanos c.from_secs.result) (as_nanos c.duration_since.result)
    (as_nanos c.saturating_sub-left.result) c.unwrap_or-begun.ensures c.from_secs.ensures c.duration_since.ensures c.saturating_sub-left.ensures in (
      AsksTime (Ok now) ∷ [],
      c.in_ok-now.ensures.made,
      AsksLeft.InTime now c.saturating_sub-left.result refl (ap Some c.unwrap_or-begun.ensures) is
          (some_left (as_nanos c.saturating_sub-left.result) (λ e. false≢true (c.if-is_zero.ensures.1 e))) refl,
    )
