use Rattle.std.proofs.Common.{◌≡◌, ◌∙◌, [], ℕ, List, Option, Ok, ap, arith, false, rules, subst, sym, true}
use Rattle.dh_agency.specs.Faults.{IsFirstFault}
use Rattle.dh_http.specs.Printed.{PrintsBehind}
use Rattle.dh_http.specs.Service.{ServesOn}
use Rattle.dh_http.specs.Watched.{IsWatched}
use Rattle.dh_http.proofs.PrintedLemmas.{goes_on_told, halt_told, is_fault, is_output, served_more, served_none}
use Rattle.dh_http.proofs.PrintedLemmas.{served_to_break, served_to_fault, served_to_halt, watched_none}
use Rattle.dh_http.proofs.connections.serve_connections.Goals as goal

pub loop-served-init : goal.loop-served-init
loop-served-init g c = record {
  served = served_none g.S.Store c.args.agency.now (g.F.Watch.sightings c.args.file.now) (g.W.Write.contents c.args.writer.now);
  live = c.requires;
  was_clean = search rules;
}

pub loop-served-preserved : goal.loop-served-preserved
loop-served-preserved g c =
    let live : c.serve_next.new.agency.is_stopped ≡ false = sym c.is_stopped.ensures ∙ c.if-is_stopped.false in
    let goes = goes_on_told c.loop-served.agency c.serve_next.new.agency c.in_ok-outcome.outcome c.in_ok-outcome.ensures.stops live in
    record {
      served =
          served_more g.S.Store c.args.agency.now c.loop-served.agency c.serve_next.new.agency
          (g.F.Watch.sightings c.args.file.now) (g.F.Watch.sightings c.loop-served.file) (g.F.Watch.sightings c.serve_next.new.file)
          (g.W.Write.contents c.args.writer.now) (g.W.Write.contents c.loop-served.writer) (g.W.Write.contents c.print_outcome.new.writer)
          c.loop-served._served c.in_ok-outcome.outcome c.loop-served.invariant.served c.in_ok-outcome.ensures.on c.in_ok-outcome.ensures.seen
          c.in_ok-print_outcome.ensures goes;
      live = live;
      was_clean = omega (arith, c.loop-served.invariant.was_clean, c.serve_next.ensures.was_clean);
    }

pub returns-in_err-outcome-clause-served : goal.returns-in_err-outcome-clause-served
returns-in_err-outcome-clause-served g c =
    subst (λ r.
    (outcomes : List (Option ℕ)) × ServesOn g.S.Store c.args.agency.now c.serve_next.new.agency outcomes
    × PrintsBehind c.args.count [] outcomes (g.W.Write.contents c.args.writer.now) (g.W.Write.contents c.loop-served.writer) r
    × IsWatched (g.F.Watch.sightings c.args.file.now) (g.F.Watch.sightings c.serve_next.new.file) outcomes r)
    (sym (is_fault c.in_err-outcome.field-0.0 c.from_residual.result c.from_residual.ensures.1))
    (served_to_fault g.S.Store c.args.agency.now c.loop-served.agency c.serve_next.new.agency
    (g.F.Watch.sightings c.args.file.now) (g.F.Watch.sightings c.loop-served.file) (g.F.Watch.sightings c.serve_next.new.file)
    (g.W.Write.contents c.args.writer.now) (g.W.Write.contents c.loop-served.writer) c.loop-served._served c.args.count c.in_err-outcome.field-0.0
    c.loop-served.invariant.served c.in_err-outcome.ensures.same c.loop-served-test.true c.in_err-outcome.ensures.missed)

pub returns-in_err-outcome-clause-fault : goal.returns-in_err-outcome-clause-fault
returns-in_err-outcome-clause-fault g c fault is =
    let told : fault ≡ c.in_err-outcome.field-0.0 = cc (is, is_fault c.in_err-outcome.field-0.0 c.from_residual.result c.from_residual.ensures.1) in (
      ap (λ seat. seat.is_stopped) c.in_err-outcome.ensures.same ∙ c.loop-served.invariant.live,
      subst IsFirstFault (sym told) c.in_err-outcome.ensures.cause,
    )

pub returns-in_err-outcome-clause-was_clean : goal.returns-in_err-outcome-clause-was_clean
returns-in_err-outcome-clause-was_clean g c = omega (arith, c.loop-served.invariant.was_clean, c.serve_next.ensures.was_clean)

pub returns-in_err-print_outcome-clause-served : goal.returns-in_err-print_outcome-clause-served
returns-in_err-print_outcome-clause-served g c =
    subst (λ r.
    (outcomes : List (Option ℕ)) × ServesOn g.S.Store c.args.agency.now c.serve_next.new.agency outcomes
    × PrintsBehind c.args.count [] outcomes (g.W.Write.contents c.args.writer.now) (g.W.Write.contents c.print_outcome.new.writer) r
    × IsWatched (g.F.Watch.sightings c.args.file.now) (g.F.Watch.sightings c.serve_next.new.file) outcomes r)
    (sym (is_output c.in_err-print_outcome.field-0.0 c.from_residual-in_err-print_outcome.result c.from_residual-in_err-print_outcome.ensures.1))
    (served_to_break g.S.Store c.args.agency.now c.loop-served.agency c.serve_next.new.agency
    (g.F.Watch.sightings c.args.file.now) (g.F.Watch.sightings c.loop-served.file) (g.F.Watch.sightings c.serve_next.new.file)
    (g.W.Write.contents c.args.writer.now) (g.W.Write.contents c.loop-served.writer) (g.W.Write.contents c.print_outcome.new.writer)
    c.loop-served._served c.in_ok-outcome.outcome c.loop-served.invariant.served c.in_ok-outcome.ensures.on c.in_ok-outcome.ensures.seen
    c.in_err-print_outcome.field-0.0 c.args.count c.loop-served-test.true c.in_err-print_outcome.ensures)

pub returns-in_err-print_outcome-clause-was_clean : goal.returns-in_err-print_outcome-clause-was_clean
returns-in_err-print_outcome-clause-was_clean g c = omega (arith, c.loop-served.invariant.was_clean, c.serve_next.ensures.was_clean)

pub returns-then-is_stopped-clause-served : goal.returns-then-is_stopped-clause-served
returns-then-is_stopped-clause-served g c =
    let stopped : c.serve_next.new.agency.is_stopped ≡ true = sym c.is_stopped.ensures ∙ c.if-is_stopped.true in
    served_to_halt g.S.Store c.args.agency.now c.loop-served.agency c.serve_next.new.agency
    (g.F.Watch.sightings c.args.file.now) (g.F.Watch.sightings c.loop-served.file) (g.F.Watch.sightings c.serve_next.new.file)
    (g.W.Write.contents c.args.writer.now) (g.W.Write.contents c.loop-served.writer) (g.W.Write.contents c.print_outcome.new.writer)
    c.loop-served._served c.in_ok-outcome.outcome c.loop-served.invariant.served c.in_ok-outcome.ensures.on c.in_ok-outcome.ensures.seen
    c.args.count c.loop-served-test.true c.in_ok-print_outcome.ensures
    (halt_told c.loop-served.agency c.serve_next.new.agency c.in_ok-outcome.outcome c.in_ok-outcome.ensures.stops
    c.loop-served.invariant.live stopped)

pub returns-clause-served : goal.returns-clause-served
returns-clause-served g c =
    let was = c.loop-served.invariant.served in (
      was.outcomes,
      was.on,
      (record { count_is = omega (arith, was.count_is); going = was.going }, was.written),
      watched_none (g.F.Watch.sightings c.args.file.now) (g.F.Watch.sightings c.loop-served.file) was.outcomes (Ok tt) was.watched,
    )
