use Rattle.std.proofs.Common.{[], ℕ, List, Option, Err, arith, refl, subst, sym}
use Rattle.std.proofs.KnownBytes.{Appends-nil}
use Rattle.dh_types.specs.declared.reply.Fault.TheVariants.{Memory}
use Rattle.dh_http.specs.declared.listener.Unserved.TheVariants as unserved
use Rattle.dh_http.specs.Printed.{AreFewer, Listened, PortUnprinted, PrintsBehind, PrintsServed, Unlistened, port_text}
use Rattle.dh_http.specs.Service.{ServesOn}
use Rattle.dh_http.specs.Watched.{IsWatched}
use Rattle.dh_http.proofs.ServingLemmas.{serves_none}
use Rattle.dh_http.proofs.PrintedLemmas.{is_fault, is_output, is_port_text, prints_behind, unwatched}
use Rattle.dh_http.proofs.listener.serve.Goals as goal

pub returns-in_default-clause-served : goal.returns-in_default-clause-served
returns-in_default-clause-served g c = (
  [],
  serves_none g.S.Store c.args.agency.now,
  Unlistened refl refl refl,
  unwatched (g.F.Watch.sightings c.args.file.now) (Err unserved.NoListener),
)

pub returns-in_err-print_port-clause-served : goal.returns-in_err-print_port-clause-served
returns-in_err-print_port-clause-served g c =
    let asked = c.args.service.port in
    let port = c.in-Ok.port in (
      [],
      serves_none g.S.Store c.args.agency.now,
      PortUnprinted (port_text asked port) (is_port_text asked port) c.in_err-print_port.ensures refl c.in_err-print_port.field-0.0
          (is_output c.in_err-print_port.field-0.0 c.from_residual.result c.from_residual.ensures.1),
      unwatched (g.F.Watch.sightings c.args.file.now) c.from_residual.result,
    )

pub returns-in_err-routes-clause-served : goal.returns-in_err-routes-clause-served
returns-in_err-routes-clause-served g c =
    let asked = c.args.service.port in
    let port = c.in-Ok.port in
    let fewer : AreFewer c.args.service.count [] = record {
      few = omega (arith, c.number-count.ensures.range.0);
      going = λ k d below. absurd (omega arith);
    } in
    subst (λ r.
    (outcomes : List (Option ℕ)) × ServesOn g.S.Store c.args.agency.now c.args.agency.now outcomes
    × PrintsServed c.args.service outcomes (g.W.Write.contents c.args.writer.now) (g.W.Write.contents c.print_port.new.writer) r
    × IsWatched (g.F.Watch.sightings c.args.file.now) (g.F.Watch.sightings c.args.file.now) outcomes r)
    (sym (is_fault Memory c.from_residual-in_err-routes.result c.from_residual-in_err-routes.ensures.1)) (
      [],
      serves_none g.S.Store c.args.agency.now,
      Listened (port_text asked port) (is_port_text asked port)
          (prints_behind c.args.service.count (port_text asked port) [] _ _ _ (Err (unserved.Fault Memory)) c.in_ok-print_port.ensures
          (fewer, Appends-nil _)),
      unwatched (g.F.Watch.sightings c.args.file.now) (Err (unserved.Fault Memory)),
    )

pub returns-clause-served : goal.returns-clause-served
returns-clause-served g c =
    let asked = c.args.service.port in
    let port = c.in-Ok.port in
    let did = c.serve_connections.ensures.served in
    let lines =
    subst (λ n.
    PrintsBehind n [] did.0 (g.W.Write.contents c.print_port.new.writer) (g.W.Write.contents c.serve_connections.new.writer) c.serve_connections.result)
    c.number-count.ensures.value did.2 in (
      did.0,
      did.1,
      Listened (port_text asked port) (is_port_text asked port)
          (prints_behind c.args.service.count (port_text asked port) did.0 _ _ _ c.serve_connections.result c.in_ok-print_port.ensures lines),
      did.3,
    )
