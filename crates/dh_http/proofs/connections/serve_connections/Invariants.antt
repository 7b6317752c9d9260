use Rattle.std.proofs.Common.{◌≡◌, false}
use Rattle.dh_agency.specs.Agency.{WasClean}
use Rattle.dh_http.proofs.PrintedLemmas.{HasServed}
use Rattle.dh_http.proofs.connections.serve_connections.Given as goal

abbrev pub invariant-loop-served : goal.invariant-loop-served
invariant-loop-served g l = record {
  served : HasServed g.S.Store l.initial.agency l.agency (g.F.Watch.sightings l.initial.file) (g.F.Watch.sightings l.file)
      (g.W.Write.contents l.initial.writer) (g.W.Write.contents l.writer) l._served;
  live : l.agency.is_stopped ≡ false;
  was_clean : WasClean g.S.Store l.initial.agency l.agency;
}
