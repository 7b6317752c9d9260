use Rattle.std.proofs.Common.{◌≡◌, length}
use Rattle.std.specs.Io.KnownBytes.{Keeps}
use Rattle.dh_reading.proofs.ReadLemmas.{WereInterrupted}
use Rattle.dh_reading.proofs.again.read_again.Given as goal

abbrev pub invariant-loop-turn : goal.invariant-loop-turn
invariant-loop-turn g l = record {
  room : length l.buf ≡ length l.initial.buf;
  kept : Keeps (g.S.Source.remaining l.initial.source) (g.S.Source.remaining l.source);
  interrupted : WereInterrupted (g.S.Source.reads l.initial.source) (g.S.Source.reads l.source) l._turn;
}
