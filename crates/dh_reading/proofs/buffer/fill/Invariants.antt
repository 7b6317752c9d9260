use Rattle.std.proofs.Common.{◌-◌, ◌≡◌, ◌≤◌, take, length, List, ℕ, Option}
use Rattle.std.specs.Io.KnownBytes.{Consumes}
use Rattle.dh_reading.specs.Known.{ConsumesAtMost}
use Rattle.dh_reading.proofs.buffer.fill.Given as goal

abbrev pub invariant-loop-filled : goal.invariant-loop-filled
invariant-loop-filled g l = record {
  room : length l.buffer ≡ length l.fn.buffer;
  within : l.filled ≤ length l.buffer;
  read : (start : Option (List ℕ)) → Consumes start (g.R.Read.remaining l.fn.reader) (take l.front l.fn.buffer)
      → Consumes start (g.R.Read.remaining l.reader) (take l.filled l.buffer);
  consumed : ConsumesAtMost (l.filled - l.front) (g.R.Read.remaining l.fn.reader) (g.R.Read.remaining l.reader);
  reached : l.front ≤ l.filled;
}

abbrev pub decreases-loop-filled : goal.decreases-loop-filled
decreases-loop-filled g l = length l.buffer - l.filled
