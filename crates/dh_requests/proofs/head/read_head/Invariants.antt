use Rattle.std.proofs.Common.{◌-◌, ◌≡◌, ◌≤◌, ◌<◌, take, length}
use Rattle.std.specs.Io.KnownBytes.{Consumes}
use Rattle.dh_requests.specs.declared.limits.TheConstants.{HEADER_LINES, ROOM}
use Rattle.dh_requests.specs.Heads.{IsUnfinished}
use Rattle.dh_requests.proofs.head.read_head.Given as goal

-- what was read is at the front of the buffer, and is no head yet
abbrev pub invariant-loop-filled : goal.invariant-loop-filled
invariant-loop-filled g l = record {
  room : length l.buffer ≡ ROOM;
  lines : length l.headers ≡ HEADER_LINES;
  within : l.filled ≤ ROOM;
  read : Consumes (g.R.Read.remaining l.fn.reader) (g.R.Read.remaining l.reader) (take l.filled l.buffer);
  unfinished : 0 < l.filled → IsUnfinished (take l.filled l.buffer);
}

abbrev pub decreases-loop-filled : goal.decreases-loop-filled
decreases-loop-filled g l = ROOM - l.filled
