use Rattle.std.proofs.Common.{◌≡◌, ◌≤◌, length, take, map}
use Rattle.httparse.specs.Spans.{header_bytes}
use Rattle.dh_requests.specs.HeaderLines.{values_of}
use Rattle.dh_requests.proofs.header_lines.count.Given as goal

abbrev pub invariant-loop-header : goal.invariant-loop-header
invariant-loop-header l = record {
  found : l.found ≡ length (values_of l.name (map (header_bytes l.buffer) (take l.header-index l.headers)));
  fits : l.found ≤ l.header-index;
}
