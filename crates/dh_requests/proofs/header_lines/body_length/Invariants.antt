use Rattle.std.proofs.Common.{◌≡◌, take, map, codes}
use Rattle.httparse.specs.Spans.{header_bytes}
use Rattle.dh_requests.specs.HeaderLines.{values_of, body_length}
use Rattle.dh_requests.proofs.header_lines.body_length.Given as goal

abbrev pub invariant-loop-header : goal.invariant-loop-header
invariant-loop-header l = l.found ≡ body_length (values_of (codes "content-length") (map (header_bytes l.buffer) (take l.header-index l.headers)))
