use Rattle.std.proofs.Common.{refl, codes}
use Rattle.dh_http.proofs.FirstLineLemmas.{begins}
use Rattle.dh_http.proofs.laws.first_lines.Goals as goal

pub returns : goal.returns
returns c = record {
  ok = begins 200 (codes "HTTP/1.1 200 OK\r\n") (λ content bytes allow body. refl);
  bad_request = begins 400 (codes "HTTP/1.1 400 Bad Request\r\n") (λ content bytes allow body. refl);
  not_found = begins 404 (codes "HTTP/1.1 404 Not Found\r\n") (λ content bytes allow body. refl);
  method_not_allowed = begins 405 (codes "HTTP/1.1 405 Method Not Allowed\r\n") (λ content bytes allow body. refl);
  conflict = begins 409 (codes "HTTP/1.1 409 Conflict\r\n") (λ content bytes allow body. refl);
  length_required = begins 411 (codes "HTTP/1.1 411 Length Required\r\n") (λ content bytes allow body. refl);
  payload_too_large = begins 413 (codes "HTTP/1.1 413 Payload Too Large\r\n") (λ content bytes allow body. refl);
  head_too_large = begins 431 (codes "HTTP/1.1 431 Request Header Fields Too Large\r\n") (λ content bytes allow body. refl);
  not_implemented = begins 501 (codes "HTTP/1.1 501 Not Implemented\r\n") (λ content bytes allow body. refl);
  unavailable = begins 503 (codes "HTTP/1.1 503 Service Unavailable\r\n") (λ content bytes allow body. refl);
}
