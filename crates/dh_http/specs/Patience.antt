-- How long a peer is waited for where nothing else is asked for.
use Rattle.dh_http.specs.declared.patience.Patience.{Patience}

-- half a minute for a request, half a minute for its answer, and two seconds or 64 KiB of what comes behind it
abbrev pub standard_patience : Patience
standard_patience = record { request_seconds = 30; answer_seconds = 30; rest_seconds = 2; rest_bytes = 65536 }
