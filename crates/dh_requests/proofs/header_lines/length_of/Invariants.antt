use Rattle.std.proofs.Common.{◌≡◌, ◌+◌, min, take, true}
use Rattle.std.specs.List.{list_all}
use Rattle.std.specs.Char.{is_ascii_digit}
use Rattle.std.specs.Str.Parse.{digits_value}
use Rattle.dh_requests.specs.declared.limits.TheConstants.{BODY_BYTES}
use Rattle.dh_requests.proofs.header_lines.length_of.Given as goal

abbrev pub invariant-loop-digit : goal.invariant-loop-digit
invariant-loop-digit l = record {
  digits : list_all is_ascii_digit (take l.digit-index l.value) ≡ true;
  value : l.bytes ≡ min (digits_value 10 (take l.digit-index l.value)) (BODY_BYTES + 1);
}
