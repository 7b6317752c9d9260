use Rattle.std.proofs.Common.{◌≡◌, ◌^◌, ◌<◌, ◌≤◌, true, length, drop}
use Rattle.std.specs.Char.{is_ascii_digit}
use Rattle.std.specs.List.{list_all}
use Rattle.dh_values.specs.Numbers.{number_after}
use Rattle.dh_values.proofs.digits.number.Given as goal

abbrev pub invariant-loop-b : goal.invariant-loop-b
invariant-loop-b l = record {
  few : length l.bytes ≤ 8;
  digits : list_all is_ascii_digit (drop l.b-index l.bytes) ≡ true;
  value : number_after l.n (drop l.b-index l.bytes) ≡ number_after 0 l.bytes;
  bound : l.n < 10 ^ l.b-index;
}
