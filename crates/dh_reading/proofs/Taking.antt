-- How much was taken from a reader.
use Rattle.std.proofs.Common.{ℕ, ◌+◌, ◌≤◌, List, [], ◌++◌, Option, take, arith, length-append, length-take}
use Rattle.std.specs.Io.KnownBytes.{Consumes, Keeps}
use Rattle.std.proofs.KnownBytes.{Consumes-nil, Consumes-kept, Consumes-trans}
use Rattle.dh_reading.specs.Known.{ConsumesAtMost}

-- one read after another
pub takes_both : (most more all : ℕ) (a b c : Option (List ℕ)) → ConsumesAtMost most a b → ConsumesAtMost more b c → most + more ≤ all → ConsumesAtMost all a c
takes_both most more all a b c x y h = record {
  taken = x.taken ++ y.taken;
  consumed = Consumes-trans a b c x.taken y.taken x.consumed y.consumed;
  few =
      let p = x.few in
      let q = y.few in
      omega (arith, length-append x.taken y.taken, p, q);
}
