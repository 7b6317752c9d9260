-- Calls that only read, one after the other.
use Rattle.std.proofs.Common.{◌∙◌, arith, Result, Ok}
use Rattle.sqlite.specs.State.{HasCleanDisk, State}
use Rattle.dh_types.specs.declared.reply.Fault.{Fault}
use Rattle.dh_schema.specs.Store.{StaysReady}
use Rattle.dh_schema.proofs.Crashing.{survives_both}
use Rattle.dh_schema.proofs.ReadTables.{on_ok}
use Rattle.dh_schema.specs.Reading.{OnlyReads}

pub reads_then : {X Y : Type 0} {x : X} {a b c : State} {r : Result Y Fault} → OnlyReads a b (Ok x) → OnlyReads b c r → OnlyReads a c r
reads_then {a = a} {b = b} {c = c} {r = r} one two =
    let early : HasCleanDisk c → HasCleanDisk b = λ clean. omega (arith, two.crash.clean, clean) in
    let on : HasCleanDisk c → StaysReady b c → StaysReady a c = λ clean it. (it.0, it.1 ∙ (one.done (early clean)).1) in
    record {
      done = λ clean. on_ok r (on clean) (two.done clean);
      kept = λ clean still. on clean (two.kept clean still);
      cause = two.cause;
      crash = survives_both a b c one.crash two.crash;
    }
