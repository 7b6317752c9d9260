-- The version and the months that were read are still those of the tables.
use Rattle.std.proofs.Common.{◌∙◌, sym, ap, subst, arith, Ok}
use Rattle.sqlite.specs.State.{HasCleanDisk, State}
use Rattle.dh_types.specs.declared.version.Version.{Version}
use Rattle.dh_model.specs.Books as machine
use Rattle.dh_rows.specs.Months.{Months}
use Rattle.dh_schema.specs.Store.{StaysReady, tables}
use Rattle.dh_schema.specs.Months.{AreMonthsOf, IsReadyIn, IsReadyOf}
use Rattle.dh_schema.specs.Reading.{OnlyReads}

pub months_stay : (months : Months) (old new : State) → AreMonthsOf months (tables old).books → StaysReady old new → IsReadyIn months new
months_stay months old new are stays = (stays.0, subst (λ (t : machine.State). AreMonthsOf months t.books) (sym stays.1) are)

-- so is the version after a call that only reads
pub version_stays : {X : Type 0} {x : X} {old new : State} {version : Version} → (HasCleanDisk old → IsReadyOf version old)
    → OnlyReads old new (Ok x) → HasCleanDisk new → IsReadyOf version new
version_stays {old = old} is reads clean =
    let early : HasCleanDisk old = omega (arith, reads.crash.clean, clean) in
    let stays = reads.done clean in
    (stays.0, (is early).1 ∙ sym (ap (λ (t : machine.State). t.books.version) stays.1))
