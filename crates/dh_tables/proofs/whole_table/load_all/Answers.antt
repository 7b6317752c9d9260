use Rattle.std.proofs.Common.{arith, inl, inr, subst, sym}
use Rattle.sqlite.specs.Effect.{Database}
use Rattle.sqlite.specs.State.{HasCleanDisk}
use Rattle.sqlite.specs.Held.{state}
use Rattle.dh_tables.specs.Listing.{HasUniqueKeys}
use Rattle.dh_tables.proofs.whole_table.load_all.Goals as goal

pub returns-clause-corrupt : goal.returns-clause-corrupt
returns-clause-corrupt g c clean is =
    let early : HasCleanDisk (state g.S.Store c.has_rowids.new.conn) = omega (arith, c.gather_all.ensures.crash.clean, clean) in
    let unchanged = c.in_ok-has_rowids.ensures.same early in
    let T = g.R.Tabled in
    elim (c.gather_all.ensures.corrupt clean is) [
      | inl failed ↦ inl (omega (arith, c.has_rowids.ensures.crash.counts, failed))
      | inr twice ↦ inr (λ unique. twice (subst (λ (db : Database). HasUniqueKeys T.shape T.order db.trees) (sym unchanged.0.now_is) unique.keys))
    ]
