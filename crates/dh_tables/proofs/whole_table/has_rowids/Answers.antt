use Rattle.std.proofs.Common.{◌∙◌, subst, sym, true≢false}
use Rattle.sqlite.specs.Held.{state}
use Rattle.dh_tables.specs.Listing.{AreNumbered}
use Rattle.dh_tables.proofs.Whole.{has_rowids, shown_numbered}
use Rattle.dh_tables.proofs.whole_table.has_rowids.Goals as goal

pub returns-clause-rowids : goal.returns-clause-rowids
returns-clause-rowids g c clean good =
    let trees = (state g.S.Store c.args.conn.now).now.trees in
    has_rowids (trees g.R.Tabled.shape.tree) c.in_ok-rows.rows.items (c.in_ok-rows.ensures.rows clean)
    (subst AreNumbered c.deref.ensures.value (c.in_ok-are_numbered.ensures.0 good))

pub returns-clause-unnumbered : goal.returns-clause-unnumbered
returns-clause-unnumbered g c clean bad numbered =
    let trees = (state g.S.Store c.args.conn.now).now.trees in
    let shown = shown_numbered (trees g.R.Tabled.shape.tree) c.in_ok-rows.rows.items (c.in_ok-rows.ensures.rows clean) numbered in
    true≢false (sym (c.in_ok-are_numbered.ensures.1 (subst AreNumbered (sym c.deref.ensures.value) shown)) ∙ bad)
