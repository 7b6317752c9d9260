use Rattle.std.proofs.Common.{◌∙◌, refl, arith}
use Rattle.sqlite.specs.Held.{state}
use Rattle.dh_ddl.proofs.Going.{none_gone, next_at, all_at, kept_on, crash_on}
use Rattle.dh_ddl.proofs.creation.create_each.Goals as goal

pub loop-text-init : goal.loop-text-init
loop-text-init g c = (refl, none_gone _ _ c.requires)

pub loop-text-preserved : goal.loop-text-preserved
loop-text-preserved g c =
    let old = state g.S.Store c.args.tx.now.conn.now in
    let now = state g.S.Store c.loop-text.tx.conn.now in
    let new = state g.S.Store c.create.new.tx.conn.now in
    let made = c.in_ok-create.ensures in (
      c.create.ensures.same_reference ∙ c.loop-text.invariant.0,
      next_at c.args.texts.now c.loop-text.text-index old new _ now (omega arith) c.loop-text.invariant.1
          (record { inside = made.inside; made = made.made; kept = made.kept; crash = made.crash }),
    )

pub returns-in_err-create-clause-same_reference : goal.returns-in_err-create-clause-same_reference
returns-in_err-create-clause-same_reference g c = c.create.ensures.same_reference ∙ c.loop-text.invariant.0

pub returns-in_err-create-clause-kept : goal.returns-in_err-create-clause-kept
returns-in_err-create-clause-kept g c =
    let old = state g.S.Store c.args.tx.now.conn.now in
    let now = state g.S.Store c.loop-text.tx.conn.now in
    let new = state g.S.Store c.create.new.tx.conn.now in
    kept_on _ _ old now new c.loop-text.invariant.1 c.create.ensures.crash c.create.ensures.kept

pub returns-in_err-create-clause-crash : goal.returns-in_err-create-clause-crash
returns-in_err-create-clause-crash g c =
    let old = state g.S.Store c.args.tx.now.conn.now in
    let now = state g.S.Store c.loop-text.tx.conn.now in
    crash_on _ _ old now (state g.S.Store c.create.new.tx.conn.now) c.loop-text.invariant.1 c.create.ensures.crash

pub returns-clause-made : goal.returns-clause-made
returns-clause-made g c clean =
    let old = state g.S.Store c.args.tx.now.conn.now in
    let new = state g.S.Store c.loop-text.tx.conn.now in
    all_at c.args.texts.now c.loop-text.text-index old new c.loop-text-test.false c.loop-text.invariant.1 clean

pub returns-clause-kept : goal.returns-clause-kept
returns-clause-kept g c = c.loop-text.invariant.1.kept

pub returns-clause-crash : goal.returns-clause-crash
returns-clause-crash g c = c.loop-text.invariant.1.crash
