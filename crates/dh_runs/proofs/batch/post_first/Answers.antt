use Rattle.std.proofs.Common.{◌≡◌, ◌∙◌, ◌⊎◌, refl, sym, inl, ℕ, ◌+◌, ap, length, arith, rules}
use Rattle.sqlite.specs.State.{HasCleanDisk}
use Rattle.sqlite.specs.Held.{state}
use Rattle.dh_model.specs.Books as machine
use Rattle.dh_laws.specs.Batches.{next_batch}
use Rattle.dh_schema.specs.Store.{tables}
use Rattle.dh_schema.proofs.Crashing.{leaves_these, ready_leaves}
use Rattle.dh_runs.specs.declared.batch.Batch.TheVariants.{Posted}
use Rattle.dh_runs.proofs.NextRows.{first_is, next_made, none_next, posted_told, rows_in_order, rows_known, rows_new}
use Rattle.dh_runs.proofs.Along.{in_order, leaves_weaker}
use Rattle.dh_runs.proofs.batch.post_first.Goals as goal

pub commit-requires-clause-order : goal.commit-requires-clause-order
commit-requires-clause-order g c clean =
    let old = state g.S.Store c.args.conn.now in
    let first = first_is _ _ _ c.deref.ensures.value c.first.ensures.value c.in-Some.is in
    rows_in_order c.args.plan.now (tables old) (in_order old (c.requires.ready clean)) (c.requires.plan clean) c.in-Some.rows.now first.0 first.1

pub commit-requires-clause-room : goal.commit-requires-clause-room
commit-requires-clause-room g c clean =
    let old = state g.S.Store c.args.conn.now in
    let order = in_order old (c.requires.ready clean) in
    let first = first_is _ _ _ c.deref.ensures.value c.first.ensures.value c.in-Some.is in (
      rows_new c.args.plan.now (tables old) order (c.requires.plan clean) c.in-Some.rows.now first.0 first.1,
      rows_known c.args.plan.now (tables old) order (c.requires.plan clean) c.in-Some.rows.now first.0 first.1,
    )

pub returns-clause-value : goal.returns-clause-value
returns-clause-value g c clean =
    let old = state g.S.Store c.args.conn.now in
    let early : HasCleanDisk old = omega (arith, c.commit.ensures.steps.was_clean, clean) in
    let first = first_is _ _ _ c.deref.ensures.value c.first.ensures.value c.in-Some.is in
    let plan = c.args.plan.now in
    let same = ap length c.deref.ensures.value in
    let count : c.len.result ≡ length plan.batches.items = omega (arith, same) in
    ap (λ (n : ℕ). Posted (plan.done + 1) (plan.done + n)) count
    ∙ posted_told plan (tables old) (in_order old (c.requires.ready early)) (c.requires.plan early) c.in-Some.rows.now first.0 first.1

pub returns-in_err-commit-clause-steps : goal.returns-in_err-commit-clause-steps
returns-in_err-commit-clause-steps g c =
    let first = first_is _ _ _ c.deref.ensures.value c.first.ensures.value c.in-Some.is in
    let made = next_made (state g.S.Store c.args.conn.now) (state g.S.Store c.commit.new.conn) c.args.plan.now c.in-Some.rows.now first
    c.requires.ready c.requires.plan c.commit.ensures.steps in
    record { done = search rules; undone = search rules; cause = search rules; crash = made.crash; was_clean = made.was_clean }

pub returns-in_default-clause-steps : goal.returns-in_default-clause-steps
returns-in_default-clause-steps g c =
    let old = state g.S.Store c.args.conn.now in
    let none : HasCleanDisk old → tables old ≡ next_batch (tables old) = λ clean.
    sym (none_next c.args.plan.now (tables old) (c.requires.plan clean) _ _ c.deref.ensures.value c.first.ensures.value c.in_default.is) in
    let own : machine.State → Type 0 = λ t. t ≡ tables old in
    record {
      done = λ clean. (c.requires.ready clean, none clean);
      undone = search rules;
      cause = search rules;
      crash = λ clean. leaves_weaker old own (λ t. own t ⊎ (t ≡ next_batch (tables old))) (λ t e. inl e)
          (leaves_these old own (ready_leaves old (g.met.S.Store.settled c.args.conn.now.store) (g.met.S.Store.stays c.args.conn.now.store)
          (c.requires.ready clean)) refl);
      was_clean = search rules;
    }

pub returns-clause-steps : goal.returns-clause-steps
returns-clause-steps g c =
    let first = first_is _ _ _ c.deref.ensures.value c.first.ensures.value c.in-Some.is in
    let made = next_made (state g.S.Store c.args.conn.now) (state g.S.Store c.commit.new.conn) c.args.plan.now c.in-Some.rows.now first
    c.requires.ready c.requires.plan c.in_ok-commit.ensures.steps in
    record { done = made.done; undone = search rules; cause = search rules; crash = made.crash; was_clean = made.was_clean }
