use Rattle.std.proofs.Common.{◌≡◌, rules}
use Rattle.sqlite.specs.Held.{state}
use Rattle.dh_schema.specs.Store.{Commits, tables}
use Rattle.dh_schema.proofs.Committing.{committed, leaves_either, ready_with}
use Rattle.dh_schema.proofs.Crashing.{ready_leaves}
use Rattle.dh_schema.proofs.transaction.commit.Goals as goal

pub returns-in_err-put-clause-steps : goal.returns-in_err-put-clause-steps
returns-in_err-put-clause-steps g c =
    let old = c.args.conn.now in
    let new = state g.S.Store c.conn-1.given.0 in
    let after = g.P.Put.after c.args.rows.now (tables (state g.S.Store old)) in
    let survives : Commits (state g.S.Store old) new (λ t. t ≡ after) = search rules in
    record {
      done = search rules;
      undone = search rules;
      cause = search rules;
      crash = λ clean. leaves_either (state g.S.Store old) new after (g.met.S.Store.settled old.store) c.requires.ready clean survives;
      was_clean = search rules;
    }

pub returns-in_err-commit-clause-steps : goal.returns-in_err-commit-clause-steps
returns-in_err-commit-clause-steps g c =
    let old = c.args.conn.now in
    let after = g.P.Put.after c.args.rows.now in
    let survives = committed g.S.Store after _ old c.transaction-tx.result.conn.now c.put.new.tx.conn.now c.commit.new.self.0 c.conn-2-1.given.0
    c.transaction-tx.ensures.begun c.requires.order c.in_ok-put.ensures.puts (search rules) c.commit.ensures.survives in
    record {
      done = search rules;
      undone = search rules;
      cause = search rules;
      crash = λ clean. leaves_either (state g.S.Store old) (state g.S.Store c.conn-2-1.given.0) (after (tables (state g.S.Store old)))
          (g.met.S.Store.settled old.store) c.requires.ready clean survives;
      was_clean = search rules;
    }

pub returns-clause-steps : goal.returns-clause-steps
returns-clause-steps g c =
    let old = c.args.conn.now in
    let after = g.P.Put.after c.args.rows.now in
    let survives = committed g.S.Store after _ old c.transaction-tx.result.conn.now c.put.new.tx.conn.now c.commit.new.self.0 c.conn-2-1.given.0
    c.transaction-tx.ensures.begun c.requires.order c.in_ok-put.ensures.puts (search rules) c.commit.ensures.survives in
    record {
      done = λ clean. ready_with g.S.Store after _ old c.transaction-tx.result.conn.now c.put.new.tx.conn.now c.commit.new.self.0 c.conn-2-1.given.0
          c.transaction-tx.ensures.begun c.requires.order c.in_ok-put.ensures.puts (search rules) c.commit.ensures.survives clean
          (λ done. (c.in_ok-commit.ensures.ok done).1);
      undone = search rules;
      cause = search rules;
      crash = λ clean. leaves_either (state g.S.Store old) (state g.S.Store c.conn-2-1.given.0) (after (tables (state g.S.Store old)))
          (g.met.S.Store.settled old.store) c.requires.ready clean survives;
      was_clean = search rules;
    }

pub returns-clause-left : goal.returns-clause-left
returns-clause-left g c clean =
    let now = c.conn-2-1.given.0 in
    ready_leaves (state g.S.Store now) (g.met.S.Store.settled now.store) (g.met.S.Store.stays now.store) ((returns-clause-steps g c).done clean).0
