use Rattle.std.proofs.Common.{rules}
use Rattle.sqlite.specs.Held.{state}
use Rattle.dh_model.specs.Books.{start}
use Rattle.dh_model.specs.Runs.{batch_size}
use Rattle.dh_laws.proofs.InvariantLemmas.EmptyBooks.{empty_books_are_in_order}
use Rattle.dh_schema.proofs.Crashing.{ready_leaves}
use Rattle.dh_schema.proofs.Committing.{committed, ready_with}
use Rattle.dh_schema.proofs.Installing.{new_put}
use Rattle.dh_schema.proofs.creation.install.Goals as goal

pub returns-clause-done : goal.returns-clause-done
returns-clause-done g c clean =
    let made = c.create_all.ensures in
    let put = new_put c.args.first _ (state g.S.Store c.transaction-tx.result.conn.now) _ (state g.S.Store c.insert_meta.new.tx.conn.now) c.new.ensures
    c.in_ok-create_all.ensures.made made.kept made.crash c.in_ok-insert_meta.ensures.shown c.in_ok-insert_meta.ensures.written c.insert_meta.ensures.crash in
    ready_with g.S.Store (λ _. start c.args.first) _ c.args.conn.now c.transaction-tx.result.conn.now c.insert_meta.new.tx.conn.now c.commit.new.self.0
    c.conn-2-1.given.0 c.transaction-tx.ensures.begun (λ _. empty_books_are_in_order batch_size c.args.first) put (search rules) c.commit.ensures.survives
    clean (λ done. (c.in_ok-commit.ensures.ok done).1)

pub returns-clause-left : goal.returns-clause-left
returns-clause-left g c clean =
    let now = c.conn-2-1.given.0 in
    ready_leaves (state g.S.Store now) (g.met.S.Store.settled now.store) (g.met.S.Store.stays now.store) (returns-clause-done g c clean).0

pub returns-clause-survives : goal.returns-clause-survives
returns-clause-survives g c =
    let made = c.create_all.ensures in
    let put = new_put c.args.first _ (state g.S.Store c.transaction-tx.result.conn.now) _ (state g.S.Store c.insert_meta.new.tx.conn.now) c.new.ensures
    c.in_ok-create_all.ensures.made made.kept made.crash c.in_ok-insert_meta.ensures.shown c.in_ok-insert_meta.ensures.written c.insert_meta.ensures.crash in
    committed g.S.Store (λ _. start c.args.first) _ c.args.conn.now c.transaction-tx.result.conn.now c.insert_meta.new.tx.conn.now c.commit.new.self.0
    c.conn-2-1.given.0 c.transaction-tx.ensures.begun (λ _. empty_books_are_in_order batch_size c.args.first) put (search rules) c.commit.ensures.survives

pub returns-in_err-commit-clause-survives : goal.returns-in_err-commit-clause-survives
returns-in_err-commit-clause-survives g c =
    let made = c.create_all.ensures in
    let put = new_put c.args.first _ (state g.S.Store c.transaction-tx.result.conn.now) _ (state g.S.Store c.insert_meta.new.tx.conn.now) c.new.ensures
    c.in_ok-create_all.ensures.made made.kept made.crash c.in_ok-insert_meta.ensures.shown c.in_ok-insert_meta.ensures.written c.insert_meta.ensures.crash in
    committed g.S.Store (λ _. start c.args.first) _ c.args.conn.now c.transaction-tx.result.conn.now c.insert_meta.new.tx.conn.now c.commit.new.self.0
    c.conn-2-1.given.0 c.transaction-tx.ensures.begun (λ _. empty_books_are_in_order batch_size c.args.first) put (search rules) c.commit.ensures.survives
