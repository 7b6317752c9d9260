use Rattle.std.proofs.Common.{◌≡◌, None, arith, rules}
use Rattle.std.proofs.lemmas.Grind.{common_steps}
use Rattle.sqlite.specs.Held.{state}
use Rattle.dh_schema.specs.Store.{tables}
use Rattle.dh_runs.proofs.Moving.{fault_sorts, order_after}
use Rattle.dh_runs.proofs.migration.migrate_in.Goals as goal

pub commit-requires-clause-order : goal.commit-requires-clause-order
commit-requires-clause-order g c mid =
    let now = state g.S.Store c.checked_books.new.conn in
    let closed : (tables now).open_run ≡ None = search rules in
    order_after now (c.in_ok-books.ensures.ready mid) closed

pub returns-in-Some-clause-takes : goal.returns-in-Some-clause-takes
returns-in-Some-clause-takes g c =
    let it = c.in_ok-books.ensures.takes in
    record {
      taken = λ clean. tt;
      refused = grind (arith, common_steps);
      cause = tt;
      of_version = λ clean is. absurd is;
      others = λ wrong. absurd (it.others wrong).0;
      another = grind (arith, common_steps);
    }

pub returns-in_err-parts-clause-takes : goal.returns-in_err-parts-clause-takes
returns-in_err-parts-clause-takes g c =
    fault_sorts g.S.Store c.args.conn.now c.checked_books.new.conn c.checked_books.new.conn c.in_ok-books.books c.from_residual-in_err-parts.result
    c.in_ok-books.ensures.takes (search rules)

pub returns-in_err-commit-clause-takes : goal.returns-in_err-commit-clause-takes
returns-in_err-commit-clause-takes g c =
    fault_sorts g.S.Store c.args.conn.now c.checked_books.new.conn c.commit.new.conn c.in_ok-books.books c.from_residual-in_err-commit.result
    c.in_ok-books.ensures.takes (search rules)

pub returns-clause-takes : goal.returns-clause-takes
returns-clause-takes g c =
    let it = c.in_ok-books.ensures.takes in
    record {
      taken = grind (arith, common_steps);
      refused = λ clean. tt;
      cause = tt;
      of_version = λ clean. tt;
      others = λ wrong. absurd (it.others wrong).0;
      another = λ clean has. absurd (it.another (omega (arith, c.commit.ensures.steps.was_clean, clean)) has);
    }
