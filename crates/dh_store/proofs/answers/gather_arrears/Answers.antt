use Rattle.std.proofs.Common.{◌∙◌, refl, sym, ap, subst, arith}
use Rattle.std.specs.FinMap.{values}
use Rattle.sqlite.specs.State.{HasCleanDisk}
use Rattle.sqlite.specs.Held.{state}
use Rattle.dh_model.specs.Books.{State}
use Rattle.dh_model.specs.Runs.{is_property_of}
use Rattle.dh_laws.specs.AskedAbout.{with_accounts}
use Rattle.dh_laws.proofs.FactLemmas.Asked.{listed_leases}
use Rattle.dh_store.specs.AnsweredFrom.{HasNoAccounts}
use Rattle.dh_store.proofs.answers.gather_arrears.Goals as goal

pub returns-clause-gathered : goal.returns-clause-gathered
returns-clause-gathered g c t at clean =
    let early : HasCleanDisk (state g.S.Store c.gather_branch.new.conn) = omega (arith, c.gather_accounts.ensures.reads.crash.clean, clean) in
    let was = c.in_ok-gather_branch.ensures.gathered t at early in
    let leases = c.deref.ensures.value ∙ c.in_ok-leases.ensures.leases ∙ ap (λ (s : State). values s.books.leases) was.1
    ∙ listed_leases t.books (is_property_of c.args.branch) in
    let none = subst (λ (s : State). HasNoAccounts s.books) (sym was.1) refl in (
      (c.in_ok-gather_accounts.ensures.reads.done clean).1 ∙ was.0,
      c.in_ok-gather_accounts.ensures.gathered clean none
          ∙ (λ i. record (was.1 i) { books = with_accounts (was.0 i).books (was.1 i).books (leases i) }),
    )
