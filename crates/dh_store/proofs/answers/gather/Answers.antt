use Rattle.dh_model.specs.Books.{State}
use Rattle.dh_schema.specs.Looked.{with_lettings}
use Rattle.dh_store.proofs.AskedBooks.{both_then}
use Rattle.dh_store.proofs.answers.gather.Goals as goal

pub returns-in_ok-look_at_all-in-Branches-clause-gathered : goal.returns-in_ok-look_at_all-in-Branches-clause-gathered
returns-in_ok-look_at_all-in-Branches-clause-gathered g c t at =
    rw c.in-Branches.is
    (both_then (λ (s b : State). record b { books = record b.books { branches = s.books.branches } }) at
    c.in_ok-look_at_all-in-Branches.ensures.reads c.in_ok-look_at_all-in-Branches.ensures.gathered)

pub returns-in_ok-look_at_lettings-in-Vacant-clause-gathered : goal.returns-in_ok-look_at_lettings-in-Vacant-clause-gathered
returns-in_ok-look_at_lettings-in-Vacant-clause-gathered g c t at =
    let lettings = c.in_ok-look_at_lettings-in-Vacant.ensures in
    rw c.in-Vacant.is (both_then (λ (s b : State). with_lettings s.books b) at lettings.reads lettings.gathered)

pub returns-in-Matching-clause-gathered : goal.returns-in-Matching-clause-gathered
returns-in-Matching-clause-gathered g c = rw c.in-Matching.is c.gather_matching.ensures.gathered

pub returns-in-Statement-clause-gathered : goal.returns-in-Statement-clause-gathered
returns-in-Statement-clause-gathered g c = rw c.in-Statement.is c.gather_account.ensures.gathered

pub returns-in-Arrears-clause-gathered : goal.returns-in-Arrears-clause-gathered
returns-in-Arrears-clause-gathered g c = rw c.in-Arrears.is c.gather_arrears.ensures.gathered

pub returns-in-Run-clause-gathered : goal.returns-in-Run-clause-gathered
returns-in-Run-clause-gathered g c = rw c.in-Run.is c.gather_run.ensures.gathered

pub returns-in-Owner-clause-gathered : goal.returns-in-Owner-clause-gathered
returns-in-Owner-clause-gathered g c = rw c.in-Owner.is c.gather_owner.ensures.gathered
