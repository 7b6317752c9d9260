use Rattle.std.proofs.Common.{sym, refl, ◌∙◌}
use Rattle.std.proofs.lemmas.Bool.{false≢true}
use Rattle.dh_model.specs.Rules.{References, Branches, Managers, Overlaps, Starts, Terms, Deposits, Keys}
use Rattle.dh_model.specs.Runs.{batch_size}
use Rattle.dh_audit.proofs.Least.{below_2, below_3, below_4, below_5, below_6, below_7, below_8, below_9, below_first, least}
use Rattle.dh_audit.proofs.all_rules.audit_of_rows.Goals as goal

pub returns-then-not-names_what_is_there : goal.returns-then-not-names_what_is_there
returns-then-not-names_what_is_there c =
    let books = c.args.books.now.books in
    least books batch_size 1 References refl
    (below_first books batch_size)
    (λ holds. false≢true (sym c.if-not-names_what_is_there.true ∙ c.names_what_is_there.ensures.1 holds))

pub returns-then-not-staff_of_the_branch : goal.returns-then-not-staff_of_the_branch
returns-then-not-staff_of_the_branch c =
    let books = c.args.books.now.books in
    least books batch_size 2 Branches refl
    (below_2 books batch_size (c.names_what_is_there.ensures.0 c.if-not-names_what_is_there.false))
    (λ holds. false≢true (sym c.if-not-staff_of_the_branch.true ∙ c.staff_of_the_branch.ensures.1 holds))

pub returns-then-not-branch : goal.returns-then-not-branch
returns-then-not-branch c =
    let books = c.args.books.now.books in
    least books batch_size 3 Managers refl
    (below_3 books batch_size (c.names_what_is_there.ensures.0 c.if-not-names_what_is_there.false)
    (c.staff_of_the_branch.ensures.0 c.if-not-staff_of_the_branch.false))
    (λ holds. false≢true (sym c.if-not-branch.true ∙ c.in_ok-manages_at_most_hundred.ensures.1 holds))

pub returns-then-not-branch-2 : goal.returns-then-not-branch-2
returns-then-not-branch-2 c =
    let books = c.args.books.now.books in
    least books batch_size 4 Overlaps refl
    (below_4 books batch_size (c.names_what_is_there.ensures.0 c.if-not-names_what_is_there.false)
    (c.staff_of_the_branch.ensures.0 c.if-not-staff_of_the_branch.false) (c.in_ok-manages_at_most_hundred.ensures.0 c.if-not-branch.false))
    (λ holds. false≢true (sym c.if-not-branch-2.true ∙ c.in_ok-leases_never_overlap.ensures.1 holds))

pub returns-then-not-branch-3 : goal.returns-then-not-branch-3
returns-then-not-branch-3 c =
    let books = c.args.books.now.books in
    least books batch_size 5 Starts refl
    (below_5 books batch_size (c.names_what_is_there.ensures.0 c.if-not-names_what_is_there.false)
    (c.staff_of_the_branch.ensures.0 c.if-not-staff_of_the_branch.false) (c.in_ok-manages_at_most_hundred.ensures.0 c.if-not-branch.false)
    (c.in_ok-leases_never_overlap.ensures.0 c.if-not-branch-2.false))
    (λ holds. false≢true (sym c.if-not-branch-3.true ∙ c.in_ok-one_start_a_day.ensures.1 holds))

pub returns-then-not-leases_in_time : goal.returns-then-not-leases_in_time
returns-then-not-leases_in_time c =
    let books = c.args.books.now.books in
    least books batch_size 6 Terms refl
    (below_6 books batch_size (c.names_what_is_there.ensures.0 c.if-not-names_what_is_there.false)
    (c.staff_of_the_branch.ensures.0 c.if-not-staff_of_the_branch.false) (c.in_ok-manages_at_most_hundred.ensures.0 c.if-not-branch.false)
    (c.in_ok-leases_never_overlap.ensures.0 c.if-not-branch-2.false) (c.in_ok-one_start_a_day.ensures.0 c.if-not-branch-3.false))
    (λ holds. false≢true (sym c.if-not-leases_in_time.true ∙ c.leases_in_time.ensures.1 holds))

pub returns-then-not-branch-4 : goal.returns-then-not-branch-4
returns-then-not-branch-4 c =
    let books = c.args.books.now.books in
    least books batch_size 7 Deposits refl
    (below_7 books batch_size (c.names_what_is_there.ensures.0 c.if-not-names_what_is_there.false)
    (c.staff_of_the_branch.ensures.0 c.if-not-staff_of_the_branch.false) (c.in_ok-manages_at_most_hundred.ensures.0 c.if-not-branch.false)
    (c.in_ok-leases_never_overlap.ensures.0 c.if-not-branch-2.false) (c.in_ok-one_start_a_day.ensures.0 c.if-not-branch-3.false)
    (c.leases_in_time.ensures.0 c.if-not-leases_in_time.false))
    (λ holds. false≢true (sym c.if-not-branch-4.true ∙ c.in_ok-deposits_in_order.ensures.1 holds))

pub returns-then-not-branch-5 : goal.returns-then-not-branch-5
returns-then-not-branch-5 c =
    let books = c.args.books.now.books in
    least books batch_size 8 Keys refl
    (below_8 books batch_size (c.names_what_is_there.ensures.0 c.if-not-names_what_is_there.false)
    (c.staff_of_the_branch.ensures.0 c.if-not-staff_of_the_branch.false) (c.in_ok-manages_at_most_hundred.ensures.0 c.if-not-branch.false)
    (c.in_ok-leases_never_overlap.ensures.0 c.if-not-branch-2.false) (c.in_ok-one_start_a_day.ensures.0 c.if-not-branch-3.false)
    (c.leases_in_time.ensures.0 c.if-not-leases_in_time.false) (c.in_ok-deposits_in_order.ensures.0 c.if-not-branch-4.false))
    (λ holds. false≢true (sym c.if-not-branch-5.true ∙ c.in_ok-keys_in_order.ensures.1 holds))

pub returns : goal.returns
returns c =
    let books = c.args.books.now.books in
    below_9 books batch_size (c.names_what_is_there.ensures.0 c.if-not-names_what_is_there.false)
    (c.staff_of_the_branch.ensures.0 c.if-not-staff_of_the_branch.false) (c.in_ok-manages_at_most_hundred.ensures.0 c.if-not-branch.false)
    (c.in_ok-leases_never_overlap.ensures.0 c.if-not-branch-2.false) (c.in_ok-one_start_a_day.ensures.0 c.if-not-branch-3.false)
    (c.leases_in_time.ensures.0 c.if-not-leases_in_time.false) (c.in_ok-deposits_in_order.ensures.0 c.if-not-branch-4.false)
    (c.in_ok-keys_in_order.ensures.0 c.if-not-branch-5.false)
