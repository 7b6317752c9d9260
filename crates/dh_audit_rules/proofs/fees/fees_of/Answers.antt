use Rattle.std.proofs.Common.{◌≡◌, ◌∙◌, refl, sym, ap, subst, None, Some}
use Rattle.dh_audit_rules.specs.declared.fees.LeaseBranch.{LeaseBranch}
use Rattle.dh_audit_rules.specs.Fees.{branch_of}
use Rattle.dh_audit_rules.proofs.FeeRows.{a_branch, no_branch, none_taken, room, some_taken}
use Rattle.dh_audit_rules.proofs.fees.fees_of.Goals as goal

pub add-requires : goal.add-requires
add-requires c =
    room c.args.books.now.books c.len-count.result c.loop-charge.fees c.len-count.type_inv c.loop-charge.charge-iterator c.loop-charge.invariant.done
    (c.in-Some.charge.now.month, c.in-Some-branch.branch)

pub loop-charge-preserved-in-Continue-1 : goal.loop-charge-preserved-in-Continue-1
loop-charge-preserved-in-Continue-1 c =
    let books = c.args.books.now.books in
    let charge = c.in-Some.charge.now in
    let branch = c.in-Some-branch.branch in
    let is : branch_of books charge.lease ≡ Some branch = sym (ap (λ latest. latest.branch) c.lease_branch-here.ensures) ∙ c.in-Some-branch.is in
    record {
      done = some_taken books c.len-count.result charge c.next.new.self c.loop-charge.charge-iterator c.in-Some.ensures.steps c.loop-charge.fees
          c.loop-charge.invariant.done (charge.month, branch) (a_branch books charge branch is) c.in_ok-add.ensures.small
          c.add.new.fees c.in_ok-add.ensures.value;
      latest = subst (λ (latest : LeaseBranch). latest.branch ≡ branch_of books latest.lease) (sym c.lease_branch-here.ensures) refl;
    }

pub loop-charge-preserved : goal.loop-charge-preserved
loop-charge-preserved c =
    let books = c.args.books.now.books in
    let charge = c.in-Some.charge.now in
    let is : branch_of books charge.lease ≡ None = sym (ap (λ latest. latest.branch) c.lease_branch-here.ensures) ∙ c.in_default.is in
    record {
      done = none_taken books c.len-count.result charge c.next.new.self c.loop-charge.charge-iterator c.in-Some.ensures.steps c.loop-charge.fees
          c.loop-charge.invariant.done (no_branch books charge is);
      latest = subst (λ (latest : LeaseBranch). latest.branch ≡ branch_of books latest.lease) (sym c.lease_branch-here.ensures) refl;
    }
