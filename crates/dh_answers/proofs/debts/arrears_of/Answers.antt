use Rattle.std.proofs.Common.{◌≡◌, ◌∙◌, ◌∷◌, ◌++◌, [], ◌&&◌, sym, ap, Bool, true, false, List, ℕ, ◌<◌, pos, int_lt, ◌+ℤ◌, ◌<ℤ◌, arith, length, vec_len}
use Rattle.std.specs.FinMap as fin
use Rattle.std.specs.Int.Signed.{lt_z_yes}
use Rattle.std.specs.Map.Iter.{deref}
use Rattle.std.proofs.lemmas.Bool.{and_parts}
use Rattle.std.proofs.lemmas.Float.{T_from_true}
use Rattle.std.proofs.lemmas.Int.{ints}
use Rattle.std.proofs.lemmas.List.Sums.{fold_push}
use Rattle.std.proofs.lemmas.Map.Iter.{rest_more}
use Rattle.dh_types.specs.declared.answer.Debt.{Debt}
use Rattle.dh_types.specs.declared.lease.Lease.{Lease}
use Rattle.dh_model.specs.Answers.{balance, debt, owed}
use Rattle.dh_model.specs.Books.{Books}
use Rattle.dh_model.specs.Runs.{is_property_of}
use Rattle.dh_answers.proofs.Owing.{none_more, none_yet, one_more}
use Rattle.dh_answers.proofs.debts.arrears_of.Goals as goal

abbrev owes : Books → Lease → Bool
owes books lease = int_lt (pos 0) (balance books lease.terms.number)

abbrev belongs : Books → List ℕ → Lease → Bool
belongs books branch lease = is_property_of branch (fin.get books.properties lease.terms.property)

owed_more : (books : Books) (found next : List Debt) (it : Debt) → next ≡ found ++ it ∷ [] → owed books next ≡ (owed books found +ℤ it.balance)
owed_more books found next it added = ap (owed books) added ∙ fold_push (λ sum d. sum +ℤ d.balance) (pos 0) found it

pub loop-lease-init : goal.loop-lease-init
loop-lease-init c =
    let books = c.args.books.now.books in
    let all = c.into_iter-lease-iterator.ensures.into_iter_gives ∙ c.leases-lease-items.ensures.rows in
    record {
      debts = none_yet (owes books) (belongs books c.args.branch.now) (debt books) _ _ _ c.new-debts.ensures.items all;
      total = sym (ap (owed books) c.new-debts.ensures.items);
      some = omega (arith, ints);
      range = omega (arith, ints);
      few = omega (arith, c.new-debts.ensures.len, ap length all, c.leases-lease-items.ensures.few);
    }

pub loop-lease-preserved-then-is_debt : goal.loop-lease-preserved-then-is_debt
loop-lease-preserved-then-is_debt c =
    let books = c.args.books.now.books in
    let inv = c.loop-lease.invariant in
    let lease = c.in-Some.lease.now in
    let front : c.loop-lease.lease-iterator ≡ lease ∷ c.next.new.self = rest_more deref _ _ _ _ c.in-Some.is c.next.ensures.steps in
    let worth : c.balance-balance.result ≡ balance books lease.terms.number =
    c.balance-balance.ensures.value ∙ c.in_ok-accounts.ensures c.key.result ∙ ap (balance books) c.key.ensures in
    let is : (belongs books c.args.branch.now lease && int_lt (pos 0) c.balance-balance.result) ≡ true = sym c.is_debt.ensures ∙ c.if-is_debt.true in
    let more : pos 0 <ℤ c.balance-balance.result = lt_z_yes (T_from_true _ (and_parts (belongs books c.args.branch.now lease) _ is).1) in
    let sum = owed_more books c.loop-lease.debts.items c.push.new.self.items c.in_ok-debt.field-0 c.in_ok-push.ensures.items in
    let own : c.in_ok-debt.field-0.balance ≡ balance books lease.terms.number = ap (λ (d : Debt). d.balance) c.in_ok-debt.ensures in
    let few : vec_len c.loop-lease.debts < 99999999 = omega (arith, inv.few, ap length front) in
    let bound = c.balance-balance.ensures.range in
    record {
      debts = one_more (owes books) (belongs books c.args.branch.now) (debt books) lease _ _ _ _ _ c.in_ok-debt.field-0 front
          (ap (λ b. belongs books c.args.branch.now lease && int_lt (pos 0) b) (sym worth)
          ∙ is) c.in_ok-push.ensures.items c.in_ok-debt.ensures inv.debts;
      total = omega (arith, ints, inv.total, inv.some, inv.range, few, c.pence.ensures, bound, worth, more, sum, own);
      some = omega (arith, ints, inv.some, inv.range, few, c.pence.ensures, bound, more);
      range = omega (arith, ints, inv.some, inv.range, few, c.pence.ensures, bound, more, c.in_ok-push.ensures.len);
      few = omega (arith, inv.few, ap length front, c.in_ok-push.ensures.len);
    }

pub loop-lease-preserved : goal.loop-lease-preserved
loop-lease-preserved c =
    let books = c.args.books.now.books in
    let inv = c.loop-lease.invariant in
    let lease = c.in-Some.lease.now in
    let front : c.loop-lease.lease-iterator ≡ lease ∷ c.next.new.self = rest_more deref _ _ _ _ c.in-Some.is c.next.ensures.steps in
    let worth : c.balance-balance.result ≡ balance books lease.terms.number =
    c.balance-balance.ensures.value ∙ c.in_ok-accounts.ensures c.key.result ∙ ap (balance books) c.key.ensures in
    let is : (belongs books c.args.branch.now lease && int_lt (pos 0) c.balance-balance.result) ≡ false = sym c.is_debt.ensures ∙ c.if-is_debt.false in
    record {
      debts = none_more (owes books) (belongs books c.args.branch.now) (debt books) lease _ _ _ _ front (ap (λ b. belongs books c.args.branch.now lease
          && int_lt (pos 0) b) (sym worth) ∙ is) inv.debts;
      total = inv.total;
      some = inv.some;
      range = inv.range;
      few = omega (arith, inv.few, ap length front);
    }
