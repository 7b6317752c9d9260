use Rattle.std.proofs.Common.{◌≡◌, ◌+◌, ◌*◌, ◌^◌, ◌≤◌, pos, ◌≤ℤ◌, int_lt, length, map, ◌++◌, vec_len}
use Rattle.std.specs.List.{filter}
use Rattle.std.specs.FinMap as fin
use Rattle.dh_model.specs.Answers.{balance, debt, debts, owed}
use Rattle.dh_model.specs.Runs.{is_property_of}
use Rattle.dh_answers.proofs.debts.arrears_of.Given as goal

abbrev pub invariant-loop-lease : goal.invariant-loop-lease
invariant-loop-lease l = record {
  debts : l.debts.items
      ++ map (debt l.books.books)
      (filter (λ lease. int_lt (pos 0) (balance l.books.books lease.terms.number))
      (filter (λ lease. is_property_of l.branch (fin.get l.books.books.properties lease.terms.property)) l.lease-iterator))
      ≡ debts l.books.books l.branch;
  total : l.total ≡ owed l.books.books l.debts.items;
  some : pos 0 ≤ℤ l.total;
  range : l.total ≤ℤ pos (999999 * 2 ^ 64 * vec_len l.debts);
  few : vec_len l.debts + length l.lease-iterator ≤ 99999999;
}
