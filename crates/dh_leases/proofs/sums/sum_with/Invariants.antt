use Rattle.std.proofs.Common.{◌≡◌, ◌+◌, ◌*◌, ◌≤◌, ◌++◌, List, take}
use Rattle.dh_types.specs.declared.lease.Charge.{Charge}
use Rattle.dh_leases.specs.Sums.{sum_of}
use Rattle.dh_leases.proofs.sums.sum_with.Given as goal

abbrev pub invariant-loop-charge : goal.invariant-loop-charge
invariant-loop-charge l = record {
  fee : l.sum.fee ≡ l.initial.sum.fee;
  sum : (before : List Charge) → l.initial.sum ≡ sum_of l.initial.sum.fee before → l.sum ≡ sum_of l.initial.sum.fee (before ++ take l.charge-index l.charges);
  few : l.sum.count ≡ l.initial.sum.count + l.charge-index;
  small : l.sum.total ≤ 999999 * l.sum.count;
  less : l.sum.fees ≤ l.sum.total;
}
