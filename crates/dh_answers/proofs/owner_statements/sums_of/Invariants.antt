use Rattle.std.proofs.Common.{◌≡◌, ◌*◌, ◌≤◌, take}
use Rattle.std.specs.List.{sum_by}
use Rattle.dh_answers.proofs.owner_statements.sums_of.Given as goal

abbrev pub invariant-loop-line : goal.invariant-loop-line
invariant-loop-line l = record {
  total : l.total ≡ sum_by (λ line. line.amount) (take l.line-index l.lines);
  fees : l.fees ≡ sum_by (λ line. line.fee) (take l.line-index l.lines);
  most : l.total ≤ 999999 * l.line-index;
  most_fees : l.fees ≤ 9223372036854775807 * l.line-index;
}
