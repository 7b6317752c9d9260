use Rattle.std.proofs.Common.{◌≡◌, ◌++◌, map}
use Rattle.std.specs.List.{All}
use Rattle.dh_audit_rules.specs.Occupancies.{IsSound, stay_on, stays_on}
use Rattle.dh_audit_rules.proofs.occupancies.stays.Given as goal

abbrev pub invariant-loop-lease : goal.invariant-loop-lease
invariant-loop-lease l = record {
  rows : l.stays.items ++ map (stay_on l.books.books.endings) l.lease-iterator ≡ stays_on l.books.books;
  sound : All IsSound l.stays.items;
}
