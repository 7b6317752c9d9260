use Rattle.std.proofs.Common.{int_cmp, subst, sym}
use Rattle.std.specs.List.Sorted.{IsStrictlySortedBy}
use Rattle.dh_tables.proofs.Numbers.{numbered, still_rise}
use Rattle.dh_tables.proofs.rowids.are_numbered.Goals as goal

pub returns : goal.returns
returns c =
    let numbers = c.in-Some.numbers.items in
    let sorted = c.sort_unstable.new.self.items in
    let rows = c.args.rows.now in
    let shown = rw c.in-Some.is at c.in_ok-numbers.ensures.numbers in
    let moved = c.sort_unstable.ensures.permutation in
    let up = c.sort_unstable.ensures.sorted in
    let same = c.deref.ensures.value in (
      (λ is. numbered numbers rows shown sorted moved (subst (IsStrictlySortedBy int_cmp) same (c.rise.ensures.0 is))),
      (λ are. c.rise.ensures.1 (subst (IsStrictlySortedBy int_cmp) (sym same) (still_rise numbers rows shown sorted moved up are))),
    )
