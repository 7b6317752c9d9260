use Rattle.std.specs.Map.Iter.{deref}
use Rattle.std.proofs.Common.{◌∙◌, ap, subst, sym}
use Rattle.std.specs.List.{All}
use Rattle.std.proofs.lemmas.List.Elements.{All-push}
use Rattle.std.proofs.lemmas.Map.Iter.{rest_more}
use Rattle.dh_audit_rules.specs.Occupancies.{IsSound, stay_of, stay_on}
use Rattle.dh_audit_rules.proofs.Rows.{one_pushed}
use Rattle.dh_audit_rules.proofs.occupancies.stays.Goals as goal

pub loop-lease-preserved : goal.loop-lease-preserved
loop-lease-preserved c = record {
  rows = one_pushed (stay_on c.args.books.now.books.endings) c.in-Some.lease.now _ _ _ _ _ c.of.result
      (rest_more deref _ _ _ _ c.in-Some.is c.next.ensures.steps) c.in_ok-push.ensures.items
      (c.of.ensures.value ∙ ap stay_of c.running.ensures) c.loop-lease.invariant.rows;
  sound = subst (All IsSound) (sym c.in_ok-push.ensures.items)
      (All-push IsSound c.loop-lease.stays.items c.of.result c.loop-lease.invariant.sound c.of.ensures.sound);
}
