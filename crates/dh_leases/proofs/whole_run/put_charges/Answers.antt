use Rattle.std.proofs.Common.{◌∙◌, refl, arith}
use Rattle.std.specs.Ordering.{nat_cmp}
use Rattle.std.specs.FinMap.{FinMap}
use Rattle.dh_types.specs.declared.lease.Charge.{Charge}
use Rattle.dh_model.specs.Books.{State, pair_cmp}
use Rattle.dh_model.specs.Runs.{charge_key}
use Rattle.dh_model.proofs.KeyOrders.{nats_tie, nats_total}
use Rattle.dh_leases.proofs.RowLemmas.{last_put, none_put}
use Rattle.dh_leases.proofs.whole_run.put_charges.Goals as goal

abbrev put : FinMap (pair_cmp nat_cmp nat_cmp) Charge → State → State
put rows s = record s { books = record s.books { charges = rows } }

pub loop-charge-preserved : goal.loop-charge-preserved
loop-charge-preserved c =
    last_put nats_total nats_tie charge_key (λ s. s.books.charges) put (λ m n s. refl) (λ m s. refl)
    c.loop-charge.books _ c.pop.new.self.items _ c.in-Some.charge
    c.in_ok-put_charge.ensures.ok c.in-Some.ensures.items
    ∙ c.loop-charge.invariant

pub returns : goal.returns
returns c =
    none_put nats_total nats_tie charge_key (λ s. s.books.charges) put (λ m n s. refl) (λ m s. refl) c.loop-charge.books c.loop-charge.charges.items refl
    (omega (arith, c.loop-charge.charges.ok.0, c.in_default.ensures.cases))
    ∙ c.loop-charge.invariant
