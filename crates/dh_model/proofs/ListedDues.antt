-- The dues of a month rise by lease, so each is listed once.
use Rattle.std.proofs.Common.{◌<◌, ap, ℕ, arith}
use Rattle.std.specs.FinMap.{values}
use Rattle.dh_types.specs.declared.lease.Charge.{Charge}
use Rattle.dh_model.specs.Leases.{dues}
use Rattle.dh_model.specs.ListLaws.{DuesRiseByLease, EachDueIsListedOnce}
use Rattle.dh_model.proofs.BranchDues.{dues_rise, leases_rise}
use Rattle.dh_model.proofs.Pairs.{rising_pairs}

pub dues_rise_by_lease : DuesRiseByLease
dues_rise_by_lease books month are =
    rising_pairs (λ charge other. charge.lease < other.lease) (dues books month) (dues_rise books.endings (values books.leases) month (leases_rise books are))

pub each_due_is_listed_once : EachDueIsListedOnce
each_due_is_listed_once books month are =
    let rise = dues_rise_by_lease books month are in (
      λ i j d p q same. let less = rise i j d p q in let lease = ap (λ (charge : Charge). charge.lease) same in omega (arith, less, lease),
      λ i j d p q same. let less = rise i j d p q in let lease = ap (λ (key : ℕ × ℕ). key.0) same in omega (arith, less, lease),
    )
