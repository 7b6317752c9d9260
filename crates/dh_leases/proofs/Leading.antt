-- The batch at each place of a plan.
use Rattle.std.proofs.Common.{◌≡◌, sym, subst, ℕ, zero, suc, ◌+◌, ◌<◌, List, [], ◌∷◌, length, slice_index_or, arith}
use Rattle.dh_model.specs.Books.{Books, State}
use Rattle.dh_model.specs.Runs.{batch_size, batches}
use Rattle.dh_leases.specs.declared.plans.BatchRows.{BatchRows}
use Rattle.dh_leases.specs.declared.plans.Plan.{Plan}
use Rattle.dh_leases.specs.Plans.{IsBatchBetween, IsPlanOf, LeadOn, stage}

module _ (books : Books) (month : ℕ) where
  -- the batch that is made where so many are done
  abbrev pub IsBatchAt : ℕ → BatchRows → Type 0
  IsBatchAt done rows = IsBatchBetween rows (stage books month done) (stage books month (done + 1))

  all_led : (done : ℕ) (left : List BatchRows) → LeadOn books month done left → done + length left ≡ batches batch_size books month
  all_led done [] lead = omega (arith, lead)
  all_led done (rows ∷ left) lead = let rest = all_led (done + 1) left lead.1 in omega (arith, rest)

  led_at : (done : ℕ) (left : List BatchRows) (n at : ℕ) (rows : BatchRows) → LeadOn books month done left → n < length left → at ≡ done + n
      → rows ≡ slice_index_or left n rows → IsBatchAt at rows
  led_at done [] n at rows lead few place is = absurd (omega (arith, few))
  led_at done (first ∷ left) zero at rows lead few place is =
      let here : done ≡ at = omega (arith, place) in
      subst (λ m. IsBatchAt m rows) here (subst (IsBatchAt done) (sym is) lead.0)
  led_at done (first ∷ left) (suc n) at rows lead few place is = led_at (done + 1) left n at rows lead.1 (omega (arith, few)) (omega (arith, place)) is

module _ (plan : Plan) (s : State) (is : IsPlanOf plan s) where
  -- the plan has the batches that its run lacks
  pub counted : plan.done + length plan.batches.items ≡ batches batch_size s.books plan.month
  counted = all_led s.books plan.month plan.done plan.batches.items is.leads

  -- each of them is made where those before it are done
  pub batch_at : (n at : ℕ) (rows : BatchRows) → n < length plan.batches.items → at ≡ plan.done + n → rows ≡ slice_index_or plan.batches.items n rows
      → IsBatchAt s.books plan.month at rows
  batch_at n at rows few place row = led_at s.books plan.month plan.done plan.batches.items n at rows is.leads few place row
