-- One batch after the other, cut from a branch's dues.
use Rattle.std.proofs.Common.{◌≡◌, ◌∙◌, sym, ap, ℕ, ◌+◌, ◌-◌, ◌*◌, ◌≤◌, List, [], ◌∷◌, ◌++◌, map, take, arith}
use Rattle.std.specs.List.{range_with_len}
use Rattle.std.proofs.lemmas.List.{append_assoc, take-append-drop, take-take}
use Rattle.std.proofs.lemmas.List.FromFn.{map-range_with_len_more}
use Rattle.dh_types.specs.declared.lease.Charge.{Charge}
use Rattle.dh_leases.specs.declared.plans.BranchRun.{BranchRun}
use Rattle.dh_leases.specs.Rows.{Rows, charges_at, rows_at}

module _ (size : ℕ) (dues : List Charge) (number : ℕ) where
  -- the charges so far are those before the batch, and its own
  pub cut_once : take (number * size) dues ++ charges_at size dues number ≡ take ((number + 1) * size) dues
  cut_once =
      let so_far = take ((number + 1) * size) dues in
      let fewer : number * size ≤ (number + 1) * size = omega arith in
      ap (λ cs. cs ++ charges_at size dues number) (sym (take-take (number * size) ((number + 1) * size) dues fewer))
      ∙ take-append-drop (number * size) so_far

  -- the rows of one batch more
  pub rows_more : (run : BranchRun) (done : ℕ) (old : List Rows) → done ≤ number
      → (old ++ map (rows_at size run dues) (range_with_len done (number - done))) ++ rows_at size run dues number ∷ []
      ≡ old ++ map (rows_at size run dues) (range_with_len done (number + 1 - done))
  rows_more run done old from =
      let row = rows_at size run dues in
      let place : done + (number - done) ≡ number = omega (arith, from) in
      let more : number - done + 1 ≡ number + 1 - done = omega (arith, from) in
      append_assoc old (map row (range_with_len done (number - done))) (row number ∷ [])
      ∙ ap (λ rows. old ++ rows)
      (sym (map-range_with_len_more row done (number - done) number place) ∙ ap (λ n. map row (range_with_len done n)) more)
