-- The branch of a batch.
use Rattle.std.proofs.Common.{◌≡◌, ◌∙◌, refl, sym, ap, ℕ, ◌+◌, ◌-◌, ◌*◌, ◌/◌, ◌≤◌, List, ◌++◌, take, Ordering, Less, Equal, Greater, is_lt}
use Rattle.std.proofs.Common.{le-add_right, arith}
use Rattle.std.specs.Ordering.{ordering_reverse}
use Rattle.std.specs.FinMap.{keys}
use Rattle.dh_types.specs.declared.lease.Charge.{Charge}
use Rattle.dh_model.specs.Books.{Books, text_cmp}
use Rattle.dh_model.specs.Runs.{batch_of, batches_before, batches_of_branch, dues_of_branch, place_among, posted_of_branch}
use Rattle.dh_model.specs.BatchLaws.{AreNumbered}
use Rattle.dh_model.proofs.Among.{Among, is_among}
use Rattle.dh_model.proofs.BatchLemmas.{each_due_has_its_batch}
use Rattle.dh_model.proofs.BranchSums.{Holds}
use Rattle.dh_model.proofs.KeyOrders.{text_ties, text_total}
use Rattle.dh_laws.proofs.BatchLemmas.Small.{own_is_before}
use Rattle.dh_leases.proofs.PostedLemmas.{first_posted}
use Rattle.dh_leases.specs.Rows.{Rows, branch_run, charges_at, rows_at}
use Rattle.dh_leases.proofs.Cuts.{cut_once}

-- the branch that has the batch of this number
abbrev pub IsHeld : ℕ → Books → ℕ → ℕ → Type 0
IsHeld size books month number = Holds (batches_of_branch size books month) text_cmp text_total (keys books.branches) number

-- the rows are those of the batch of this number
pub record IsBatch (size : ℕ) (books : Books) (month number : ℕ) (rows : Rows) : Type 0 where
  pub held : IsHeld size books month number
  pub is : rows ≡ rows_at size (branch_run books month held.key) (dues_of_branch books month held.key) (number - batches_before size books month held.key)

module _ (size : ℕ) (books : Books) (month number : ℕ) where
  by_order : (r : Ordering) (a b : IsHeld size books month number) → text_cmp a.key b.key ≡ r → a.key ≡ b.key
  by_order Less a b e =
      let all = own_is_before (batches_of_branch size books month) text_cmp text_total (keys books.branches) a.key b.key a.of (ap is_lt e) in
      absurd (omega (arith, all, a.until, b.from))
  by_order Equal a b e = text_ties a.key b.key e
  by_order Greater a b e =
      let all = own_is_before (batches_of_branch size books month) text_cmp text_total (keys books.branches) b.key a.key b.of
      (ap is_lt (text_total.antisymm b.key a.key ∙ ap ordering_reverse e)) in
      absurd (omega (arith, all, b.until, a.from))

  -- a batch is of one branch
  pub one_branch : (a b : IsHeld size books month number) → a.key ≡ b.key
  one_branch a b = by_order (text_cmp a.key b.key) a b refl

  module _ (pos : 1 ≤ size) (are : AreNumbered books) where
    -- whose dues alone are of it
    pub branch_of_due : (held : IsHeld size books month number) (branch : List ℕ) (charge : Charge) → Among (keys books.branches) branch
        → Among (dues_of_branch books month branch) charge → batch_of size books month branch charge ≡ number → branch ≡ held.key
    branch_of_due held branch charge of due is =
        let first : batches_before size books month branch ≤ batch_of size books month branch charge =
        le-add_right (batches_before size books month branch) (place_among size (dues_of_branch books month branch) charge / size) in
        let last = each_due_has_its_batch size books month branch charge pos are (is_among (dues_of_branch books month branch) charge due) in
        let its : IsHeld size books month number = record { key = branch; of = of; from = omega (arith, first, is); until = omega (arith, last, is) } in
        one_branch its held

    -- the branch's charges after a batch of it are those before it, and its own
    module _ (held : IsHeld size books month number) where
      abbrev pub own_dues : List Charge
      own_dues = dues_of_branch books month held.key

      abbrev pub own_number : ℕ
      own_number = number - batches_before size books month held.key

      pub posted_before : posted_of_branch size books month number held.key ≡ take (own_number * size) own_dues
      posted_before = first_posted size books month number pos are held.key

      pub posted_with : posted_of_branch size books month (number + 1) held.key ≡ take ((own_number + 1) * size) own_dues
      posted_with =
          let next : number + 1 - batches_before size books month held.key ≡ own_number + 1 = omega (arith, held.from) in
          first_posted size books month (number + 1) pos are held.key ∙ ap (λ n. take (n * size) own_dues) next

      pub posted_in_two : posted_of_branch size books month (number + 1) held.key
          ≡ posted_of_branch size books month number held.key ++ charges_at size own_dues own_number
      posted_in_two =
          posted_with ∙ sym (cut_once size own_dues own_number) ∙ ap (λ cs. cs ++ charges_at size own_dues own_number) (sym posted_before)
