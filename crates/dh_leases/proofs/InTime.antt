-- The charges of a plan fall due in time: a due falls in its month, which is the run's.
use Rattle.std.proofs.Common.{◌≡◌, sym, subst, ℕ, ◌+◌, ◌-◌, ◌*◌, ◌≤◌, Bool, All, List, [], ◌∷◌, length, map, nat_eq, slice_index_or, take}
use Rattle.std.proofs.Common.{arith, eqb-true}
use Rattle.std.specs.List.{flat_map, range_with_len}
use Rattle.std.specs.FinMap.{keys}
use Rattle.std.proofs.lemmas.List.Elements.{All-append, All-cons, All-drop, All-filter, All-head, All-map, All-nil, All-tail, All-take, filter_passes}
use Rattle.dh_days.specs.Days.{month_of_day}
use Rattle.dh_days.specs.declared.limits.TheConstants.{LAST_ENTRY_MONTH}
use Rattle.dh_days.proofs.DayMonths.{month_of_months_later}
use Rattle.dh_types.specs.declared.lease.Charge.{Charge}
use Rattle.dh_types.specs.declared.lease.Lease.{Lease}
use Rattle.dh_model.specs.Books.{Books, Endings}
use Rattle.dh_model.specs.Leases.{due, dues_among, dues_of, length_of}
use Rattle.dh_model.specs.Runs.{batch_size, batches_before, batches_for, dues_of_branch, leases_of_branch}
use Rattle.dh_leases.specs.declared.plans.Plan.{Plan}
use Rattle.dh_leases.specs.Plans.{FallsInTime}
use Rattle.dh_leases.specs.Rows.{Rows, all_rows_left, branch_run, rows_at, rows_left, rows_of}

abbrev IsInMonth : Charge → Type 0
IsInMonth charge = month_of_day charge.day ≡ charge.month

abbrev IsInTime : Charge → Type 0
IsInTime charge = month_of_day charge.day ≤ LAST_ENTRY_MONTH

abbrev AreInTime : Rows → Type 0
AreInTime rows = All IsInTime rows.0

-- what holds of all that f gives of each element holds of all of the flat map
all_of_each : {X Y : Type 0} (P : Y → Type 0) (f : X → List Y) (xs : List X) → ((x : X) → All P (f x)) → All P (flat_map f xs)
all_of_each P f [] each = All-nil P
all_of_each P f (x ∷ xs) each = All-append P (f x) (flat_map f xs) (each x) (all_of_each P f xs each)

-- and what holds of all that a map gives holds of f of each element
all_mapped : {X Y : Type 0} (P : Y → Type 0) (f : X → Y) (xs : List X) → All P (map f xs) → All (λ x. P (f x)) xs
all_mapped P f [] all = All-nil (λ x. P (f x))
all_mapped P f (x ∷ xs) all =
    All-cons (λ y. P (f y)) x xs (All-head P (f x) (map f xs) all) (all_mapped P f xs (All-tail P (f x) (map f xs) all))

-- each due falls in its month
in_their_months : (endings : Endings) (lease : Lease) → All IsInMonth (dues_of endings lease)
in_their_months endings lease =
    let indices = range_with_len 0 (length_of endings lease) in
    All-map IsInMonth (due lease) indices (λ k d below. month_of_months_later lease.terms.start (slice_index_or indices k d))

module _ (month : ℕ) (known : month ≤ LAST_ENTRY_MONTH) where
  dues_in_time : (endings : Endings) (leases : List Lease) → All IsInTime (dues_among endings leases month)
  dues_in_time endings leases k d below =
      let its : Charge → Bool = λ charge. nat_eq charge.month month in
      let dues = flat_map (dues_of endings) leases in
      let own = All-filter its IsInMonth dues (all_of_each IsInMonth (dues_of endings) leases (in_their_months endings)) k d below in
      let run = eqb-true (slice_index_or (dues_among endings leases month) k d).month month (filter_passes its dues k d below) in
      omega (arith, known, own, run)

  rows_in_time : (books : Books) (done : ℕ) (branch : List ℕ) → All AreInTime (rows_left batch_size books month done branch)
  rows_in_time books done branch =
      let dues = dues_of_branch books month branch in
      let first = done - batches_before batch_size books month branch in
      let numbers = range_with_len first (batches_for batch_size (length dues) - first) in
      let own = dues_in_time books.endings (leases_of_branch books branch) in
      All-map AreInTime (rows_at batch_size (branch_run books month branch) dues) numbers
      (λ k d below. let number = slice_index_or numbers k d in
      let so_far = take ((number + 1) * batch_size) dues in
      All-drop IsInTime (number * batch_size) so_far (All-take IsInTime ((number + 1) * batch_size) dues own))

-- rows that are left over books are of charges that fall due in time, where the month is one that lines know
pub in_time : (books : Books) (plan : Plan) → plan.month ≤ LAST_ENTRY_MONTH
    → map rows_of plan.batches.items ≡ all_rows_left batch_size books plan.month plan.done → All FallsInTime plan.batches.items
in_time books plan known rows =
    let each = rows_in_time plan.month known books plan.done in
    let all = all_of_each AreInTime (rows_left batch_size books plan.month plan.done) (keys books.branches) each in
    all_mapped AreInTime rows_of plan.batches.items (subst (All AreInTime) (sym rows) all)
