-- What closed months are tested by: all that ever falls due, and its sums by month and by branch.
use Rattle.std.specs.Prelude.{◌≡◌, ℕ, ◌+◌, nat_eq, Bool, true, false, cond, ◌&&◌, List, [], map, length, Option, Some, None, IfSome}
use Rattle.std.specs.declared.cmp.Ordering.{Ordering}
use Rattle.std.specs.BTreeSet as set
use Rattle.std.specs.List.{IsAmong, filter, flat_map}
use Rattle.std.specs.Option.{unwrap_or}
use Rattle.std.specs.Ordering.{nat_cmp}
use Rattle.std.specs.FinMap as fin
use Rattle.std.specs.BTreeMap.{BTreeMap, get, is_at}
use Rattle.std.specs.Cmp.Lexicographic.{pointwise}
use Rattle.dh_types.specs.declared.property.Property.{Property}
use Rattle.dh_types.specs.declared.lease.Lease.{Lease}
use Rattle.dh_types.specs.declared.lease.Charge.{Charge}
use Rattle.dh_types.specs.declared.run.Run.{Run}
use Rattle.dh_types.specs.declared.run.Part.{Part}
use Rattle.dh_model.specs.Books.{Books}
use Rattle.dh_model.specs.Leases.{dues_of}
use Rattle.dh_model.specs.Rules.{Each, IsThere}
use Rattle.dh_model.specs.Runs.{at_least, greatest_lease, total_of}
use Rattle.dh_audit_rules.specs.declared.closed_dues.Due.{Due}
use Rattle.dh_audit_rules.specs.declared.closed_sums.Sum.{Sum}

-- the months whose run is closed
abbrev pub closed_months : Books → List ℕ
closed_months books = map (λ run. run.month) (filter (λ run. run.is_closed) (fin.values books.runs))

abbrev pub branch_in : Option Property → Option (List ℕ)
branch_in None = None
branch_in (Some property) = Some property.branch

abbrev pub due_at : Option (List ℕ) → Charge → Due
due_at branch charge = record { charge = charge; branch = branch }

-- all that ever falls due on the lease, as long as it runs, at its property's branch
abbrev pub dues_at : Books → Lease → List Due
dues_at books lease = map (due_at (branch_in (fin.get books.properties lease.terms.property))) (dues_of books.endings lease)

-- all that ever falls due
abbrev pub all_dues : Books → List Due
all_dues books = flat_map (dues_at books) (fin.values books.leases)

abbrev pub is_in : ℕ → Due → Bool
is_in month due = nat_eq due.charge.month month

abbrev pub is_at_branch : List ℕ → Option (List ℕ) → Bool
is_at_branch branch None = false
is_at_branch branch (Some other) = pointwise nat_eq other branch

-- of these, the charges of the month
abbrev pub charges_of_month : List Due → ℕ → List Charge
charges_of_month dues month = map (λ due. due.charge) (filter (is_in month) dues)

-- of these, the charges of the month at the branch
abbrev pub charges_of_branch : List Due → ℕ × List ℕ → List Charge
charges_of_branch dues key = map (λ due. due.charge) (filter (λ due. is_in key.0 due && is_at_branch key.1 due.branch) dues)

-- what the charges come to
abbrev pub sum_of : List Charge → Sum
sum_of charges = record { through = greatest_lease charges; count = length charges; total = total_of charges }

-- one charge more
abbrev pub with_charge : Sum → Charge → Sum
with_charge sum charge = record { through = Some (at_least sum.through charge.lease); count = sum.count + 1; total = sum.total + charge.amount }

-- the sum under the key, that of no charges where there is none
abbrev pub sum_at : {K : Type 0} → (K → K → Ordering) → BTreeMap K Sum → K → Sum
sum_at R sums key = unwrap_or (get R sums key) (sum_of [])

-- the sum under the key has one charge more, and each other stays
abbrev pub HasOneMore : {K : Type 0} → (K → K → Ordering) → BTreeMap K Sum → BTreeMap K Sum → K → Charge → Type 0
HasOneMore {K} R old new key charge = (other : K) → sum_at R new other ≡ cond (is_at (R key) other) (with_charge (sum_at R old key) charge) (sum_at R old other)

-- the run has the count and the total of the sum
pub record RunIsSum (run : Run) (sum : Sum) : Type 0 where
  pub count : run.count ≡ sum.count
  pub total : run.total ≡ sum.total

-- the sum that the part has
abbrev pub sum_of_part : Part → Sum
sum_of_part part = record { through = part.through; count = part.count; total = part.total }

-- it is one of these months
abbrev pub IsOf : set.BTreeSet ℕ → ℕ → Type 0
IsOf months month = set.contains nat_cmp months month ≡ true

-- the charges in the books that are of one of these months
abbrev pub charges_of_months : Books → set.BTreeSet ℕ → List Charge
charges_of_months books months = filter (λ charge. set.contains nat_cmp months charge.month) (fin.values books.charges)

-- and what falls due in one of them
abbrev pub dues_of_months : List Due → set.BTreeSet ℕ → List Charge
dues_of_months dues months = filter (λ charge. set.contains nat_cmp months charge.month) (map (λ due. due.charge) dues)

-- each closed run is the sum of its month
abbrev pub RunsAreSums : Books → (ℕ → Sum) → Type 0
RunsAreSums books sum = Each books.runs (λ run. run.is_closed ≡ true → RunIsSum run (sum run.month))

-- the part, if it is of one of these months, is the sum of its month and branch
abbrev pub IsSumIfOf : set.BTreeSet ℕ → (ℕ × List ℕ → Sum) → Part → Type 0
IsSumIfOf months sum part = IsOf months part.month → sum_of_part part ≡ sum (part.month, part.branch)

-- the branch of the due, where there is such a branch, has a part of the due's month, if that is one of these months
abbrev pub HasPart : Books → Due → Type 0
HasPart books due = IfSome due.branch (λ branch. IsThere books.branches branch → IsThere books.parts (due.charge.month, branch))

abbrev pub DuesHaveParts : Books → List Due → set.BTreeSet ℕ → Type 0
DuesHaveParts books dues months = (due : Due) → IsAmong dues due → IsOf months due.charge.month → HasPart books due
