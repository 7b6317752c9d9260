-- What the fee rows of parts are tested by.
use Rattle.std.specs.Prelude.{◌≡◌, ℕ, ◌+◌, nat_eq, unwrap_or, Bool, false, cond, ◌&&◌, List, [], Option, Some, None, IfSome, IsSomeAnd}
use Rattle.std.specs.declared.cmp.Ordering.{Ordering}
use Rattle.std.specs.List.{sum_by}
use Rattle.std.specs.Ordering.{nat_cmp}
use Rattle.std.specs.FinMap as fin
use Rattle.std.specs.BTreeMap.{BTreeMap, get, is_at}
use Rattle.dh_types.specs.declared.lease.Lease.{Lease}
use Rattle.dh_types.specs.declared.lease.Charge.{Charge}
use Rattle.dh_types.specs.declared.run.Part.{Part}
use Rattle.dh_types.specs.declared.fee.PartFee.{PartFee}
use Rattle.dh_model.specs.Books.{Books, pair_cmp, text_cmp}
use Rattle.dh_audit_rules.specs.declared.fees.FeeSum.{FeeSum}
use Rattle.dh_audit_rules.specs.ClosedMonths.{branch_in}
use Rattle.dh_model.specs.Runs.{charge_fee, fee_at}
use Rattle.dh_model.specs.Rules.{is_charged_at}

-- a month and a branch
abbrev pub Key : Type 0
Key = ℕ × List ℕ

abbrev pub key_cmp : Key → Key → Ordering
key_cmp = pair_cmp nat_cmp text_cmp

abbrev pub branch_at : Books → Option Lease → Option (List ℕ)
branch_at books None = None
branch_at books (Some lease) = branch_in (fin.get books.properties lease.terms.property)

-- the branch that a lease is charged at, where its property is there
abbrev pub branch_of : Books → ℕ → Option (List ℕ)
branch_of books lease = branch_at books (fin.get books.leases lease)

-- the fee of the row, 0 where there is no row
abbrev pub row_fee : Option PartFee → ℕ
row_fee None = 0
row_fee (Some row) = row.fee

-- what the fee row takes of the charge
abbrev pub fee_by : Option PartFee → Charge → ℕ
fee_by row charge = charge_fee (row_fee row) charge

-- the charge is of the month, on the branch
abbrev pub is_charged_under : Books → ℕ × List ℕ → Charge → Bool
is_charged_under books key charge = nat_eq charge.month key.0 && is_charged_at books key.1 (fin.get books.leases charge.lease)

-- what the fee row of the month and the branch takes of the charge
abbrev pub fee_under : Books → ℕ × List ℕ → Charge → ℕ
fee_under books key charge = cond (is_charged_under books key charge) (fee_by (fin.get books.part_fees key) charge) 0

-- and of all charges
abbrev pub fees_at : Books → List Charge → ℕ × List ℕ → ℕ
fees_at books charges key = sum_by (fee_under books key) charges

-- what the fee row takes of these charges
abbrev pub fee_sum_of : Books → List Charge → Key → FeeSum
fee_sum_of books charges key = record { fee = row_fee (fin.get books.part_fees key); pence = fees_at books charges key }

-- what the fee row takes so far; nothing yet where none is put down
abbrev pub so_far : Books → BTreeMap Key FeeSum → Key → FeeSum
so_far books fees key = unwrap_or (get key_cmp fees key) (fee_sum_of books [] key)

-- with one charge more
abbrev pub with_charge : FeeSum → Charge → FeeSum
with_charge taken charge = record { fee = taken.fee; pence = taken.pence + charge_fee taken.fee charge }

-- a charge was put under its key, and under no other
abbrev pub HasMore : Books → BTreeMap Key FeeSum → BTreeMap Key FeeSum → Key → Charge → Type 0
HasMore books old new own charge = (key : Key)
    → so_far books new key ≡ cond (is_at (key_cmp own) key) (with_charge (so_far books old own) charge) (so_far books old key)

abbrev pub pence_in : Option FeeSum → ℕ
pence_in None = 0
pence_in (Some taken) = taken.pence

-- the pence that were taken by month and branch
abbrev pub pence_at : BTreeMap Key FeeSum → Key → ℕ
pence_at fees key = pence_in (get key_cmp fees key)

-- the row is the part's and comes to this sum; of an open run, by the present fee of the branch
pub record IsItsRow (books : Books) (sum : ℕ) (part : Part) (row : PartFee) : Type 0 where
  pub month : row.month ≡ part.month
  pub branch : row.branch ≡ part.branch
  pub total : row.total ≡ sum
  pub present : IfSome (fin.get books.runs part.month) (λ run. run.is_closed ≡ false → row.fee ≡ fee_at books part.branch)

-- the part has such a row
abbrev pub HasItsRow : Books → (ℕ × List ℕ → ℕ) → Part → Type 0
HasItsRow books sum part =
    IsSomeAnd (fin.get books.part_fees (part.month, part.branch)) (IsItsRow books (sum (part.month, part.branch)) part)
