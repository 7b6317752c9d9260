-- What an agency has on its books, apart from how it is kept: rows by their keys, and no order.
use Rattle.std.specs.Prelude.{◌≡◌, ℕ, List, ◌++◌, map, Option, Some, None}
use Rattle.std.specs.declared.cmp.Ordering.{Ordering}
use Rattle.std.specs.Ordering.{nat_cmp, ordering_then}
use Rattle.std.specs.Cmp.Lexicographic.{slice_cmp}
use Rattle.std.specs.FinMap.{FinMap, empty, entries, from_entries, get}
use Rattle.dh_types.specs.declared.branch.Branch.{Branch}
use Rattle.dh_types.specs.declared.staff.Staff.{Staff}
use Rattle.dh_types.specs.declared.owner.Owner.{Owner}
use Rattle.dh_types.specs.declared.property.Property.{Property}
use Rattle.dh_types.specs.declared.client.Client.{Client}
use Rattle.dh_types.specs.declared.client.Registration.{Registration}
use Rattle.dh_types.specs.declared.viewing.Viewing.{Viewing}
use Rattle.dh_types.specs.declared.viewing.Inspection.{Inspection}
use Rattle.dh_types.specs.declared.lease.Lease.{Lease}
use Rattle.dh_types.specs.declared.lease.Charge.{Charge}
use Rattle.dh_types.specs.declared.lease.Receipt.{Receipt}
use Rattle.dh_types.specs.declared.lease.Ending.{Ending}
use Rattle.dh_types.specs.declared.run.Run.{Run}
use Rattle.dh_types.specs.declared.run.Part.{Part}
use Rattle.dh_types.specs.declared.fee.BranchFee.{BranchFee}
use Rattle.dh_types.specs.declared.fee.PartFee.{PartFee}
use Rattle.dh_types.specs.declared.version.Version.{Version}
use Rattle.dh_types.specs.declared.version.Version.TheVariants.{Second}
use Rattle.dh_model.specs.declared.open_run.OpenRun.{OpenRun}

-- codes go by their bytes
abbrev pub text_cmp : List ℕ → List ℕ → Ordering
text_cmp = slice_cmp nat_cmp

-- pairs go by their first part, and then by their second
abbrev pub pair_cmp : {A B : Type 0} → (A → A → Ordering) → (B → B → Ordering) → A × B → A × B → Ordering
pair_cmp R Q x y = ordering_then (R x.0 y.0) (Q x.1 y.1)

-- leases that were ended early, by lease
abbrev pub Endings : Type 0
Endings = FinMap nat_cmp Ending

pub record Books : Type 0 where
  pub branches : FinMap text_cmp Branch
  pub staff : FinMap text_cmp Staff
  pub owners : FinMap text_cmp Owner
  pub properties : FinMap text_cmp Property
  pub clients : FinMap text_cmp Client
  -- by client and branch
  pub registrations : FinMap (pair_cmp text_cmp text_cmp) Registration
  -- by client and property
  pub viewings : FinMap (pair_cmp text_cmp text_cmp) Viewing
  -- by property and day
  pub inspections : FinMap (pair_cmp text_cmp nat_cmp) Inspection
  pub leases : FinMap nat_cmp Lease
  -- by lease and index
  pub charges : FinMap (pair_cmp nat_cmp nat_cmp) Charge
  pub receipts : FinMap nat_cmp Receipt
  -- by month
  pub runs : FinMap nat_cmp Run
  -- by month and branch
  pub parts : FinMap (pair_cmp nat_cmp text_cmp) Part
  -- by branch; a branch that has none takes nothing
  pub branch_fees : FinMap text_cmp BranchFee
  -- by month and branch: what each part's fees come to
  pub part_fees : FinMap (pair_cmp nat_cmp text_cmp) PartFee
  -- the leases that were ended early
  pub endings : Endings
  -- the month that the books begin with, and the next one whose rent is to be run
  pub first : ℕ
  pub next : ℕ
  -- which version of the books the file holds
  pub version : Version

-- where the machine stands: the books, and the rent run that is under way, if any
pub record State : Type 0 where
  pub books : Books
  pub open_run : Option OpenRun

-- books without a row, which begin with this month
abbrev pub empty_books : ℕ → Books
empty_books month = record {
  branches = empty;
  staff = empty;
  owners = empty;
  properties = empty;
  clients = empty;
  registrations = empty;
  viewings = empty;
  inspections = empty;
  leases = empty;
  charges = empty;
  receipts = empty;
  runs = empty;
  parts = empty;
  branch_fees = empty;
  part_fees = empty;
  endings = empty;
  first = month;
  next = month;
  version = Second;
}

abbrev pub start : ℕ → State
start month = record { books = empty_books month; open_run = None }

-- what stands under a key has it
abbrev pub StandUnder : {K X : Type 0} {R : K → K → Ordering} → (X → K) → FinMap R X → Type 0
StandUnder {K} {X} key rows = (k : K) (row : X) → get rows k ≡ Some row → key row ≡ k

-- each lease stands under its number
abbrev pub StandUnderTheirNumbers : FinMap nat_cmp Lease → Type 0
StandUnderTheirNumbers leases = StandUnder (λ (lease : Lease). lease.terms.number) leases

-- the map with these rows under their keys, in the place of those that have the same
abbrev pub with_rows : {K X : Type 0} {R : K → K → Ordering} → (X → K) → List X → FinMap R X → FinMap R X
with_rows key rows m = from_entries (map (λ row. (key row, row)) rows ++ entries m)
