-- The rows of an accepted command leave each part its fee.
use Rattle.std.proofs.Common.{◌≡◌, ◌∙◌, refl, sym, ap, subst, inl, inr, ℕ, false, nat_eq, List, Option, Some, None, arith}
use Rattle.std.specs.Prelude.{IfSome}
use Rattle.std.specs.List.{IsAmong, filter}
use Rattle.std.specs.FinMap.{FinMap, get, insert, values}
use Rattle.dh_types.specs.declared.lease.Lease.{Lease}
use Rattle.dh_types.specs.declared.lease.Charge.{Charge}
use Rattle.dh_types.specs.declared.property.Property.{Property}
use Rattle.dh_types.specs.declared.run.Run.{Run}
use Rattle.dh_types.specs.declared.run.Part.{Part}
use Rattle.dh_types.specs.declared.fee.BranchFee.{BranchFee}
use Rattle.dh_types.specs.declared.version.Version.{Version}
use Rattle.dh_types.specs.declared.version.Version.TheVariants.{First, Second}
use Rattle.dh_model.specs.declared.open_run.OpenRun.{OpenRun}
use Rattle.dh_model.specs.declared.rows.Change.{Change}
use Rattle.dh_model.specs.declared.rows.Change.TheVariants as change
use Rattle.dh_model.specs.Books.{Books, text_cmp}
use Rattle.dh_model.specs.Kinds.{Kind}
use Rattle.dh_model.specs.Machine.{changed}
use Rattle.dh_model.specs.Runs.{fee_at, is_property_of, part_fee_of}
use Rattle.dh_model.specs.Rules.{Each, HasFees, HasItsFee, NamesWhatIsThere, RunsInOrder, charges_in, charges_of_part, is_charged_at}
use Rattle.dh_model.specs.Whole.{IsOpenAt, open_row}
use Rattle.dh_model.proofs.Among.{Among, among, in_filter, is_among}
use Rattle.dh_model.proofs.KeyOrders.{nat_ties, nat_total}
use Rattle.dh_model.proofs.MapRows.{get_other, got_after, of_row, there}
use Rattle.dh_laws.proofs.VerdictLemmas.Acceptance.{Accepted, turned, turned_is}
use Rattle.dh_laws.proofs.MonthLemmas.Shown.{all_closed}
use Rattle.dh_laws.proofs.MonthLemmas.Dues.{StandAsBefore, kept_alike, new_property, same_property, stands}

-- what holds of what is found
pub if_found : {X : Type 0} {P : X → Type 0} (found : Option X) → ((x : X) → found ≡ Some x → P x) → IfSome found P
if_found None h = tt
if_found (Some x) h = h x refl

pub of_found : {X : Type 0} (P : X → Type 0) (found : Option X) (x : X) → IfSome found P → found ≡ Some x → P x
of_found P found x h is = subst (λ found. IfSome found P) is h

-- leases are charged at the branches of the same properties
pub at_alike : (b c : Books) → c.properties ≡ b.properties → (branch : List ℕ) (found : Option Lease)
    → is_charged_at c branch found ≡ is_charged_at b branch found
at_alike b c same branch None = refl
at_alike b c same branch (Some lease) = ap (λ properties. is_property_of branch (get properties lease.terms.property)) same

module _ (b c : Books) where
  -- what the fees of the parts go by is the same
  pub record SameFees : Type 0 where
    pub version : c.version ≡ b.version
    pub charges : c.charges ≡ b.charges
    pub parts : c.parts ≡ b.parts
    pub rows : c.part_fees ≡ b.part_fees
    pub of : (charge : Charge) → Among (values b.charges) charge → (branch : List ℕ)
        → is_charged_at c branch (get c.leases charge.lease) ≡ is_charged_at b branch (get b.leases charge.lease)
    -- a run with a part that is open was there, and the branch of the part has the same fee
    pub run : (part : Part) → Among (values b.parts) part → (run : Run) → get c.runs part.month ≡ Some run → run.is_closed ≡ false
        → (get b.runs part.month ≡ Some run) × (fee_at c part.branch ≡ fee_at b part.branch)

  module _ (same : SameFees) where
    same_charges : (part : Part) → charges_of_part c part ≡ charges_of_part b part
    same_charges part =
        ap (λ rows. filter (λ charge. is_charged_at c part.branch (get c.leases charge.lease))
        (filter (λ charge. nat_eq charge.month part.month) (values rows)))
        same.charges
        ∙ kept_alike (λ charge. is_charged_at c part.branch (get c.leases charge.lease)) (λ charge. is_charged_at b part.branch (get b.leases charge.lease))
        (charges_in b part.month)
        (λ charge a. same.of charge (in_filter (λ charge. nat_eq charge.month part.month) (values b.charges) charge a).0 part.branch)

    fee_stays : (part : Part) → Among (values b.parts) part → HasItsFee b part → HasItsFee c part
    fee_stays part a h = record {
      fee = h.fee;
      row = ap (λ rows. get rows (part.month, part.branch)) same.rows ∙ h.row
          ∙ ap (λ charges. Some (part_fee_of part.month part.branch h.fee charges)) (sym (same_charges part));
      present = if_found (get c.runs part.month) (λ run is unclosed.
          let was = same.run part a run is unclosed in
          of_found (λ run. run.is_closed ≡ false → h.fee ≡ fee_at b part.branch) (get b.runs part.month) run h.present was.0 unclosed ∙ sym was.1);
    }

    by_version : (version : Version) → HasFees b version → HasFees c version
    by_version First h = subst (λ rows. Each rows (λ it. ⊥)) (sym same.rows) h
    by_version Second h = λ part a.
        let was = subst (λ rows. IsAmong (values rows) part) same.parts a in
        fee_stays part (among (values b.parts) part was) (h part was)

    -- so each part keeps its fee
    pub fees_stay : HasFees b b.version → HasFees c c.version
    fees_stay h = subst (HasFees c) (sym same.version) (by_version b.version h)

module _ (size : ℕ) (books : Books) (run : Option OpenRun) (names : NamesWhatIsThere books) (runs : RunsInOrder books)
    (shown : IsOpenAt size books run) where
  module _ (c : Books) (version : c.version ≡ books.version) (charges : c.charges ≡ books.charges) (parts : c.parts ≡ books.parts)
      (rows : c.part_fees ≡ books.part_fees) (fees : c.branch_fees ≡ books.branch_fees) where
    fee_alike : (branch : List ℕ) → fee_at c branch ≡ fee_at books branch
    fee_alike branch = ap (λ fees. fee_at (record books { branch_fees = fees }) branch) fees

    -- nothing of it is touched
    untouched : c.properties ≡ books.properties → c.leases ≡ books.leases → c.runs ≡ books.runs → SameFees books c
    untouched properties leases same_runs = record {
      version = version;
      charges = charges;
      parts = parts;
      rows = rows;
      of = λ charge a branch. at_alike books c properties branch (get c.leases charge.lease)
          ∙ ap (λ leases. is_charged_at books branch (get leases charge.lease)) leases;
      run = λ part a row is unclosed. (ap (λ runs. get runs part.month) (sym same_runs) ∙ is, fee_alike part.branch);
    }

  -- the lease of a charge is there
  lease_of : (charge : Charge) → Among (values books.charges) charge → (lease : Lease) × (get books.leases charge.lease ≡ Some lease)
  lease_of charge a = (there nat_total nat_ties books.leases charge.lease).0 (names Kind.Charges charge (is_among (values books.charges) charge a))

  properties_alike : (properties : FinMap text_cmp Property) → StandAsBefore books properties → SameFees books (record books { properties = properties })
  properties_alike properties stand = record {
    version = refl;
    charges = refl;
    parts = refl;
    rows = refl;
    of = λ charge a branch.
        let lease = lease_of charge a in
        let c : Books = record books { properties = properties } in
        ap (is_charged_at c branch) lease.1
        ∙ stands books properties stand lease.0 (of_row nat_total nat_ties books.leases charge.lease lease.0 lease.1) branch
        ∙ sym (ap (is_charged_at books branch) lease.1);
    run = λ part a row is unclosed. (is, refl);
  }

  lease_alike : (it : Lease) → get books.leases it.terms.number ≡ None → SameFees books (changed (change.Lease it) books)
  lease_alike it new = record {
    version = refl;
    charges = refl;
    parts = refl;
    rows = refl;
    of = λ charge a branch.
        let lease = lease_of charge a in
        let c = changed (change.Lease it) books in
        at_alike books c refl branch (get c.leases charge.lease)
        ∙ ap (is_charged_at books branch) (get_other nat_total nat_ties books.leases it.terms.number it charge.lease (λ same.
        let some = ap (get books.leases) (sym same) ∙ lease.1 in
        let none = new in
        cc));
    run = λ part a row is unclosed. (is, refl);
  }

  open_alike : (it : Run) → it.month ≡ books.next → SameFees books (changed (change.Open it) books)
  open_alike it next = record {
    version = refl;
    charges = refl;
    parts = refl;
    rows = refl;
    of = λ charge a branch. at_alike books (changed (change.Open it) books) refl branch (get books.leases charge.lease);
    run = λ part a row is unclosed. elim (got_after nat_total nat_ties books.runs it.month it part.month row is) [
      | inl new ↦ absurd (
          let refers = names Kind.Parts part (is_among (values books.parts) part a) in
          let within = (runs.run part.month).0 refers.run in
          let same = new.0 in
          omega (arith, within.1, next, same))
      | inr old ↦ (old.1, refl)
    ];
  }

  replaced_alike : (key : List ℕ) (new row : Property) → get books.properties key ≡ Some row → new.branch ≡ row.branch
      → SameFees books (record books { properties = insert books.properties key new })
  replaced_alike key new row is stays = properties_alike (insert books.properties key new) (same_property books key new row is stays)

  -- a branch gets another fee where no run is open
  fees_alike : (fees : FinMap text_cmp BranchFee) → run ≡ None → SameFees books (record books { branch_fees = fees })
  fees_alike fees closed = record {
    version = refl;
    charges = refl;
    parts = refl;
    rows = refl;
    of = λ charge a branch. at_alike books (record books { branch_fees = fees }) refl branch (get books.leases charge.lease);
    run = λ part a row is unclosed. absurd (
        let none : open_row books ≡ None = subst (IsOpenAt size books) closed shown in
        let all = all_closed books none row (of_row nat_total nat_ties books.runs part.month row is) in
        let still = unclosed in
        cc);
  }

  same_fees : (rows : Change) (a : Accepted books run rows) → SameFees books (turned books run rows a)
  same_fees (change.NewFee it) a = fees_alike (insert books.branch_fees it.branch it) a.fits
  same_fees (change.Fee it) a = fees_alike (insert books.branch_fees it.branch it) a.fits
  same_fees (change.Property it) a = properties_alike (insert books.properties it.number it) (new_property books it.number it names a.known)
  same_fees (change.Assign it) a = replaced_alike it.property (record a.row { staff = it.staff }) a.row a.is refl
  same_fees (change.Rent it) a = replaced_alike it.property (record a.row { rent = it.rent }) a.row a.is refl
  same_fees (change.Lease it) a = lease_alike it a.known
  same_fees (change.Open it) a = open_alike it a.month
  same_fees other a = untouched (turned books run other a) refl refl refl refl refl refl refl refl

  pub keeps_fees : (rows : Change) → Accepted books run rows → HasFees books books.version → HasFees (changed rows books) (changed rows books).version
  keeps_fees rows a has =
      subst (λ c. HasFees c c.version) (turned_is books run rows a) (fees_stay books (turned books run rows a) (same_fees rows a) has)
