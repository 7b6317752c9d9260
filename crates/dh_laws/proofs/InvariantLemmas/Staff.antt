-- Whose staff manages and registers, after every change.
use Rattle.std.proofs.Common.{◌≡◌, ◌∙◌, ap, subst, inl, inr, ℕ, true, List, Option, Some, None, IfSome}
use Rattle.std.specs.FinMap.{get, insert}
use Rattle.dh_types.specs.declared.staff.Staff.{Staff}
use Rattle.dh_types.specs.declared.property.Property.{Property}
use Rattle.dh_types.specs.declared.client.Registration.{Registration}
use Rattle.dh_model.specs.declared.open_run.OpenRun.{OpenRun}
use Rattle.dh_model.specs.declared.rows.Change.{Change}
use Rattle.dh_model.specs.declared.rows.Change.TheVariants as change
use Rattle.dh_model.specs.Books.{Books}
use Rattle.dh_model.specs.Checks.{works_at}
use Rattle.dh_model.specs.Machine.{changed}
use Rattle.dh_model.specs.Rules.{StaffOfTheBranch}
use Rattle.dh_model.proofs.KeyOrders.{text_total, text_ties, texts_total, texts_tie}
use Rattle.dh_laws.proofs.VerdictLemmas.Acceptance.{Accepted, turned, turned_is}
use Rattle.dh_laws.proofs.InvariantLemmas.Growth.{if_some}
use Rattle.dh_model.proofs.MapRows.{cases_key, each_got, each_put, get_other}

-- of the branch, whoever that is
abbrev pub IsStaffed : Books → Property → Type 0
IsStaffed books property = IfSome property.staff (λ member. works_at property.branch (get books.staff member) ≡ true)

nobody_works : (branch : List ℕ) (found : Option Staff) → found ≡ None → works_at branch found ≡ true → ⊥
nobody_works branch None e h = cc
nobody_works branch (Some row) e h = cc

module _ (books : Books) (run : Option OpenRun) (rules : StaffOfTheBranch books) where
  -- a new member of staff is none who worked already
  works_still : (it : Staff) → get books.staff it.number ≡ None → (branch member : List ℕ) → works_at branch (get books.staff member) ≡ true
      → works_at branch (get (insert books.staff it.number it) member) ≡ true
  works_still it new branch member h = elim (cases_key text_total text_ties member it.number) [
    | inl same ↦ absurd (nobody_works branch (get books.staff member) (ap (get books.staff) same ∙ new) h)
    | inr apart ↦ ap (works_at branch) (get_other text_total text_ties books.staff it.number it member apart) ∙ h
  ]

  staff_added : (it : Staff) → get books.staff it.number ≡ None → StaffOfTheBranch (record books { staff = insert books.staff it.number it })
  staff_added it new = record {
    managers = λ p a. if_some p.staff (works_still it new p.branch) (rules.managers p a);
    registrars = λ r a. works_still it new r.branch r.staff (rules.registrars r a);
  }

  property_put : (key : List ℕ) (it : Property) → IsStaffed books it → StaffOfTheBranch (record books { properties = insert books.properties key it })
  property_put key it staffed = record {
    managers = each_put text_total text_ties books.properties key it (IsStaffed books) rules.managers staffed;
    registrars = rules.registrars;
  }

  registration_added : (it : Registration) → works_at it.branch (get books.staff it.staff) ≡ true
      → StaffOfTheBranch (record books { registrations = insert books.registrations (it.client, it.branch) it })
  registration_added it of_branch = record {
    managers = rules.managers;
    registrars = each_put texts_total texts_tie books.registrations (
      it.client,
      it.branch,
    ) it (λ r. works_at r.branch (get books.staff r.staff) ≡ true) rules.registrars of_branch;
  }

  staffed : (rows : Change) (a : Accepted books run rows) → StaffOfTheBranch (turned books run rows a)
  staffed (change.Staff it) h = staff_added it h.known
  staffed (change.Property it) h = property_put it.number it (if_some it.staff (λ m c. c.of_branch) h.fits)
  staffed (change.Assign it) h = property_put it.property (record h.row { staff = it.staff }) (if_some it.staff (λ m c. c.of_branch) h.staff)
  staffed (change.Rent it) h =
      property_put it.property (record h.row { rent = it.rent })
      (each_got text_total text_ties books.properties (IsStaffed books) rules.managers it.property h.row h.is)
  staffed (change.Register it) h = registration_added it h.fits
  staffed rows h = record { managers = rules.managers; registrars = rules.registrars }

  pub keeps_branches : (rows : Change) → Accepted books run rows → StaffOfTheBranch (changed rows books)
  keeps_branches rows h = subst StaffOfTheBranch (turned_is books run rows h) (staffed rows h)
