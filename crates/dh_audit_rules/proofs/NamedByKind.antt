-- What each row names is there, where this holds of the kinds whose rows name something.
use Rattle.std.proofs.Common.{◌≡◌, ◌↔◌, Bool, true, ◌&&◌}
use Rattle.std.proofs.lemmas.Bool.{and_from, and_parts}
use Rattle.dh_model.specs.Books.{Books}
use Rattle.dh_model.specs.Kinds.{Kind, records_of}
use Rattle.dh_model.specs.Kinds.{Staff, Properties, Registrations, Viewings, Inspections, Leases, Charges, Receipts, Parts, BranchFees, PartFees, Endings}
use Rattle.dh_model.specs.Rules.{Each, NamesWhatIsThere, Refers}

-- two answers in one
pub both : {A B : Type 0} {a b : Bool} → ((a ≡ true) ↔ A) → ((b ≡ true) ↔ B) → ((a && b) ≡ true) ↔ (A × B)
both {a = a} {b = b} first second =
    (λ yes. let parts = and_parts a b yes in (first.0 parts.0, second.0 parts.1), λ all. and_from a b (first.1 all.0) (second.1 all.1))

module _ (books : Books) where
  abbrev Refer : Kind → Type 0
  Refer kind = Each (records_of kind books) (Refers books kind)

  abbrev Named : Type 0
  Named = (((((((((((Refer Staff × Refer Properties) × Refer Registrations) × Refer Viewings) × Refer Inspections) × Refer Leases) × Refer Charges)
      × Refer Receipts) × Refer Parts) × Refer BranchFees) × Refer PartFees) × Refer Endings)

  by_kind : Named → NamesWhatIsThere books
  by_kind named Staff = named.0.0.0.0.0.0.0.0.0.0.0
  by_kind named Properties = named.0.0.0.0.0.0.0.0.0.0.1
  by_kind named Registrations = named.0.0.0.0.0.0.0.0.0.1
  by_kind named Viewings = named.0.0.0.0.0.0.0.0.1
  by_kind named Inspections = named.0.0.0.0.0.0.0.1
  by_kind named Leases = named.0.0.0.0.0.0.1
  by_kind named Charges = named.0.0.0.0.0.1
  by_kind named Receipts = named.0.0.0.0.1
  by_kind named Parts = named.0.0.0.1
  by_kind named BranchFees = named.0.0.1
  by_kind named PartFees = named.0.1
  by_kind named Endings = named.1
  by_kind named kind = λ row a. tt

  pub named_by_kind : (found : Bool) → ((found ≡ true) ↔ Named) → (found ≡ true) ↔ NamesWhatIsThere books
  named_by_kind found tells = (
    λ yes. by_kind (tells.0 yes),
    λ all. tells.1 (
      (
        (
          (
            (((((((all Staff, all Properties), all Registrations), all Viewings), all Inspections), all Leases), all Charges), all Receipts),
            all Parts,
          ),
          all BranchFees,
        ),
        all PartFees,
      ),
      all Endings,
    ),
  )
