-- The endings of the leases beside a new one.
use Rattle.std.proofs.Common.{◌≡◌, ◌∙◌, refl, sym, ap, subst, inl, inr, ℕ, Bool, true, false, nat_eq, List, Option, Some, None}
use Rattle.std.proofs.Common.{nat_cmp}
use Rattle.std.specs.List.{list_any}
use Rattle.std.specs.FinMap.{FinMap, get, values}
use Rattle.std.proofs.lemmas.Bool.{cases_Bool, false_from_ne_true}
use Rattle.dh_types.specs.declared.lease.LeaseTerms.{LeaseTerms}
use Rattle.dh_types.specs.declared.lease.Lease.{Lease}
use Rattle.dh_types.specs.declared.lease.Ending.{Ending}
use Rattle.dh_types.proofs.SameValues.{numbers}
use Rattle.dh_model.specs.Books.{Endings, StandUnder}
use Rattle.dh_model.specs.Whole.{rows_where}
use Rattle.dh_model.proofs.Among.{Among, in_filter, of_filter, of_passes, some_passes}
use Rattle.dh_model.proofs.KeyOrders.{nat_ties, nat_total}
use Rattle.dh_model.proofs.MapRows.{inside, of_row}
use Rattle.dh_laws.specs.Looks.{is_beside, is_some_beside}
use Rattle.dh_laws.proofs.MapMerges.{own_row}
use Rattle.dh_laws.proofs.FactLemmas.Narrowed.{values_where}

module _ (terms : LeaseTerms) (leases : FinMap nat_cmp Lease) (keyed : StandUnder (λ (it : Lease). it.terms.number) leases) where
  abbrev near : List Lease
  near = values (rows_where (is_beside terms) leases)

  abbrev has_number : ℕ → Lease → Bool
  has_number number it = nat_eq number it.terms.number

  -- what is among them is beside, and stands under its number
  its_row : (it : Lease) → Among near it → (get leases it.terms.number ≡ Some it) × (is_beside terms it ≡ true)
  its_row it a =
      let kept = in_filter (is_beside terms) (values leases) it
      (subst (λ ls. Among ls it) (values_where nat_total nat_ties (is_beside terms) leases) a) in
      (own_row nat_total nat_ties (λ (l : Lease). l.terms.number) leases keyed it kept.0, kept.1)

  its_place : (number : ℕ) (it : Lease) → get leases number ≡ Some it → is_beside terms it ≡ true → Among near it
  its_place number it is beside =
      subst (λ ls. Among ls it) (sym (values_where nat_total nat_ties (is_beside terms) leases))
      (of_filter (is_beside terms) (values leases) it beside (of_row nat_total nat_ties leases number it is))

  one_near : (number : ℕ) (found : Option Lease) → get leases number ≡ found → list_any (has_number number) near ≡ is_some_beside terms found
  one_near number None is = false_from_ne_true (list_any (has_number number) near) (λ some.
      let by = some_passes (has_number number) near some in
      let there = ap (get leases) ((numbers number by.0.terms.number).0 by.2) ∙ (its_row by.0 by.1).0 in
      let none : None ≡ Some by.0 = sym is ∙ there in cc)
  one_near number (Some it) is = elim (cases_Bool (is_beside terms it)) [
    | inl beside ↦
        let own = keyed number it is in
        of_passes (has_number number) near it (its_place number it is beside) ((numbers number it.terms.number).1 (sym own)) ∙ sym beside
    | inr apart ↦
        false_from_ne_true (list_any (has_number number) near) (λ some.
        let by = some_passes (has_number number) near some in
        let there = ap (get leases) ((numbers number by.0.terms.number).0 by.2) ∙ (its_row by.0 by.1).0 in
        let same : Some it ≡ Some by.0 = sym is ∙ there in
        let one : it ≡ by.0 = inside it by.0 same in
        let both : false ≡ true = sym apart ∙ ap (is_beside terms) one ∙ (its_row by.0 by.1).1 in cc)
        ∙ sym apart
  ]

  -- the endings of the leases beside are those that the new one looks at
  pub endings_beside : (endings : Endings) → rows_where (λ (ending : Ending). list_any (has_number ending.lease) near) endings
      ≡ rows_where (λ (ending : Ending). is_some_beside terms (get leases ending.lease)) endings
  endings_beside endings =
      ap (λ (test : Ending → Bool). rows_where test endings) (λ i ending. one_near ending.lease (get leases ending.lease) refl i)
