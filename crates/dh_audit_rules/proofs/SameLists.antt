-- Lists that have the same elements.
use Rattle.std.proofs.Common.{◌≡◌, ◌↔◌, sym, ap, subst, ℕ, Bool, true, List, Option, Some, None}
use Rattle.std.specs.declared.cmp.Ordering.{Ordering}
use Rattle.std.specs.BTreeSet.{BTreeSet, IsFromIterResult, IsSubset, contains}
use Rattle.std.specs.Cmp.{IsTotalOrder}
use Rattle.std.specs.FinMap.{IsAntisymmetric, nat_cmp-IsAntisymmetric}
use Rattle.std.specs.List.{IsAmong}
use Rattle.std.specs.Option.{option_cmp}
use Rattle.std.specs.Ordering.{nat_cmp, ordering_then}
use Rattle.std.proofs.lemmas.Map.Views.{btree_set_contains_from_list}
use Rattle.dh_types.specs.declared.lease.Charge.{Charge}
use Rattle.dh_types.specs.declared.run.Part.{Part}
use Rattle.dh_model.specs.Books.{text_cmp}
use Rattle.dh_model.specs.Rules.{HaveTheSame}
use Rattle.dh_model.proofs.KeyOrders.{text_ties, both_tied}

-- a set has what is among the list that it was made of
pub set_tells : {K : Type 0} {R : K → K → Ordering} → IsTotalOrder R → IsAntisymmetric R → (xs : List K) (s : BTreeSet K) → IsFromIterResult R xs s
    → (q : K) → (contains R s q ≡ true) ↔ IsAmong xs q
set_tells o ties xs s made q =
    let tells = btree_set_contains_from_list o ties xs s made q in (
      λ h. let at = tells.0 h in (at.0, (at.1, sym at.2)),
      λ a. tells.1 (a.0, a.1.0, sym a.1.1),
    )

module _ {K : Type 0} {R : K → K → Ordering} (o : IsTotalOrder R) (xs ys : List K) (s t : BTreeSet K) (of_xs : IsFromIterResult R xs s)
    (of_ys : IsFromIterResult R ys t) where
  -- a set of one list is a subset of that of another if all elements of the one are among the other's
  pub subset_among : IsAntisymmetric R → IsSubset R s t → (x : K) → IsAmong xs x → IsAmong ys x
  subset_among exact within x a = (set_tells o exact ys t of_ys x).0 (within x ((set_tells o exact xs s of_xs x).1 a))

  pub subset_from_among : IsAntisymmetric R → ((x : K) → IsAmong xs x → IsAmong ys x) → IsSubset R s t
  subset_from_among exact all x h = (set_tells o exact ys t of_ys x).1 (all x ((set_tells o exact xs s of_xs x).0 h))

-- what tells two lists apart tells apart those that they are
pub as_lists : {X : Type 0} {xs ys us vs : List X} (b : Bool) → xs ≡ us → ys ≡ vs → (b ≡ true) ↔ HaveTheSame xs ys → (b ≡ true) ↔ HaveTheSame us vs
as_lists {ys = ys} {us = us} b of_xs of_ys tells =
    subst (λ vs. (b ≡ true) ↔ HaveTheSame us vs) of_ys (subst (λ us. (b ≡ true) ↔ HaveTheSame us ys) of_xs tells)

-- an order by five fields, in which only equal fields tie
module _ {A B C D E : Type 0} (P : A → A → Ordering) (Q : B → B → Ordering) (R : C → C → Ordering) (S : D → D → Ordering) (T : E → E → Ordering) where
  abbrev pub five_cmp : A × B × C × D × E → A × B × C × D × E → Ordering
  five_cmp x y = ordering_then (P x.0 y.0) (ordering_then (Q x.1 y.1) (ordering_then (R x.2 y.2) (ordering_then (S x.3 y.3) (T x.4 y.4))))

  pub five_ties : IsAntisymmetric P → IsAntisymmetric Q → IsAntisymmetric R → IsAntisymmetric S → IsAntisymmetric T → IsAntisymmetric five_cmp
  five_ties p q r s t x y e =
      let last_two = ordering_then (S x.3 y.3) (T x.4 y.4) in
      let last_three = ordering_then (R x.2 y.2) last_two in
      let last_four = ordering_then (Q x.1 y.1) last_three in
      let first = both_tied (P x.0 y.0) last_four e in
      let second = both_tied (Q x.1 y.1) last_three first.1 in
      let third = both_tied (R x.2 y.2) last_two second.1 in
      let fourth = both_tied (S x.3 y.3) (T x.4 y.4) third.1 in
      λ i. (p x.0 y.0 first.0 i, q x.1 y.1 second.0 i, r x.2 y.2 third.0 i, s x.3 y.3 fourth.0 i, t x.4 y.4 fourth.1 i)

optional_ties : IsAntisymmetric (option_cmp nat_cmp)
optional_ties None None e = λ i. None
optional_ties None (Some y) e = cc
optional_ties (Some x) None e = cc
optional_ties (Some x) (Some y) e = ap (λ n. Some n) (nat_cmp-IsAntisymmetric x y e)

abbrev charge_fields : Charge → ℕ × ℕ × ℕ × ℕ × ℕ
charge_fields charge = (charge.lease, charge.index, charge.month, charge.day, charge.amount)

abbrev charge_from : ℕ × ℕ × ℕ × ℕ × ℕ → Charge
charge_from p = record { lease = p.0; index = p.1; month = p.2; day = p.3; amount = p.4 }

-- charges that the order of all their fields does not tell apart are one
pub charge_ties : IsAntisymmetric (λ (x y : Charge). five_cmp nat_cmp nat_cmp nat_cmp nat_cmp nat_cmp (charge_fields x) (charge_fields y))
charge_ties x y e =
    let exact = nat_cmp-IsAntisymmetric in
    ap charge_from (five_ties nat_cmp nat_cmp nat_cmp nat_cmp nat_cmp exact exact exact exact exact (charge_fields x) (charge_fields y) e)

abbrev part_fields : Part → ℕ × List ℕ × Option ℕ × ℕ × ℕ
part_fields part = (part.month, part.branch, part.through, part.count, part.total)

abbrev part_from : ℕ × List ℕ × Option ℕ × ℕ × ℕ → Part
part_from p = record { month = p.0; branch = p.1; through = p.2; count = p.3; total = p.4 }

-- and so are part rows
pub part_ties : IsAntisymmetric (λ (x y : Part). five_cmp nat_cmp text_cmp (option_cmp nat_cmp) nat_cmp nat_cmp (part_fields x) (part_fields y))
part_ties x y e =
    let exact = nat_cmp-IsAntisymmetric in
    ap part_from (five_ties nat_cmp text_cmp (option_cmp nat_cmp) nat_cmp nat_cmp exact text_ties optional_ties exact exact (part_fields x) (part_fields y) e)
