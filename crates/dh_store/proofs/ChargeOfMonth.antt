-- What is charged on a lease in a month: one charge at most, with the index that the month says.
use Rattle.std.proofs.Common.{◌≡◌, ◌∙◌, refl, sym, ap, subst, inl, inr, ℕ, ◌+◌, ◌<◌, ◌≤◌, Bool, true, false, cond, ◌&&◌, ◌||◌, nat_eq, List, [], ◌∷◌}
use Rattle.std.proofs.Common.{Option, Some, None, IfSome, Ordering, arith}
use Rattle.std.specs.List.{All, AllByRecursion, filter, list_any}
use Rattle.std.specs.Cmp.{IsTotalOrder}
use Rattle.std.specs.FinMap.{FinMap, IsAntisymmetric, get, same_map, values}
use Rattle.std.proofs.lemmas.Bool.{false_from_ne_true}
use Rattle.std.proofs.lemmas.List.Elements.{All-from_recursion}
use Rattle.dh_days.specs.Days.{month_of_day}
use Rattle.dh_types.specs.declared.lease.Lease.{Lease}
use Rattle.dh_types.specs.declared.lease.Charge.{Charge}
use Rattle.dh_types.specs.declared.lease.Ending.{Ending}
use Rattle.dh_types.proofs.SameValues.{numbers}
use Rattle.dh_model.specs.Books.{Books}
use Rattle.dh_model.specs.Kinds.{Kind}
use Rattle.dh_model.specs.Leases.{length_of, months_in}
use Rattle.dh_model.specs.Rules.{MeetsRules, Rule}
use Rattle.dh_model.specs.Whole.{rows_where}
use Rattle.dh_model.proofs.Among.{Among, in_filter, is_among}
use Rattle.dh_model.proofs.KeyOrders.{nat_ties, nat_total, nats_tie, nats_total}
use Rattle.dh_model.proofs.MapRows.{inside, kept_if, of_row}
use Rattle.dh_laws.specs.InOrder.{AreKeyed}
use Rattle.dh_laws.proofs.MapMerges.{get-rows_where, own_row}
use Rattle.dh_laws.proofs.BatchLemmas.Charged.{owed_charge}

-- tests that tell the same of each row keep the same rows
module _ {K X : Type 0} {R : K → K → Ordering} (o : IsTotalOrder R) (anti : IsAntisymmetric R) (p q : X → Bool) where
  kept_alike : (found : Option X) → ((x : X) → found ≡ Some x → p x ≡ q x) → kept_if p found ≡ kept_if q found
  kept_alike None same = refl
  kept_alike (Some x) same = ap (λ b. cond b (Some x) None) (same x refl)

  rows_alike : (m : FinMap R X) → ((x : X) → Among (values m) x → p x ≡ q x) → rows_where p m ≡ rows_where q m
  rows_alike m same = same_map o anti _ _ (λ k.
      get-rows_where o anti p m k ∙ kept_alike (get m k) (λ x is. same x (of_row o anti m k x is)) ∙ sym (get-rows_where o anti q m k))

-- ---- tests

same_bool : (a b : Bool) → (a ≡ true → b ≡ true) → (b ≡ true → a ≡ true) → a ≡ b
same_bool true b there back = sym (there refl)
same_bool false true there back = back refl
same_bool false false there back = refl

if_so : (b c d : Bool) → (b ≡ true → c ≡ d) → (b && c) ≡ (b && d)
if_so true c d same = same refl
if_so false c d same = refl

no_more : (b c : Bool) → c ≡ false → b ≡ (b || c)
no_more true c e = refl
no_more false c e = sym e

-- one of the list, and the month
pub any_of_month : {X : Type 0} (p : X → Bool) (b : Bool) (xs : List X) → list_any (λ x. p x && b) xs ≡ (list_any p xs && b)
any_of_month p b [] = refl
any_of_month p b (x ∷ xs) = ap (λ c. (p x && b) || c) (any_of_month p b xs) ∙ both (p x) b (list_any p xs)
  where
    both : (a b c : Bool) → ((a && b) || (c && b)) ≡ ((a || c) && b)
    both true true c = refl
    both true false true = refl
    both true false false = refl
    both false b c = refl

-- what holds of whatever is among the elements holds of each
each_among : {X : Type 0} (P : X → Type 0) (xs : List X) → ((x : X) → Among xs x → P x) → AllByRecursion P xs
each_among P [] holds = tt
each_among P (x ∷ xs) holds = (holds x (inl refl), each_among P xs (λ y a. holds y (inr a)))

module _ (size : ℕ) (books : Books) (keyed : AreKeyed books) (rules : MeetsRules books size) (lease : Lease)
    (there : get books.leases lease.terms.number ≡ Some lease) where
  -- an ending is of fewer months than the lease was signed for
  length_by : (found : Option Ending) → get books.endings lease.terms.number ≡ found → months_in lease.terms.months found ≤ lease.terms.months
  length_by None is = omega arith
  length_by (Some ending) is =
      let number = keyed Kind.Endings lease.terms.number ending is in
      let among = is_among (values books.endings) ending (of_row nat_total nat_ties books.endings lease.terms.number ending is) in
      let fewer = (rules Rule.Endings ending among).1 in
      let less : ending.months < lease.terms.months = subst (λ (found : Option Lease). IfSome found (λ l. ending.months < l.terms.months))
      (ap (get books.leases) number ∙ there) fewer in
      omega (arith, less)

  -- its index says in which month a charge on the lease fell due, and that the lease was signed for it
  record IsByIndex (charge : Charge) : Type 0 where
    month : charge.month ≡ month_of_day lease.terms.start + charge.index
    within : charge.index < lease.terms.months

  by_index : (charge : Charge) → Among (values books.charges) charge → charge.lease ≡ lease.terms.number → IsByIndex charge
  by_index charge a its =
      let owed = owed_charge size books keyed rules charge a in
      let number : owed.lease.terms.number ≡ lease.terms.number = sym (ap (λ (c : Charge). c.lease) owed.is) ∙ its in
      let own = own_row nat_total nat_ties (λ (l : Lease). l.terms.number) books.leases (keyed Kind.Leases) owed.lease owed.of in
      let same : owed.lease ≡ lease = inside owed.lease lease (sym own ∙ ap (get books.leases) number ∙ there) in
      let index : charge.index ≡ owed.k = ap (λ (c : Charge). c.index) owed.is in
      let start : month_of_day owed.lease.terms.start ≡ month_of_day lease.terms.start = ap (λ (l : Lease). month_of_day l.terms.start) same in
      let month : charge.month ≡ month_of_day owed.lease.terms.start + owed.k = ap (λ (c : Charge). c.month) owed.is in
      let within : owed.k < length_of books.endings lease = subst (λ (l : Lease). owed.k < length_of books.endings l) same owed.within in
      let few = length_by (get books.endings lease.terms.number) refl in
      record { month = omega (arith, month, start, index); within = omega (arith, within, few, index) }

  module _ (month : ℕ) where
    abbrev is_its : Charge → Bool
    is_its charge = nat_eq charge.lease lease.terms.number && nat_eq charge.month month

    -- the charge of the month has this index, and no other has
    by_key : (k : ℕ) → month_of_day lease.terms.start + k ≡ month → (charge : Charge) → Among (values books.charges) charge
        → (nat_eq charge.lease lease.terms.number && nat_eq charge.index k) ≡ is_its charge
    by_key k is charge a = if_so (nat_eq charge.lease lease.terms.number) (nat_eq charge.index k) (nat_eq charge.month month) (λ its.
        let by = by_index charge a ((numbers charge.lease lease.terms.number).0 its) in
        same_bool (nat_eq charge.index k) (nat_eq charge.month month)
        (λ same. let e = (numbers charge.index k).0 same in (numbers charge.month month).1 (omega (arith, by.month, is, e)))
        (λ same. let e = (numbers charge.month month).0 same in (numbers charge.index k).1 (omega (arith, by.month, is, e))))

    -- it is one of the months that the lease was signed for
    abbrev IsSigned : Type 0
    IsSigned = (month_of_day lease.terms.start ≤ month) × (month < month_of_day lease.terms.start + lease.terms.months)

    -- in no other month anything is charged on it
    none_its : (IsSigned → ⊥) → (charge : Charge) → Among (values books.charges) charge → is_its charge ≡ false
    none_its out charge a =
        if_so (nat_eq charge.lease lease.terms.number) (nat_eq charge.month month) false (λ its.
        false_from_ne_true (nat_eq charge.month month) (λ same.
        let by = by_index charge a ((numbers charge.lease lease.terms.number).0 its) in
        let e = (numbers charge.month month).0 same in
        out (omega (arith, by.month, e), omega (arith, by.month, by.within, e))))
        ∙ never (nat_eq charge.lease lease.terms.number)
      where
        never : (b : Bool) → (b && false) ≡ false
        never true = refl
        never false = refl

    -- what one look by that key brings beside other rows
    pub rows_by_key : (k : ℕ) → month_of_day lease.terms.start + k ≡ month → (test : Charge → Bool)
        → rows_where (λ charge. test charge || (nat_eq charge.lease lease.terms.number && nat_eq charge.index k)) books.charges
        ≡ rows_where (λ charge. test charge || is_its charge) books.charges
    rows_by_key k is test = rows_alike nats_total nats_tie _ _ books.charges (λ charge a. ap (λ b. test charge || b) (by_key k is charge a))

    -- where there is none, the others are all
    pub rows_of_none : (IsSigned → ⊥) → (test : Charge → Bool)
        → rows_where test books.charges ≡ rows_where (λ charge. test charge || is_its charge) books.charges
    rows_of_none out test =
        rows_alike nats_total nats_tie _ _ books.charges (λ charge a. no_more (test charge) (is_its charge) (none_its out charge a))

-- leases that are listed from the books stand there under their numbers
pub each_is_there : (books : Books) → AreKeyed books → (test : Lease → Bool) (leases : List Lease) → leases ≡ filter test (values books.leases)
    → All (λ lease. get books.leases lease.terms.number ≡ Some lease) leases
each_is_there books keyed test leases are =
    let IsThere : Lease → Type 0 = λ lease. get books.leases lease.terms.number ≡ Some lease in
    All-from_recursion IsThere leases (each_among IsThere leases (λ lease a.
    own_row nat_total nat_ties (λ (l : Lease). l.terms.number) books.leases (keyed Kind.Leases) lease
    (in_filter test (values books.leases) lease (subst (λ (ls : List Lease). Among ls lease) are a)).0))
