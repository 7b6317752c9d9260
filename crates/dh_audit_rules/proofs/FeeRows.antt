-- What fee rows take of charges, one charge after the other, and what a part's row sums up.
use Rattle.std.proofs.Common.{◌≡◌, ◌↔◌, ◌∙◌, refl, sym, ap, subst, ℕ, ◌+◌, ◌*◌, ◌^◌, ◌<◌, ◌≤◌, Bool, true, false, cond}
use Rattle.std.proofs.Common.{◌&&◌, nat_eq, List, [], ◌∷◌, ◌++◌, length}
use Rattle.std.proofs.Common.{append_assoc, Option, Some, None, arith, unwrap_or}
use Rattle.std.specs.Prelude.{IsSomeAnd}
use Rattle.std.specs.List.{filter, sum_by}
use Rattle.std.specs.FinMap as fin
use Rattle.std.specs.BTreeMap.{BTreeMap, get, is_at}
use Rattle.std.proofs.lemmas.Bool.{false_from_ne_true, false≢true, and_parts, and_from}
use Rattle.std.proofs.lemmas.List.Sums.{sum_by-cons, sum_by_push}
use Rattle.dh_types.specs.declared.lease.Lease.{Lease}
use Rattle.dh_types.specs.declared.lease.Charge.{Charge}
use Rattle.dh_types.specs.declared.property.Property.{Property}
use Rattle.dh_types.specs.declared.run.Part.{Part}
use Rattle.dh_types.specs.declared.fee.PartFee.{PartFee}
use Rattle.dh_types.proofs.SameValues.{numbers, texts}
use Rattle.dh_model.specs.Books.{Books}
use Rattle.dh_model.specs.Runs.{charge_fee, fees_over, is_property_of, part_fee_of}
use Rattle.dh_model.specs.Rules.{HasItsFee, charges_of_part, is_charged_at}
use Rattle.dh_model.proofs.MapRows.{key_itself, same_key}
use Rattle.dh_audit_rules.specs.declared.fees.FeeSum.{FeeSum}
use Rattle.dh_audit_rules.specs.Fees.{HasItsRow, HasMore, IsItsRow, Key, branch_at, branch_of, fee_by, fees_at, is_charged_under, key_cmp}
use Rattle.dh_audit_rules.specs.Fees.{fee_sum_of, fee_under, pence_at, pence_in, row_fee, so_far, with_charge}
use Rattle.dh_audit_rules.specs.ClosedMonths.{branch_in}
use Rattle.dh_model.proofs.KeyOrders.{nat_text_ties, nat_text_total}

-- ---- what is taken of a charge

nowhere : (b : Bool) (n : ℕ) → cond (b && false) n 0 ≡ 0
nowhere true n = refl
nowhere false n = refl

module _ (books : Books) (charge : Charge) where
  abbrev At : Option Lease → Key → Bool
  At found key = nat_eq charge.month key.0 && is_charged_at books key.1 found

  -- the lease is not there
  pub no_lease : fin.get books.leases charge.lease ≡ None → (key : Key) → fee_under books key charge ≡ 0
  no_lease none key =
      ap (λ found. cond (At found key) (fee_by (fin.get books.part_fees key) charge) 0) none
      ∙ nowhere (nat_eq charge.month key.0) (fee_by (fin.get books.part_fees key) charge)

  module _ (lease : Lease) (is : fin.get books.leases charge.lease ≡ Some lease) where
    at_lease : (key : Key) → fee_under books key charge ≡ cond (At (Some lease) key) (fee_by (fin.get books.part_fees key) charge) 0
    at_lease key = ap (λ found. cond (At found key) (fee_by (fin.get books.part_fees key) charge) 0) is

    pub no_property : fin.get books.properties lease.terms.property ≡ None → (key : Key) → fee_under books key charge ≡ 0
    no_property none key =
        at_lease key
        ∙ ap (λ found. cond (nat_eq charge.month key.0 && is_property_of key.1 found) (fee_by (fin.get books.part_fees key) charge) 0) none
        ∙ nowhere (nat_eq charge.month key.0) (fee_by (fin.get books.part_fees key) charge)

    module _ (property : Property) (owned : fin.get books.properties lease.terms.property ≡ Some property) where
      abbrev own : Key
      own = (charge.month, property.branch)

      abbrev is_own : Key → Bool
      is_own key = is_at (key_cmp own) key

      abbrev matches : Key → Bool
      matches key = nat_eq charge.month key.0 && is_property_of key.1 (Some property)

      same_test : (key : Key) (b : Bool) → is_own key ≡ b → matches key ≡ b
      same_test key true e =
          let same : own ≡ key = same_key nat_text_total nat_text_ties own key e in
          and_from (nat_eq charge.month key.0) (is_property_of key.1 (Some property))
          ((numbers charge.month key.0).1 (ap (λ (k : Key). k.0) same)) ((texts property.branch key.1).1 (ap (λ (k : Key). k.1) same))
      same_test key false e = false_from_ne_true (matches key) (λ h.
          let parts = and_parts (nat_eq charge.month key.0) (is_property_of key.1 (Some property)) h in
          let month : charge.month ≡ key.0 = (numbers charge.month key.0).0 parts.0 in
          let branch : property.branch ≡ key.1 = (texts property.branch key.1).0 parts.1 in
          let same : own ≡ key = λ i. (month i, branch i) in
          let here : is_own key ≡ true = ap is_own (sym same) ∙ key_itself nat_text_total nat_text_ties own in
          false≢true (sym e ∙ here))

      at_property : (key : Key) → fee_under books key charge ≡ cond (is_own key) (fee_by (fin.get books.part_fees key) charge) 0
      at_property key =
          at_lease key
          ∙ ap (λ found. cond (nat_eq charge.month key.0 && is_property_of key.1 found) (fee_by (fin.get books.part_fees key) charge) 0) owned
          ∙ ap (λ b. cond b (fee_by (fin.get books.part_fees key) charge) 0) (same_test key (is_own key) refl)

  no_branch_in : (lease : Lease) → fin.get books.leases charge.lease ≡ Some lease → (found : Option Property)
      → fin.get books.properties lease.terms.property ≡ found → branch_in found ≡ None → (key : Key) → fee_under books key charge ≡ 0
  no_branch_in lease is None at none key = no_property lease is at key
  no_branch_in lease is (Some property) at none key = absurd (let no : Some property.branch ≡ None = none in cc)

  no_branch_at : (found : Option Lease) → fin.get books.leases charge.lease ≡ found → branch_at books found ≡ None → (key : Key)
      → fee_under books key charge ≡ 0
  no_branch_at None is none key = no_lease is key
  no_branch_at (Some lease) is none key = no_branch_in lease is (fin.get books.properties lease.terms.property) refl none key

  -- nothing is taken of a charge that is made at no branch
  pub no_branch : branch_of books charge.lease ≡ None → (key : Key) → fee_under books key charge ≡ 0
  no_branch = no_branch_at (fin.get books.leases charge.lease) refl

  module _ (branch : List ℕ) where
    abbrev Takes : List ℕ → Type 0
    Takes branch = (key : Key) → fee_under books key charge ≡ cond (is_at (key_cmp (charge.month, branch)) key) (fee_by (fin.get books.part_fees key) charge) 0

    a_branch_in : (lease : Lease) → fin.get books.leases charge.lease ≡ Some lease → (found : Option Property)
        → fin.get books.properties lease.terms.property ≡ found → branch_in found ≡ Some branch → Takes branch
    a_branch_in lease is None at some = absurd (let no : None ≡ Some branch = some in cc)
    a_branch_in lease is (Some property) at some = let same : property.branch ≡ branch = cc in subst Takes same (at_property lease is property at)

    a_branch_at : (found : Option Lease) → fin.get books.leases charge.lease ≡ found → branch_at books found ≡ Some branch → Takes branch
    a_branch_at None is some = absurd (let no : None ≡ Some branch = some in cc)
    a_branch_at (Some lease) is some = a_branch_in lease is (fin.get books.properties lease.terms.property) refl some

    -- of any other, the fee row of its month and branch takes its fee, and no other row takes anything
    pub a_branch : branch_of books charge.lease ≡ Some branch → Takes branch
    a_branch = a_branch_at (fin.get books.leases charge.lease) refl

-- ---- one charge more

-- the fee row takes so many pence
abbrev taking : Books → Key → ℕ → FeeSum
taking books key pence = record { fee = row_fee (fin.get books.part_fees key); pence = pence }

-- what is taken of the charges that are done, before those that are left
pub record IsDone (books : Books) (count : ℕ) (fees : BTreeMap Key FeeSum) (rest : List Charge) : Type 0 where
  pub done : List Charge
  pub whole : done ++ rest ≡ fin.values books.charges
  pub taken : (key : Key) → so_far books fees key ≡ fee_sum_of books done key
  pub few : (key : Key) → fees_at books done key + 999999 * length rest ≤ 999999 * count

module _ (books : Books) (count : ℕ) (charge : Charge) (rest left : List Charge) (first : left ≡ charge ∷ rest) where
  module _ (old : BTreeMap Key FeeSum) (was : IsDone books count old left) where
    abbrev next : List Charge
    next = was.done ++ charge ∷ []

    one_more : (key : Key) → fees_at books next key ≡ fees_at books was.done key + fee_under books key charge
    one_more key = sum_by_push (fee_under books key) was.done charge

    next_whole : next ++ rest ≡ fin.values books.charges
    next_whole = append_assoc was.done (charge ∷ []) rest ∙ ap (λ l. was.done ++ l) (sym first) ∙ was.whole

    still_few : (key : Key) → fee_under books key charge ≤ 999999 → fees_at books next key + 999999 * length rest ≤ 999999 * count
    still_few key small =
        let had = was.few key in
        let next = one_more key in
        let fewer = ap length first in
        omega (arith, had, next, fewer, small)

    -- nothing is taken of the charge
    pub none_taken : ((key : Key) → fee_under books key charge ≡ 0) → IsDone books count old rest
    none_taken none = record {
      done = next;
      whole = next_whole;
      taken = λ key. was.taken key ∙ ap (taking books key) (let no = none key in let more = one_more key in omega (arith, no, more));
      few = λ key. still_few key (let no = none key in omega (arith, no));
    }

    module _ (own : Key) (takes : (key : Key) → fee_under books key charge ≡ cond (is_at (key_cmp own) key) (fee_by (fin.get books.part_fees key) charge) 0)
        (least : charge_fee (so_far books old own).fee charge ≤ 999999) where
      abbrev fee_at_key : Key → ℕ
      fee_at_key key = fee_by (fin.get books.part_fees key) charge

      small : fee_at_key own ≤ 999999
      small = subst (λ (taken : FeeSum). charge_fee taken.fee charge ≤ 999999) (was.taken own) least

      small_by : (key : Key) (b : Bool) → is_at (key_cmp own) key ≡ b → cond b (fee_at_key key) 0 ≤ 999999
      small_by key true e =
          let same : own ≡ key = same_key nat_text_total nat_text_ties own key e in
          subst (λ k. fee_at_key k ≤ 999999) same small
      small_by key false e = omega arith

      module _ (new : BTreeMap Key FeeSum) (more : HasMore books old new own charge) where
        next_by : (key : Key) (b : Bool) → is_at (key_cmp own) key ≡ b → cond b (with_charge (so_far books old own) charge) (so_far books old key)
            ≡ taking books key (fees_at books was.done key + cond b (fee_at_key key) 0)
        next_by key true e =
            let same : own ≡ key = same_key nat_text_total nat_text_ties own key e in
            ap (λ taken. with_charge taken charge) (was.taken own) ∙ ap (λ k. taking books k (fees_at books was.done k + fee_at_key k)) same
        next_by key false e =
            was.taken key ∙ ap (taking books key) (let same : fees_at books was.done key ≡ fees_at books was.done key + 0 = omega arith in same)

        -- the fee row of its month and branch takes its fee
        pub some_taken : IsDone books count new rest
        some_taken = record {
          done = next;
          whole = next_whole;
          taken = λ key. more key ∙ next_by key (is_at (key_cmp own) key) refl
              ∙ ap (taking books key) (let its = takes key in let more = one_more key in omega (arith, its, more));
          few = λ key. still_few key (let its = takes key in let few = small_by key (is_at (key_cmp own) key) refl in omega (arith, its, few));
        }

module _ (books : Books) (count : ℕ) (fees : BTreeMap Key FeeSum) where
  -- each fee row has room for one charge more
  pub room : count < 2 ^ 64 → (rest : List Charge) → IsDone books count fees rest → (key : Key) → (so_far books fees key).pence + 999999 < 2 ^ 128
  room fits rest was key =
      let few = was.few key in
      subst (λ (taken : FeeSum). taken.pence + 999999 < 2 ^ 128) (sym (was.taken key)) (omega (arith, few, fits))

-- ---- what a part's row sums up

module _ {X : Type 0} (p q : X → Bool) (f : X → ℕ) where
  abbrev both : X → ℕ
  both x = cond (q x && p x) (f x) 0

  kept_first : (b c : Bool) (x : X) (n : ℕ) (xs : List X) → q x ≡ b → p x ≡ c → n ≡ sum_by f (filter p (filter q xs))
      → cond (b && c) (f x) 0 + n ≡ sum_by f (filter p (cond b (x ∷ filter q xs) (filter q xs)))
  kept_first true true x n xs e g h =
      let all = sum_by-cons f x (filter p (filter q xs)) in
      let kept : sum_by f (filter p (x ∷ filter q xs)) ≡ sum_by f (x ∷ filter p (filter q xs)) =
      ap (λ b. sum_by f (cond b (x ∷ filter p (filter q xs)) (filter p (filter q xs)))) g in
      omega (arith, all, kept, h)
  kept_first true false x n xs e g h =
      let kept : sum_by f (filter p (x ∷ filter q xs)) ≡ sum_by f (filter p (filter q xs)) =
      ap (λ b. sum_by f (cond b (x ∷ filter p (filter q xs)) (filter p (filter q xs)))) g in
      omega (arith, kept, h)
  kept_first false c x n xs e g h = omega (arith, h)

  -- a sum over what passes two tests
  pub sum_kept : (xs : List X) → sum_by both xs ≡ sum_by f (filter p (filter q xs))
  sum_kept [] = refl
  sum_kept (x ∷ xs) =
      let all = sum_by-cons both x xs in
      let step = kept_first (q x) (p x) x (sum_by both xs) xs refl refl (sum_kept xs) in
      omega (arith, all, step)

module _ (books : Books) (part : Part) where
  abbrev key : Key
  key = (part.month, part.branch)

  abbrev all : List Charge
  all = fin.values books.charges

  -- what the part's row takes of all charges is the fees of the part's charges
  row_sum : (row : PartFee) → fin.get books.part_fees key ≡ Some row → fees_at books all key ≡ fees_over row.fee (charges_of_part books part)
  row_sum row is =
      ap (λ found. sum_by (λ charge. cond (is_charged_under books key charge) (fee_by found charge) 0) all) is
      ∙ sum_kept (λ charge. is_charged_at books part.branch (fin.get books.leases charge.lease)) (λ charge. nat_eq charge.month part.month)
      (charge_fee row.fee) all

  to_row : HasItsFee books part → HasItsRow books (fees_at books all) part
  to_row has =
      let row = part_fee_of part.month part.branch has.fee (charges_of_part books part) in
      subst (λ found. IsSomeAnd found (IsItsRow books (fees_at books all key) part)) (sym has.row)
      (record { month = refl; branch = refl; total = sym (row_sum row has.row); present = has.present })

  of_row : (found : Option PartFee) → fin.get books.part_fees key ≡ found → IsSomeAnd found (IsItsRow books (fees_at books all key) part)
      → HasItsFee books part
  of_row None is h = absurd h
  of_row (Some row) is h =
      let month = h.month in
      let branch = h.branch in
      let total = h.total ∙ row_sum row is in
      record {
        fee = row.fee;
        row = is ∙ (λ i. Some (record { month = month i; branch = branch i; fee = row.fee; total = total i }));
        present = h.present;
      }

  -- the part has its fee exactly where it has such a row
  pub has_its_row : HasItsRow books (fees_at books all) part ↔ HasItsFee books part
  has_its_row = (of_row (fin.get books.part_fees key) refl, to_row)

-- ---- what was taken, by month and branch

pence_or : (found : Option FeeSum) (none : FeeSum) → none.pence ≡ 0 → (unwrap_or found none).pence ≡ pence_in found
pence_or None none nothing = nothing
pence_or (Some taken) none nothing = refl

module _ (books : Books) (fees : BTreeMap Key FeeSum)
    (taken : (key : Key) → so_far books fees key ≡ fee_sum_of books (fin.values books.charges) key) (part : Part) where
  abbrev at : Key
  at = (part.month, part.branch)

  same_pence : pence_at fees at ≡ fees_at books (fin.values books.charges) at
  same_pence = sym (pence_or (get key_cmp fees at) (fee_sum_of books [] at) refl) ∙ ap (λ (its : FeeSum). its.pence) (taken at)

  abbrev By : ℕ → Type 0
  By sum = IsSomeAnd (fin.get books.part_fees at) (IsItsRow books sum part)

  -- the part has its fee exactly where it has a row that comes to these pence
  pub has_fee_by : HasItsRow books (pence_at fees) part ↔ HasItsFee books part
  has_fee_by =
      let its = has_its_row books part in
      (λ h. its.0 (subst By same_pence h), λ h. subst By (sym same_pence) (its.1 h))
