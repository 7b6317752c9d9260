-- What holds of any two elements of a list, the one before the other.
use Rattle.std.proofs.Common.{◌≡◌, ◌≢◌, ◌↔◌, ◌∙◌, refl, sym, ap, subst, inl, inr, ℕ, zero, suc, ◌<◌, Bool, true, false, cond, ◌&&◌, nat_eq, List, [], ◌∷◌, map}
use Rattle.std.proofs.Common.{length, slice_index_or, arith}
use Rattle.std.specs.declared.cmp.Ordering.{Ordering}
use Rattle.std.specs.Bool.{Decides}
use Rattle.std.specs.Cmp.{Equal-is, IsTotalOrder}
use Rattle.std.specs.FinMap.{IsAntisymmetric}
use Rattle.std.specs.List.{AllPairs, IsDistinct, filter}
use Rattle.std.specs.Ordering.{eq_by_cmp, is_eq, nat_cmp}
use Rattle.std.proofs.lemmas.Bool.{and_from, and_parts, false_from_ne_true, false≢true}
use Rattle.std.proofs.lemmas.Cmp.{tied_itself}
use Rattle.std.proofs.lemmas.Map.Made.{AllPairs-from_IsDistinct, IsDistinct-from_AllPairs}
use Rattle.dh_values.specs.declared.receipt_kind.ReceiptKind.TheVariants.{Deposit}
use Rattle.dh_types.specs.declared.lease.Lease.{Lease}
use Rattle.dh_types.specs.declared.lease.Receipt.{Receipt}
use Rattle.dh_types.specs.Records.{is_same_receipt_kind}
use Rattle.dh_types.proofs.SameValues.{numbers, receipt_kinds, texts}
use Rattle.dh_model.specs.Books.{pair_cmp, text_cmp}
use Rattle.dh_model.specs.Checks.{is_same_text}
use Rattle.dh_model.proofs.Among.{Among, in_filter, in_map, is_among, of_filter, of_map}
use Rattle.dh_model.proofs.KeyOrders.{nat_ties, nat_total, pair_ties, pair_total, text_ties, text_total}
use Rattle.dh_model.proofs.Rising.{Rises, rises_among}

pub among_at : {X : Type 0} (xs : List X) (i : ℕ) (d : X) → i < length xs → Among xs (slice_index_or xs i d)
among_at [] i d h = absurd (omega (arith, h))
among_at (x ∷ xs) zero d h = inl refl
among_at (x ∷ xs) (suc i) d h = inr (among_at xs i d (omega (arith, h)))

module _ {X : Type 0} (R : X → X → Type 0) where
  pub rises_from_pairs : (xs : List X) → AllPairs R xs → Rises R xs
  rises_from_pairs [] h = tt
  rises_from_pairs (x ∷ xs) h = (
    λ y a. let is = is_among xs y a in subst (R x) (sym is.1.1) (h 0 (suc is.0) y (omega arith) (omega (arith, is.1.0))),
    rises_from_pairs xs (λ i j d before within. h (suc i) (suc j) d (omega (arith, before)) (omega (arith, within))),
  )

  pair_at : (xs : List X) → Rises R xs → (i j : ℕ) (d : X) → i < j → j < length xs → R (slice_index_or xs i d) (slice_index_or xs j d)
  pair_at [] r i j d before within = absurd (omega (arith, within))
  pair_at (x ∷ xs) r i zero d before within = absurd (omega (arith, before))
  pair_at (x ∷ xs) r zero (suc j) d before within = r.0 (slice_index_or xs j d) (among_at xs j d (omega (arith, within)))
  pair_at (x ∷ xs) r (suc i) (suc j) d before within = pair_at xs r.1 i j d (omega (arith, before)) (omega (arith, within))

  pub pairs_from_rises : (xs : List X) → Rises R xs → AllPairs R xs
  pairs_from_rises xs r = λ i j d before within. pair_at xs r i j d before within

module _ {X Y : Type 0} (R : Y → Y → Type 0) (f : X → Y) where
  pub rises_mapped : (xs : List X) → Rises (λ x y. R (f x) (f y)) xs → Rises R (map f xs)
  rises_mapped [] r = tt
  rises_mapped (x ∷ xs) r = (λ y a. let of = in_map f xs y a in subst (R (f x)) (sym of.2) (r.0 of.0 of.1), rises_mapped xs r.1)

  pub rises_unmapped : (xs : List X) → Rises R (map f xs) → Rises (λ x y. R (f x) (f y)) xs
  rises_unmapped [] r = tt
  rises_unmapped (x ∷ xs) r = (λ y a. r.0 (f y) (of_map f xs y a), rises_unmapped xs r.1)

module _ {X : Type 0} (R : X → X → Type 0) (p : X → Bool) where
  abbrev pub BothPass : X → X → Type 0
  BothPass x y = p x ≡ true → p y ≡ true → R x y

  unkept : (b : Bool) (x : X) (xs : List X) → p x ≡ b → (Rises R (filter p xs) → Rises BothPass xs) → Rises R (cond b (x ∷ filter p xs) (filter p xs))
      → Rises BothPass (x ∷ xs)
  unkept true x xs e rest r = (λ y a s t. r.0 y (of_filter p xs y t a), rest r.1)
  unkept false x xs e rest r = (λ y a s t. absurd (false≢true (sym e ∙ s)), rest r)

  pub rises_unfiltered : (xs : List X) → Rises R (filter p xs) → Rises BothPass xs
  rises_unfiltered [] r = tt
  rises_unfiltered (x ∷ xs) r = unkept (p x) x xs refl (rises_unfiltered xs) r

  kept : (b : Bool) (x : X) (xs : List X) → p x ≡ b → Rises R (filter p xs) → Rises BothPass (x ∷ xs) → Rises R (cond b (x ∷ filter p xs) (filter p xs))
  kept true x xs e rest r = (λ y a. let in_xs = in_filter p xs y a in r.0 y in_xs.0 e in_xs.1, rest)
  kept false x xs e rest r = rest

  pub rises_filtered : (xs : List X) → Rises BothPass xs → Rises R (filter p xs)
  rises_filtered [] r = tt
  rises_filtered (x ∷ xs) r = kept (p x) x xs refl (rises_filtered xs r.1) r

module _ {K : Type 0} {R : K → K → Ordering} (o : IsTotalOrder R) (ties : IsAntisymmetric R) where
  pub same_key : (a b : K) → Decides (eq_by_cmp R a b) (a ≡ b)
  same_key a b = (λ h. ties a b ((Equal-is (R a b)).0 h), λ e. subst (λ b. is_eq (R a b) ≡ true) e ((Equal-is (R a a)).1 (tied_itself o a)))

  -- no two are the same
  pub differ : (keys : List K) → IsDistinct (eq_by_cmp R) keys → Rises (λ a b. a ≢ b) keys
  differ keys h = rises_from_pairs (λ a b. a ≢ b) keys (AllPairs-from_IsDistinct same_key keys h)

  pub of_differ : (keys : List K) → Rises (λ a b. a ≢ b) keys → IsDistinct (eq_by_cmp R) keys
  of_differ keys h = IsDistinct-from_AllPairs same_key keys (pairs_from_rises (λ a b. a ≢ b) keys h)

-- an answer on these keys
abbrev pub TellsDistinct : {K : Type 0} → (K → K → Ordering) → List K → Bool → Type 0
TellsDistinct R keys b = (b ≡ true) ↔ IsDistinct (eq_by_cmp R) keys

abbrev start_of : Lease → List ℕ × ℕ
start_of lease = (lease.terms.client, lease.terms.start)

abbrev StartApart : Lease → Lease → Type 0
StartApart lease other = (is_same_text lease.terms.client other.terms.client && nat_eq lease.terms.start other.terms.start) ≡ false

start_apart : (lease other : Lease) → start_of lease ≢ start_of other → StartApart lease other
start_apart lease other differs =
    let client = is_same_text lease.terms.client other.terms.client in
    let start = nat_eq lease.terms.start other.terms.start in
    false_from_ne_true (client && start) (λ both.
    let parts = and_parts client start both in
    let clients = (texts lease.terms.client other.terms.client).0 parts.0 in
    let starts = (numbers lease.terms.start other.terms.start).0 parts.1 in
    differs (λ i. (clients i, starts i)))

of_start_apart : (lease other : Lease) → StartApart lease other → start_of lease ≢ start_of other
of_start_apart lease other apart same =
    let client = is_same_text lease.terms.client other.terms.client in
    let start = nat_eq lease.terms.start other.terms.start in
    false≢true (sym apart
    ∙ and_from client start ((texts lease.terms.client other.terms.client).1 (ap (λ s. s.0) same))
    ((numbers lease.terms.start other.terms.start).1 (ap (λ s. s.1) same)))

-- whether no two leases of a client start on one day
pub starts_tell : (leases : List Lease) (starts : List (List ℕ × ℕ)) (b : Bool) → starts ≡ map (λ lease. (lease.terms.client, lease.terms.start)) leases
    → TellsDistinct (pair_cmp text_cmp nat_cmp) starts b
    → (b ≡ true) ↔ AllPairs (λ lease other. (is_same_text lease.terms.client other.terms.client && nat_eq lease.terms.start other.terms.start) ≡ false) leases
starts_tell leases starts b are tells =
    let total = pair_total text_total nat_total in
    let ties = pair_ties text_ties nat_ties in (
      λ yes. pairs_from_rises StartApart leases (rises_among (λ l k. start_of l ≢ start_of k) StartApart leases (λ l k _ _. start_apart l k)
          (rises_unmapped (λ a b. a ≢ b) start_of leases (subst (Rises (λ a b. a ≢ b)) are (differ total ties starts (tells.0 yes))))),
      λ apart. tells.1 (of_differ total ties starts (subst (Rises (λ a b. a ≢ b)) (sym are)
          (rises_mapped (λ a b. a ≢ b) start_of leases (rises_among StartApart (λ l k. start_of l ≢ start_of k) leases (λ l k _ _. of_start_apart l k)
          (rises_from_pairs StartApart leases apart))))),
    )

abbrev is_deposit : Receipt → Bool
is_deposit receipt = is_same_receipt_kind receipt.payment.kind Deposit

abbrev lease_of : Receipt → ℕ
lease_of receipt = receipt.payment.lease

abbrev LeaseApart : Receipt → Receipt → Type 0
LeaseApart receipt other = lease_of receipt ≢ lease_of other

abbrev DepositsApart : Receipt → Receipt → Type 0
DepositsApart receipt other = receipt.payment.kind ≡ Deposit → other.payment.kind ≡ Deposit → receipt.payment.lease ≢ other.payment.lease

-- whether no lease has two deposits
pub deposits_tell : (receipts : List Receipt) (leases : List ℕ) (b : Bool)
    → leases ≡ map (λ receipt. receipt.payment.lease) (filter (λ receipt. is_same_receipt_kind receipt.payment.kind Deposit) receipts)
    → TellsDistinct nat_cmp leases b
    → (b ≡ true) ↔ AllPairs (λ receipt other. receipt.payment.kind ≡ Deposit → other.payment.kind ≡ Deposit
    → receipt.payment.lease ≢ other.payment.lease) receipts
deposits_tell receipts leases b are tells = (
  λ yes. pairs_from_rises DepositsApart receipts (rises_among (BothPass LeaseApart is_deposit) DepositsApart receipts
      (λ r s _ _ apart k l. apart ((receipt_kinds r.payment.kind Deposit).1 k) ((receipt_kinds s.payment.kind Deposit).1 l))
      (rises_unfiltered LeaseApart is_deposit receipts
      (rises_unmapped (λ a b. a ≢ b) lease_of (filter is_deposit receipts)
      (subst (Rises (λ a b. a ≢ b)) are (differ nat_total nat_ties leases (tells.0 yes)))))),
  λ apart. tells.1 (of_differ nat_total nat_ties leases
      (subst (Rises (λ a b. a ≢ b)) (sym are) (rises_mapped (λ a b. a ≢ b) lease_of (filter is_deposit receipts)
      (rises_filtered LeaseApart is_deposit receipts (rises_among DepositsApart (BothPass LeaseApart is_deposit) receipts
      (λ r s _ _ apart k l. apart ((receipt_kinds r.payment.kind Deposit).0 k) ((receipt_kinds s.payment.kind Deposit).0 l))
      (rises_from_pairs DepositsApart receipts apart)))))),
)

abbrev KeysApart : List ℕ → List ℕ → Type 0
KeysApart key other = is_same_text key other ≡ false

-- whether no two keys are the same
pub keys_tell : (keys all : List (List ℕ)) (b : Bool) → keys ≡ all → TellsDistinct text_cmp keys b → (b ≡ true)
    ↔ AllPairs (λ key other. is_same_text key other ≡ false) all
keys_tell keys all b are tells = (
  λ yes. pairs_from_rises KeysApart all
      (rises_among (λ a b. a ≢ b) KeysApart all (λ a b _ _ differs. false_from_ne_true (is_same_text a b) (λ same. differs ((texts a b).0 same)))
      (subst (Rises (λ a b. a ≢ b)) are (differ text_total text_ties keys (tells.0 yes)))),
  λ apart. tells.1 (of_differ text_total text_ties keys (subst (Rises (λ a b. a ≢ b)) (sym are)
      (rises_among KeysApart (λ a b. a ≢ b) all (λ a b _ _ apart same. false≢true (sym apart ∙ (texts a b).1 same)) (rises_from_pairs KeysApart all apart)))),
)
