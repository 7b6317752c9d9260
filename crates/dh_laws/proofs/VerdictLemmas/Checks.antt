-- What a check that passes says.
use Rattle.std.proofs.Common.{◌≡◌, ◌∙◌, refl, ap, ℕ, ◌*◌, ◌<◌, Bool, true, false, not, nat_eq, ◌&&◌, cond, List, [], ◌∷◌, map}
use Rattle.std.proofs.Common.{fold, Option, Some, None, IfSome, inl, inr, ◌≢◌, if◌then◌else◌}
use Rattle.std.specs.Option.{is_some}
use Rattle.std.specs.List.{filter, list_any}
use Rattle.std.specs.List as list
use Rattle.std.specs.FinMap.{contains_key, get, values}
use Rattle.std.proofs.lemmas.Bool.{false_from_ne_true, ltb-true, not-true}
use Rattle.dh_values.specs.declared.receipt_kind.ReceiptKind.TheVariants.{Deposit}
use Rattle.dh_types.specs.declared.property.Property.{Property}
use Rattle.dh_types.specs.declared.lease.Lease.{Lease}
use Rattle.dh_types.specs.declared.lease.Payment.{Payment}
use Rattle.dh_types.specs.declared.lease.Receipt.{Receipt}
use Rattle.dh_types.specs.declared.run.Run.{Run}
use Rattle.dh_types.specs.Records.{is_same_receipt_kind}
use Rattle.dh_types.proofs.SameValues.{numbers, receipt_kinds}
use Rattle.dh_model.specs.Books.{Books}
use Rattle.dh_model.specs.Rules.{IsThere}
use Rattle.dh_model.specs.Checks.{at_most, deposit_checks, each_is, has_deposit, has_room, is_deposit, is_registered, is_same_text, least}
use Rattle.dh_model.specs.Checks.{managed_besides, receipt_of_key, run_of_key, works_at}
use Rattle.dh_laws.proofs.VerdictLemmas.Rulings.{Held, no_row}
use Rattle.dh_model.proofs.Among.{Among, of_passes}

-- the manager is there, of the branch, and has room for the property
pub record CanManage (books : Books) (branch property member : List ℕ) : Type 0 where
  pub there : IsThere books.staff member
  pub of_branch : works_at branch (get books.staff member) ≡ true
  pub room : managed_besides books member property < 100

pub can_manage : (books : Books) (branch property : List ℕ) (member : Option (List ℕ)) → each_is (λ m. contains_key books.staff m) member ≡ true
    → each_is (λ m. works_at branch (get books.staff m)) member ≡ true → each_is (λ m. has_room books m property) member ≡ true
    → IfSome member (CanManage books branch property)
can_manage books branch property None a b c = tt
can_manage books branch property (Some member) a b c = record { there = a; of_branch = b; room = ltb-true (managed_besides books member property) 100 c }

-- ---- searches that find nothing

least_from : (m : ℕ) (ns : List ℕ) → fold (λ so_far n. Some (at_most so_far n)) (Some m) ns ≡ None → ⊥
least_from m [] h = cc
least_from m (n ∷ ns) h = least_from (at_most (Some m) n) ns h

no_least : (ns : List ℕ) → least ns ≡ None → ns ≡ []
no_least [] h = refl
no_least (n ∷ ns) h = absurd (least_from n ns h)

none_by : (p : Lease → Bool) (b : Bool) (first lease : Lease) (leases : List Lease) → p first ≡ b
    → (map (λ l. l.terms.number) (filter p leases) ≡ [] → Among leases lease → p lease ≡ false)
    → map (λ l. l.terms.number) (cond b (first ∷ filter p leases) (filter p leases)) ≡ [] → Among (first ∷ leases) lease → p lease ≡ false
none_by p true first lease leases e rest h a = cc
none_by p false first lease leases e rest h (inl s) = ap p s ∙ e
none_by p false first lease leases e rest h (inr a) = rest h a

none_numbered : (p : Lease → Bool) (leases : List Lease) (lease : Lease) → map (λ l. l.terms.number) (filter p leases) ≡ [] → Among leases lease
    → p lease ≡ false
none_numbered p [] lease h a = absurd a
none_numbered p (first ∷ leases) lease h a = none_by p (p first) first lease leases refl (none_numbered p leases lease) h a

-- no least number of those that pass, so none passes
pub none_of_leases : (p : Lease → Bool) (leases : List Lease) → not (is_some (least (map (λ l. l.terms.number) (filter p leases)))) ≡ true
    → (lease : Lease) → Among leases lease → p lease ≡ false
none_of_leases p leases h lease a =
    let numbers = map (λ l. l.terms.number) (filter p leases) in
    none_numbered p leases lease (no_least numbers (no_row (least numbers) h)) a

pub none_passes : {X : Type 0} (p : X → Bool) (xs : List X) → list_any p xs ≡ false → (x : X) → Among xs x → p x ≡ false
none_passes p xs h x a = false_from_ne_true (p x) (λ t. let some = of_passes p xs x a t in cc)

found_none_by : {X : Type 0} (p : X → Bool) (b : Bool) (y x : X) (xs : List X) → p y ≡ b → (list.find p xs ≡ None → Among xs x → p x ≡ false)
    → cond b (Some y) (list.find p xs) ≡ None → Among (y ∷ xs) x → p x ≡ false
found_none_by p true y x xs e rest h a = cc
found_none_by p false y x xs e rest h (inl s) = ap p s ∙ e
found_none_by p false y x xs e rest h (inr a) = rest h a

pub found_none : {X : Type 0} (p : X → Bool) (xs : List X) → list.find p xs ≡ None → (x : X) → Among xs x → p x ≡ false
found_none p [] h x a = absurd a
found_none p (y ∷ xs) h x a = found_none_by p (p y) y x xs refl (λ g b. found_none p xs g x b) h a

-- ---- the checks of a lease

pub some_property : (books : Books) (client : List ℕ) (found : Option Property) → is_registered books client found ≡ true
    → (property : Property) × (found ≡ Some property) × IsThere books.registrations (client, property.branch)
some_property books client None h = cc
some_property books client (Some property) h = (property, refl, h)

-- ---- the checks of a receipt

if_chosen : (b c : Bool) → (if b then c else true) ≡ true → b ≡ true → c ≡ true
if_chosen true c h e = h
if_chosen false c h e = cc

twice : (found : Option Lease) (amount : ℕ) → each_is (λ (lease : Lease). nat_eq amount (2 * lease.rent)) found ≡ true
    → IfSome found (λ lease. amount ≡ 2 * lease.rent)
twice None amount h = tt
twice (Some lease) amount h = (numbers amount (2 * lease.rent)).0 h

not_both : (a b : Bool) → (a && b) ≡ false → b ≡ true → a ≡ false
not_both true b h e = cc
not_both false b h e = refl

-- a deposit is twice the rent, and no other deposit of the lease is there
pub record IsFirstDeposit (books : Books) (payment : Payment) : Type 0 where
  pub amount : IfSome (get books.leases payment.lease) (λ lease. payment.amount ≡ 2 * lease.rent)
  pub first : (receipt : Receipt) → Among (values books.receipts) receipt → receipt.payment.kind ≡ Deposit → receipt.payment.lease ≢ payment.lease

pub deposit_of : (books : Books) (payment : Payment) → Held (deposit_checks books payment) → payment.kind ≡ Deposit → IsFirstDeposit books payment
deposit_of books payment h kind =
    let is = (receipt_kinds payment.kind Deposit).1 kind in
    let none = if_chosen (is_deposit payment) _ h.0 is in
    record {
      amount = twice (get books.leases payment.lease) payment.amount (if_chosen (is_deposit payment) _ h.1.0 is);
      first = λ receipt a kind same.
          let fails = none_passes (λ (r : Receipt). nat_eq r.payment.lease payment.lease && is_same_receipt_kind r.payment.kind Deposit) (values books.receipts)
          (not-true (has_deposit books payment.lease) none) receipt a in
          let apart = not_both (nat_eq receipt.payment.lease payment.lease) (is_same_receipt_kind receipt.payment.kind Deposit) fails
          ((receipt_kinds receipt.payment.kind Deposit).1 kind) in
          let alike = (numbers receipt.payment.lease payment.lease).1 same in
          cc;
    }

-- no receipt and no run has the key
pub record IsNewKey (books : Books) (key : List ℕ) : Type 0 where
  pub receipts : (receipt : Receipt) → Among (values books.receipts) receipt → is_same_text receipt.key key ≡ false
  pub runs : (run : Run) → Among (values books.runs) run → is_same_text run.key key ≡ false

pub new_key : (books : Books) (key : List ℕ) → receipt_of_key books key ≡ None → run_of_key books key ≡ None → IsNewKey books key
new_key books key receipts runs = record {
  receipts = found_none (λ (receipt : Receipt). is_same_text receipt.key key) (values books.receipts) receipts;
  runs = found_none (λ (run : Run). is_same_text run.key key) (values books.runs) runs;
}
