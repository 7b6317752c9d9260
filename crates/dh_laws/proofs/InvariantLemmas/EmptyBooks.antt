-- Books without a row are in order.
use Rattle.std.proofs.Common.{◌≡◌, ◌≢◌, ◌∙◌, ◌&&◌, false, nat_eq, ℕ, List, [], ◌∷◌, ◌++◌, map, length, Some, None, refl, sym, ap, subst, arith, nat_cmp}
use Rattle.std.proofs.Common.{is_some, not, true≢false}
use Rattle.std.specs.declared.cmp.Ordering.{Ordering}
use Rattle.std.specs.List.{find}
use Rattle.std.specs.FinMap.{empty, entries, get-empty, len-empty, len-entries, values}
use Rattle.dh_types.specs.declared.lease.Receipt.{Receipt}
use Rattle.dh_types.specs.declared.run.Run.{Run}
use Rattle.dh_values.specs.declared.receipt_kind.ReceiptKind.TheVariants.{Deposit}
use Rattle.dh_model.specs.Kinds.{Kind, key_in, order_of, records_of}
use Rattle.dh_model.specs.Books.{StandUnder, empty_books}
use Rattle.dh_model.specs.Checks.{is_same_text}
use Rattle.dh_model.specs.Leases.{overlap, running}
use Rattle.dh_model.specs.Rules.{Each, EachTwo, IsThere, MeetsRules, Refers, References, Branches, Managers, Overlaps, Starts, Terms, Deposits, Keys}
use Rattle.dh_model.specs.Rules.{Runs, Months, Fees, Endings}
use Rattle.dh_model.proofs.Among.{Among, among}
use Rattle.dh_laws.specs.InOrder.{AreKeyed}
use Rattle.dh_laws.specs.Keeping.{EmptyBooksAreInOrder}

pub none_left : {X : Type 0} (xs : List X) → length xs ≡ 0 → xs ≡ []
none_left [] h = refl
none_left (x ∷ xs) h = absurd (omega arith)

none_is_some : {X : Type 0} (x : X) → None ≡ Some x → ⊥
none_is_some x e = cc

module _ {K X : Type 0} (R : K → K → Ordering) where
  no_rows : values (empty {X = X} {R = R}) ≡ []
  no_rows = ap (map (λ e. e.1)) (none_left (entries (empty {X = X} {R = R})) (sym (len-entries (empty {X = X} {R = R})) ∙ len-empty R X))

  pub each_of_none : (P : X → Type 0) → Each (empty {X = X} {R = R}) P
  each_of_none P row h = absurd (subst (λ rows. Among rows row) no_rows (among (values empty) row h))

  two_of_none : (P : X → X → Type 0) → EachTwo (empty {X = X} {R = R}) P
  two_of_none P i j d lt small = absurd (omega (arith, ap length no_rows, small))

  pub none_under : (key : X → K) → StandUnder key (empty {X = X} {R = R})
  none_under key k row h = absurd (none_is_some row (sym (get-empty R k) ∙ h))

nothing_there : {K : Type 0} (X : Type 0) (R : K → K → Ordering) (q : K) → IsThere (empty {X = X} {R = R}) q → ⊥
nothing_there X R q h = true≢false (sym h ∙ ap is_some (get-empty R q))

no_keys : length (map (λ (it : Receipt). it.key) (values (empty {R = nat_cmp})) ++ map (λ (it : Run). it.key) (values (empty {R = nat_cmp}))) ≡ 0
no_keys = ap (λ rows. length (map (λ (it : Receipt). it.key) rows ++ map (λ (it : Run). it.key) (values (empty {R = nat_cmp})))) (no_rows nat_cmp)
    ∙ ap (λ rows. length (map (λ (it : Run). it.key) rows)) (no_rows nat_cmp)

module _ (size month : ℕ) where
  none_of : (kind : Kind) → records_of kind (empty_books month) ≡ empty {R = order_of kind}
  none_of Kind.Branches = refl
  none_of kind = refl

  meets : MeetsRules (empty_books month) size
  meets References = λ kind. subst (λ rows. Each rows (Refers (empty_books month) kind)) (sym (none_of kind))
      (each_of_none (order_of kind) (Refers (empty_books month) kind))
  meets Branches = record { managers = each_of_none _ _; registrars = each_of_none _ _ }
  meets Managers = each_of_none _ _
  meets Overlaps = two_of_none _ (λ lease other. overlap (running empty lease) (running empty other) ≡ false)
  meets Starts = two_of_none _ (λ lease other. (is_same_text lease.terms.client other.terms.client && nat_eq lease.terms.start other.terms.start) ≡ false)
  meets Terms = each_of_none _ _
  meets Deposits = record {
    amounts = each_of_none _ _;
    one_each = two_of_none _ (λ receipt other. receipt.payment.kind ≡ Deposit → other.payment.kind ≡ Deposit
        → receipt.payment.lease ≢ other.payment.lease);
  }
  meets Keys = record {
    keys = λ i j d lt small. absurd (omega (arith, no_keys, small));
    numbers = each_of_none _ _;
  }
  meets Runs = record {
    months = omega arith;
    run = λ m. (λ h. absurd (nothing_there _ _ m h), λ h. absurd (omega (arith, h.0, h.1)));
    closed = each_of_none _ _;
  }
  meets Months = record { closed = each_of_none _ _; under_way = each_of_none _ _; charged = each_of_none _ _; summed = each_of_none _ _ }
  meets Fees = each_of_none _ _
  meets Endings = each_of_none _ _

  keyed : AreKeyed (empty_books month)
  keyed kind = subst (StandUnder (key_in kind)) (sym (none_of kind)) (none_under (order_of kind) (key_in kind))

pub empty_books_are_in_order : (size : ℕ) → EmptyBooksAreInOrder size
empty_books_are_in_order size month = record { keyed = keyed size month; rules = meets size month; shown = ap (find (λ run. not run.is_closed)) (no_rows _) }
