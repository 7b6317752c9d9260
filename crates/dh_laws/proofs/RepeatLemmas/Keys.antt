-- A key is found where some row has it, and where no key stands twice, it is this row that is found.
use Rattle.std.proofs.Common.{◌≡◌, ◌∙◌, refl, sym, ap, subst, inl, inr, ℕ, Bool, true, false, List, [], ◌∷◌, ◌++◌, map, Option, Some, None, is_some}
use Rattle.std.specs.List.{IsAmong, find}
use Rattle.std.specs.FinMap.{values}
use Rattle.dh_types.specs.declared.lease.Receipt.{Receipt}
use Rattle.dh_types.specs.declared.run.Run.{Run}
use Rattle.dh_types.proofs.SameValues.{texts}
use Rattle.dh_model.specs.Books.{Books}
use Rattle.dh_model.specs.Checks.{is_same_text, receipt_of_key, run_of_key}
use Rattle.dh_model.specs.Rules.{KeysInOrder}
use Rattle.dh_model.proofs.Among.{Among, among, is_among, of_map, of_left, of_right}
use Rattle.dh_model.proofs.Pairs.{pairs_rise}
use Rattle.dh_model.proofs.Rising.{Rises}
use Rattle.dh_laws.specs.Repeating.{IsReceiptOf, IsRunOf, KeysAreFound, KeysAreOfOne}
use Rattle.dh_laws.proofs.MonthLemmas.Shown.{found, missed}

abbrev Apart : List ℕ → List ℕ → Type 0
Apart key other = is_same_text key other ≡ false

module _ {X : Type 0} (P : X → X → Type 0) where
  rises_left : (xs ys : List X) → Rises P (xs ++ ys) → Rises P xs
  rises_left [] ys r = tt
  rises_left (x ∷ xs) ys r = (λ y a. r.0 y (of_left xs ys y a), rises_left xs ys r.1)

  rises_right : (xs ys : List X) → Rises P (xs ++ ys) → Rises P ys
  rises_right [] ys r = r
  rises_right (x ∷ xs) ys r = rises_right xs ys r.1

  rises_across : (xs ys : List X) (x y : X) → Rises P (xs ++ ys) → Among xs x → Among ys y → P x y
  rises_across [] ys x y r a b = absurd a
  rises_across (z ∷ xs) ys x y r (inl e) b = subst (λ w. P w y) (sym e) (r.0 y (of_right xs ys y b))
  rises_across (z ∷ xs) ys x y r (inr a) b = rises_across xs ys x y r.1 a b

-- keys that differ are not one key
not_one : (key other : List ℕ) → Apart key other → key ≡ other → ⊥
not_one key other apart same = let yes = (texts key other).1 same in cc

module _ {X : Type 0} (key_of : X → List ℕ) (key : List ℕ) where
  abbrev has : X → Bool
  has x = is_same_text (key_of x) key

  -- it is among them and has the key
  abbrev HasKey : List X → X → Type 0
  HasKey xs x = IsAmong xs x × (key_of x ≡ key)

  there_by : (xs : List X) (x : X) → Among xs x → key_of x ≡ key → (result : Option X) → find has xs ≡ result → is_some result ≡ true
  there_by xs x a same None e = let fails = missed has xs x e a in let passes = (texts (key_of x) key).1 same in cc
  there_by xs x a same (Some y) e = refl

  -- what some row has is found
  pub is_found : (xs : List X) → (x : X) × HasKey xs x → is_some (find has xs) ≡ true
  is_found xs h = there_by xs h.0 (among xs h.0 h.1.0) h.1.1 (find has xs) refl

  found_has : (xs : List X) (y : X) → find has xs ≡ Some y → HasKey xs y
  found_has xs y e = let f = found has xs y e in (is_among xs y f.0, (texts (key_of y) key).0 f.1)

  has_by : (xs : List X) (result : Option X) → find has xs ≡ result → is_some result ≡ true → (x : X) × HasKey xs x
  has_by xs None e h = cc
  has_by xs (Some y) e h = (y, found_has xs y e)

  -- what is found has it
  pub of_found : (xs : List X) → is_some (find has xs) ≡ true → (x : X) × HasKey xs x
  of_found xs h = has_by xs (find has xs) refl h

  same_of : (xs : List X) (x y : X) → Rises Apart (map key_of xs) → Among xs x → Among xs y → key_of x ≡ key_of y → x ≡ y
  same_of [] x y r a b same = absurd a
  same_of (z ∷ xs) x y r (inl a) (inl b) same = a ∙ sym b
  same_of (z ∷ xs) x y r (inl a) (inr b) same = absurd (not_one (key_of z) (key_of y) (r.0 (key_of y) (of_map key_of xs y b)) (sym (ap key_of a) ∙ same))
  same_of (z ∷ xs) x y r (inr a) (inl b) same = absurd (not_one (key_of z) (key_of x) (r.0 (key_of x) (of_map key_of xs x a)) (sym (ap key_of b) ∙ sym same))
  same_of (z ∷ xs) x y r (inr a) (inr b) same = same_of xs x y r.1 a b same

  one_by : (xs : List X) (x : X) → Rises Apart (map key_of xs) → Among xs x → key_of x ≡ key → (result : Option X) → find has xs ≡ result → find has xs ≡ Some x
  one_by xs x r a same None e = let fails = missed has xs x e a in let passes = (texts (key_of x) key).1 same in absurd (cc)
  one_by xs x r a same (Some y) e =
      let f = found_has xs y e in
      e ∙ ap (λ z. Some z) (same_of xs y x r (among xs y f.0) a (f.1 ∙ sym same))

  -- where no key stands twice, it is the row that has it
  pub one_is_found : (xs : List X) (x : X) → Rises Apart (map key_of xs) → (find has xs ≡ Some x → HasKey xs x) × (HasKey xs x → find has xs ≡ Some x)
  one_is_found xs x r = (found_has xs x, λ h. one_by xs x r (among xs x h.0) h.1 (find has xs) refl)

  -- where none has it, none is found
  none_by : (xs : List X) → ((x : X) → Among xs x → key_of x ≡ key → ⊥) → (result : Option X) → find has xs ≡ result → find has xs ≡ None
  none_by xs never None e = e
  none_by xs never (Some y) e = let f = found_has xs y e in absurd (never y (among xs y f.0) f.1)

  pub none_is_found : (xs : List X) → ((x : X) → Among xs x → key_of x ≡ key → ⊥) → find has xs ≡ None
  none_is_found xs never = none_by xs never (find has xs) refl

abbrev receipt_key : Receipt → List ℕ
receipt_key receipt = receipt.key

abbrev run_key : Run → List ℕ
run_key run = run.key

pub keys_are_found : KeysAreFound
keys_are_found books key = (
  (of_found receipt_key key (values books.receipts), is_found receipt_key key (values books.receipts)),
  (of_found run_key key (values books.runs), is_found run_key key (values books.runs)),
)

module _ (books : Books) (key : List ℕ) (keys : KeysInOrder books) where
  abbrev receipt_keys : List (List ℕ)
  receipt_keys = map (λ (receipt : Receipt). receipt.key) (values books.receipts)

  abbrev run_keys : List (List ℕ)
  run_keys = map (λ (run : Run). run.key) (values books.runs)

  rise : Rises Apart (receipt_keys ++ run_keys)
  rise = pairs_rise Apart (receipt_keys ++ run_keys) keys.keys

  never_both : (receipt : Receipt) (run : Run) → Among (values books.receipts) receipt → receipt.key ≡ key → Among (values books.runs) run → run.key ≡ key → ⊥
  never_both receipt run a same b also =
      not_one receipt.key run.key
      (rises_across Apart receipt_keys run_keys receipt.key run.key rise
      (of_map (λ (it : Receipt). it.key) (values books.receipts) receipt a) (of_map (λ (it : Run). it.key) (values books.runs) run b))
      (same ∙ sym also)

  pub one_receipt : (receipt : Receipt) → (receipt_of_key books key ≡ Some receipt → IsReceiptOf books key receipt)
      × (IsReceiptOf books key receipt → receipt_of_key books key ≡ Some receipt)
  one_receipt receipt = one_is_found receipt_key key (values books.receipts) receipt (rises_left Apart receipt_keys run_keys rise)

  pub one_run : (run : Run) → (run_of_key books key ≡ Some run → IsRunOf books key run) × (IsRunOf books key run → run_of_key books key ≡ Some run)
  one_run run = one_is_found run_key key (values books.runs) run (rises_right Apart receipt_keys run_keys rise)

  pub no_run : (receipt : Receipt) → IsReceiptOf books key receipt → run_of_key books key ≡ None
  no_run receipt h = none_is_found run_key key (values books.runs) (λ run b also. never_both receipt run (among (values books.receipts) receipt h.0) h.1 b also)

  pub no_receipt : (run : Run) → IsRunOf books key run → receipt_of_key books key ≡ None
  no_receipt run h = none_is_found receipt_key key (values books.receipts)
      (λ receipt a same. never_both receipt run a same (among (values books.runs) run h.0) h.1)

pub keys_are_of_one : KeysAreOfOne
keys_are_of_one books key keys = (one_receipt books key keys, one_run books key keys, no_run books key keys, no_receipt books key keys)
