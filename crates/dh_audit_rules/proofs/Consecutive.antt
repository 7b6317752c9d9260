-- Numbers that follow one another.
use Rattle.std.proofs.Common.{◌≡◌, ◌↔◌, ◌∙◌, refl, sym, subst, inl, inr, ℕ, ◌+◌, ◌<◌, ◌≤◌, Bool, true, false, nat_eq, List, [], ◌∷◌, Ordering, Less, Equal}
use Rattle.std.proofs.Common.{Greater, is_lt, nat_cmp, arith}
use Rattle.std.specs.FinMap.{FinMap, contains_key-keys, entries, entries_sorted, is_sorted, keys}
use Rattle.std.specs.Ordering.{eq_by_cmp}
use Rattle.std.proofs.lemmas.Bool.{cases_lt, false≢true}
use Rattle.std.proofs.lemmas.Cmp.{ranked}
use Rattle.dh_types.proofs.SameValues.{numbers}
use Rattle.dh_model.specs.Rules.{IsThere}
use Rattle.dh_model.proofs.Among.{Among, of_passes, some_passes}
use Rattle.dh_model.proofs.BranchDues.{holds, keys_rise}
use Rattle.dh_model.proofs.MapRows.{key_itself, same_key}
use Rattle.dh_model.proofs.Rising.{IsBefore, Lesser, Rises, rises_by}
use Rattle.dh_model.proofs.KeyOrders.{nat_ties, nat_total}

-- they are those from the first on, up to the one before the next
abbrev pub Follow : List ℕ → ℕ → ℕ → Type 0
Follow [] first next = first ≡ next
Follow (n ∷ ns) first next = (n ≡ first) × Follow ns (first + 1) next

-- the numbers of the list are those of a range
abbrev pub IsRange : List ℕ → ℕ → ℕ → Type 0
IsRange ns first next = (first ≤ next) × ((n : ℕ) → Among ns n ↔ ((first ≤ n) × (n < next)))

range_after : (n first next : ℕ) (ns : List ℕ) → n ≡ first → IsRange ns (first + 1) next → IsRange (n ∷ ns) first next
range_after n first next ns own range = (
  omega (arith, range.0),
  λ m. (
    λ a. elim a [
      | inl e ↦ (omega (arith, e, own), omega (arith, e, own, range.0))
      | inr h ↦ let its = (range.1 m).0 h in (omega (arith, its.0), its.1)
    ],
    λ within. elim (cases_lt first m) [
      | inl more ↦ inr ((range.1 m).1 (omega (arith, more), within.1))
      | inr same ↦ inl (omega (arith, within.0, same, own))
    ],
  ),
)

pub range_of : (ns : List ℕ) (first next : ℕ) → Follow ns first next → IsRange ns first next
range_of [] first next is = (omega (arith, is), λ m. (λ a. absurd a, λ within. absurd (omega (arith, is, within.0, within.1))))
range_of (n ∷ ns) first next is = range_after n first next ns is.0 (range_of ns (first + 1) next is.1)

-- the least number of a range
is_first : (n first next : ℕ) (ns : List ℕ) → ((m : ℕ) → Among ns m → n < m) → IsRange (n ∷ ns) first next → n ≡ first
is_first n first next ns before range =
    let own = (range.1 n).0 (inl refl) in
    elim ((range.1 first).1 (omega arith, omega (arith, own.0, own.1))) [
      | inl e ↦ omega (arith, e)
      | inr h ↦ let less = before first h in absurd (omega (arith, less, own.0))
    ]

range_before : (n first next : ℕ) (ns : List ℕ) → ((m : ℕ) → Among ns m → n < m) → n ≡ first → IsRange (n ∷ ns) first next → IsRange ns (first + 1) next
range_before n first next ns before own range = (
  let last = (range.1 n).0 (inl refl) in omega (arith, own, last.1),
  λ m. (
    λ a. let less = before m a in let its = (range.1 m).0 (inr a) in (omega (arith, less, own), its.1),
    λ within. elim ((range.1 m).1 (omega (arith, within.0), within.1)) [
      | inl e ↦ absurd (omega (arith, e, own, within.0))
      | inr h ↦ h
    ],
  ),
)

none_follow : (first next : ℕ) → IsRange [] first next → first ≡ next
none_follow first next range = elim (cases_lt first next) [
  | inl less ↦ absurd ((range.1 first).1 (omega arith, less))
  | inr more ↦ omega (arith, range.0, more)
]

pub of_range : (ns : List ℕ) (first next : ℕ) → Rises (Lesser (λ n. n)) ns → IsRange ns first next → Follow ns first next
of_range [] first next rises range = none_follow first next range
of_range (n ∷ ns) first next rises range =
    let own = is_first n first next ns rises.0 range in
    (own, of_range ns (first + 1) next rises.1 (range_before n first next ns rises.0 own range))

less_from : (m n : ℕ) (r : Ordering) → r ≡ nat_cmp m n → is_lt r ≡ true → m < n
less_from m n Less e h = ranked m n Less e
less_from m n Equal e h = absurd (false≢true h)
less_from m n Greater e h = absurd (false≢true h)

module _ {X : Type 0} (rows : FinMap nat_cmp X) where
  keys_increase : Rises (Lesser (λ n. n)) (keys rows)
  keys_increase =
      rises_by (IsBefore nat_cmp) (Lesser (λ n. n)) (λ m n h. less_from m n (nat_cmp m n) refl h) (keys rows)
      (keys_rise nat_cmp (entries rows) (holds (is_sorted nat_cmp (entries rows)) (entries_sorted rows)))

  is_key : (n : ℕ) → IsThere rows n ↔ Among (keys rows) n
  is_key n = (
    λ there. let key = some_passes (eq_by_cmp nat_cmp n) (keys rows) (sym (contains_key-keys rows n) ∙ there) in
        subst (Among (keys rows)) (sym (same_key nat_total nat_ties n key.0 key.2)) key.1,
    λ a. contains_key-keys rows n ∙ of_passes (eq_by_cmp nat_cmp n) (keys rows) n a (key_itself nat_total nat_ties n),
  )

  abbrev pub AreKeys : ℕ → ℕ → Type 0
  AreKeys first next = (first ≤ next) × ((n : ℕ) → IsThere rows n ↔ ((first ≤ n) × (n < next)))

  -- whether the keys are those numbers
  pub keys_tell : (first next : ℕ) (b : Bool) → (b ≡ true) ↔ Follow (keys rows) first next → (b ≡ true) ↔ AreKeys first next
  keys_tell first next b tells = (
    λ yes.
        let range = range_of (keys rows) first next (tells.0 yes) in
        (range.0, λ n. (λ there. (range.1 n).0 ((is_key n).0 there), λ within. (is_key n).1 ((range.1 n).1 within))),
    λ are. tells.1 (of_range (keys rows) first next keys_increase (
      are.0,
      λ n. (λ a. (are.1 n).0 ((is_key n).1 a), λ within. (is_key n).0 ((are.1 n).1 within)),
    )),
  )

-- another number comes first
pub no_more : (n expected next : ℕ) (ns all : List ℕ) (first : ℕ) → Follow all first next ↔ Follow (n ∷ ns) expected next → (n ≡ expected → ⊥) → (false ≡ true)
    ↔ Follow all first next
no_more n expected next ns all first is differs = (λ e. absurd (false≢true e), λ follow. absurd (differs (is.0 follow).0))

-- no number is left
pub no_rest : (expected next n : ℕ) (all : List ℕ) (first : ℕ) → Follow all first next ↔ Follow [] expected next → n ≡ next → (nat_eq expected n ≡ true)
    ↔ Follow all first next
no_rest expected next n all first is same = (
  λ yes. is.1 ((numbers expected n).0 yes ∙ same),
  λ follow. (numbers expected n).1 (is.0 follow ∙ sym same),
)
