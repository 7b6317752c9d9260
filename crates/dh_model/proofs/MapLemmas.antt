-- A sorted tree of entries as a finite map.
use Rattle.std.proofs.Common.{◌≡◌, ◌∙◌, List, [], ◌∷◌, cond, Some, length, refl, sym, ap, arith}
use Rattle.std.specs.declared.cmp.Ordering.{Ordering}
use Rattle.std.specs.declared.cmp.Ordering.TheVariants.{Less}
use Rattle.std.specs.BTreeMap.{is_at}
use Rattle.std.specs.List.{AllByRecursion}
use Rattle.std.specs.List.Sorted.{IsStrictlySortedBy}
use Rattle.std.specs.Map.{lookup, keys_of}
use Rattle.std.specs.Cmp.{IsTotalOrder, eq_by_cmp_equiv}
use Rattle.std.specs.FinMap.{IsAntisymmetric, get, from_entries, insert, entries, empty, get-from_entries, get-insert, entries-insert, len-entries, len-empty}
use Rattle.std.specs.FinMap.{same_map}
use Rattle.std.specs.FinMap.Entries.{find, put, by_order}

module _ {K X : Type 0} {R : K → K → Ordering} (o : IsTotalOrder R) where
  find-lookup : (es : List (K × X)) (q : K) → find R q es ≡ lookup (is_at (R q)) es
  find-lookup [] q = refl
  find-lookup (e ∷ es) q = ap (cond (is_at (R q) e.0) (Some e.1)) (find-lookup es q)

  -- what the map of the entries has at a key
  pub get-made : (es : List (K × X)) (q : K) → get (from_entries {R = R} es) q ≡ lookup (is_at (R q)) es
  get-made es q = get-from_entries o es q ∙ find-lookup es q

  module _ (anti : IsAntisymmetric R) where
    -- entries that differ at one key make maps that differ there
    pub one-given : (es fs : List (K × X)) (k : K) (v : X) → ((q : K) → lookup (is_at (R q)) fs ≡ cond (is_at (R k) q) (Some v) (lookup (is_at (R q)) es))
        → from_entries {R = R} fs ≡ insert (from_entries es) k v
    one-given es fs k v h = same_map o anti _ _ (λ q.
        get-made fs q ∙ h q ∙ ap (λ b. cond b (Some v) (lookup (is_at (R q)) es)) ((eq_by_cmp_equiv o).symm k q)
        ∙ sym (get-insert o (from_entries es) k v q ∙ ap (cond (is_at (R q) k) (Some v)) (get-made es q)))

  no_entries : (es : List (K × X)) → length es ≡ 0 → es ≡ []
  no_entries [] h = refl
  no_entries (e ∷ es) h = absurd (omega arith)

  before : (k : K) (v : X) (es : List (K × X)) → AllByRecursion (λ y. R k y ≡ Less) (keys_of es) → put R k v es ≡ (k, v) ∷ es
  before k v [] h = refl
  before k v (e ∷ es) h = ap (λ w. by_order w ((k, v) ∷ e ∷ es) ((e.0, v) ∷ es) (e ∷ put R k v es)) h.0

  -- entries in order are those of their map
  pub entries-made : (es : List (K × X)) → IsStrictlySortedBy R (keys_of es) → entries (from_entries {R = R} es) ≡ es
  unfolding IsStrictlySortedBy
  entries-made [] h = no_entries (entries (empty {R = R})) (sym (len-entries (empty {R = R})) ∙ len-empty R X)
  entries-made (e ∷ es) h = entries-insert o (from_entries es) e.0 e.1 ∙ ap (put R e.0 e.1) (entries-made es h.1) ∙ before e.0 e.1 es h.0
