-- Rows that stand under their keys go on to, as rows come and go.
use Rattle.std.proofs.Common.{◌≡◌, ◌∙◌, sym, ap, inl, inr, Bool, List, [], Option, Some, None, Ordering}
use Rattle.std.specs.List.{filter}
use Rattle.std.specs.Cmp.{IsTotalOrder}
use Rattle.std.specs.FinMap.{FinMap, IsAntisymmetric, entries, from_entries, get, get-entries, get-from_entries, insert}
use Rattle.dh_model.specs.Books.{StandUnder}
use Rattle.dh_model.specs.Whole.{rows_where}
use Rattle.dh_model.proofs.Among.{in_filter}
use Rattle.dh_model.proofs.BranchDues.{entry_found}
use Rattle.dh_model.proofs.MapLemmas.{get-made}
use Rattle.dh_model.proofs.MapRows.{found_entry, got_after, sorted}

not_none : {X : Type 0} (x : X) → None ≡ Some x → ⊥
not_none x e = cc

module _ {K X : Type 0} {R : K → K → Ordering} (o : IsTotalOrder R) where
  pub none_got : (es : List (K × X)) → es ≡ [] → (q : K) (x : X) → get (from_entries {R = R} es) q ≡ Some x → ⊥
  none_got es is q x found = not_none x (sym (get-made o [] q) ∙ ap (λ fs. get (from_entries {R = R} fs) q) (sym is) ∙ found)

  module _ (anti : IsAntisymmetric R) (key : X → K) where
    -- one more, or another in its place
    pub insert_keyed : (m : FinMap R X) (k : K) (v : X) → key v ≡ k → StandUnder key m → StandUnder key (insert m k v)
    insert_keyed m k v own keyed q x found = elim (got_after o anti m k v q x found) [
      | inl new ↦ ap key new.1 ∙ own ∙ sym new.0
      | inr old ↦ keyed q x old.1
    ]

    -- those that pass a test
    pub rows_where_keyed : (test : X → Bool) (m : FinMap R X) → StandUnder key m → StandUnder key (rows_where test m)
    rows_where_keyed test m keyed q x found =
        let passing = filter (λ (e : K × X). test e.1) (entries m) in
        let at = found_entry o anti passing q x (sym (get-from_entries o passing q) ∙ found) in
        let own = in_filter (λ (e : K × X). test e.1) (entries m) (q, x) at in
        keyed q x (get-entries m q ∙ entry_found R o (entries m) (q, x) (sorted o anti m) own.0)
