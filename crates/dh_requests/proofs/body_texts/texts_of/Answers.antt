use Rattle.std.proofs.Common.{◌≡◌, ℕ, ◌<◌, List, [], ◌∷◌, map, get_or, length, Some, None, sym, ap, ◌∙◌, arith, zero, suc}
use Rattle.serde_json.specs.Data.{string}
use Rattle.serde_json.specs.Find.{as_str}
use Rattle.serde_json.specs.View.{view, items_of}
use Rattle.serde_json.specs.declared.value.Value.{Value}
use Rattle.dh_requests.proofs.body_texts.texts_of.Goals as goal

-- a list with a value that is no text at i is no list of texts
not_texts : (vs : List Value) (texts : List (List ℕ)) (i : ℕ) (d : Value) → i < length vs → as_str (view (get_or vs i d)) ≡ None
    → items_of (map view vs) ≡ items_of (map string texts) → ⊥
not_texts [] texts i d h none e = absurd (omega arith)
not_texts (v ∷ vs) [] i d h none e = cc
not_texts (v ∷ vs) (t ∷ ts) zero d h none e =
    let same : view v ≡ string t = cc in
    let shown : as_str (view v) ≡ Some t = ap as_str same in
    cc
not_texts (v ∷ vs) (t ∷ ts) (suc i) d h none e = not_texts vs ts i d (omega arith) none (cc)

pub returns-in-None-clause-texts : goal.returns-in-None-clause-texts
returns-in-None-clause-texts c texts e =
    not_texts c.args.items.now texts c.loop-item.item-index c.item-item.result c.loop-item-test.true
    (ap (λ v. as_str (view v)) (sym c.item-item.is) ∙ sym c.in-None.ensures) (cc)
