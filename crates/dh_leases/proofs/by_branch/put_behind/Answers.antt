use Rattle.std.proofs.Common.{◌≡◌, ◌∙◌, refl, sym, ap, Bool, true, false, cond, List, ◌++◌, ◌∷◌, [], Option, Some, None, append-nil}
use Rattle.std.specs.Prelude.{option_map}
use Rattle.std.specs.Option.{unwrap_or}
use Rattle.std.specs.Cmp.{Equal-is}
use Rattle.std.specs.declared.vec.Vec.{Vec}
use Rattle.std.specs.BTreeMap.{get, is_at}
use Rattle.dh_model.specs.Books.{text_cmp}
use Rattle.dh_model.proofs.KeyOrders.{text_ties}
use Rattle.dh_leases.proofs.by_branch.put_behind.Goals as goal

-- a list in a map that gets one element more
module _ {X Z : Type 0} where
  abbrev items_of : Option (Vec X Z) → List X
  items_of found = unwrap_or (option_map (λ v. v.items) found) []

  or_none : (found : Option (Vec X Z)) (none : Vec X Z) → none.items ≡ [] → (unwrap_or found none).items ≡ items_of found
  or_none (Some v) none is = refl
  or_none None none is = is

  one_behind : (b : Bool) (old found removed new : Option (Vec X Z)) (pushed none : Vec X Z) (x : X) → (b ≡ true → old ≡ found) → none.items ≡ []
      → removed ≡ cond b None old → new ≡ cond b (Some pushed) removed → pushed.items ≡ (unwrap_or found none).items ++ x ∷ []
      → items_of new ≡ items_of old ++ cond b (x ∷ []) []
  one_behind true old found removed new pushed none x at nothing took put is =
      ap items_of put ∙ is ∙ ap (λ xs. xs ++ x ∷ []) (or_none found none nothing ∙ ap items_of (sym (at refl)))
  one_behind false old found removed new pushed none x at nothing took put is = ap items_of (put ∙ took) ∙ sym (append-nil (items_of old))

pub returns : goal.returns
returns c = λ other.
    let k = c.args.branch in
    let old = c.args.charges.now in
    one_behind (is_at (text_cmp k) other) (get text_cmp old other) c.remove.result (get text_cmp c.remove.new.self other) (get text_cmp c.insert.new.self other)
    c.push.new.self c.new.result c.args.charge
    (λ same. ap (get text_cmp old) (sym (text_ties k other ((Equal-is (text_cmp k other)).0 same))) ∙ sym c.remove.ensures.value) c.new.ensures.items
    (c.remove.ensures.updates.0 other) (c.in_ok-_before.ensures.updates.0 other)
    (c.in_ok-push.ensures.items ∙ ap (λ v. v.items ++ c.args.charge ∷ []) c.unwrap_or-of_branch.ensures)
