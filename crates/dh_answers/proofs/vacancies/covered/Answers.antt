use Rattle.std.proofs.Common.{◌≡◌, ◌∙◌, sym, ap, refl, Bool, true, false, cond, ◌||◌, ◌&&◌, List, ◌∷◌}
use Rattle.std.specs.Map.Iter.{deref}
use Rattle.std.specs.List.{list_any}
use Rattle.std.specs.Cmp.Lexicographic.{texts_ties}
use Rattle.std.proofs.lemmas.Map.Iter.{rest_more}
use Rattle.std.specs.BTreeSet.{contains}
use Rattle.dh_types.specs.declared.lease.LeaseTerms.{LeaseTerms}
use Rattle.dh_model.specs.Books.{text_cmp}
use Rattle.dh_model.specs.Checks.{is_same_text}
use Rattle.dh_model.specs.Leases.{covers}
use Rattle.dh_answers.proofs.vacancies.covered.Goals as goal

taken : (s m v any : Bool) → v ≡ true → (cond s true m || any) ≡ (m || ((s && v) || any))
taken true true v any is = refl
taken true false v any is = sym (ap (λ w. w || any) is)
taken false m v any is = refl

left : (s m v any : Bool) → v ≡ false → (m || any) ≡ (m || ((s && v) || any))
left true m v any is = sym (ap (λ w. m || (w || any)) is)
left false m v any is = refl

-- what stood in front of the rest is in the set, or left out
passed : {X : Type 0} (test : X → Bool) (x : X) (xs ys : List X) (n m all : Bool) → xs ≡ x ∷ ys
    → ((any : Bool) → (n || any) ≡ (m || (test x || any))) → (m || list_any test xs) ≡ all → (n || list_any test ys) ≡ all
passed test x xs ys n m all front put so_far = put (list_any test ys) ∙ sym (ap (λ zs. m || list_any test zs) front) ∙ so_far

pub loop-lease-preserved-then-covers : goal.loop-lease-preserved-then-covers
loop-lease-preserved-then-covers c = λ number.
    let property = c.in-Some.lease.now.terms.property in
    let before = contains text_cmp c.loop-lease.numbers number in
    let covered = sym (c.covers.ensures ∙ ap (λ (t : LeaseTerms). covers t c.args.day) c.running.ensures) ∙ c.if-covers.true in
    let put = c.in_ok-_is_new.ensures.updates.0 number ∙ ap (λ b. cond b true before) (sym (texts_ties property number)) in
    passed _ _ _ _ _ _ _ (rest_more deref _ _ _ _ c.in-Some.is c.next.ensures.steps)
    (λ any. ap (λ b. b || any) put ∙ taken (is_same_text property number) before _ any covered) (c.loop-lease.invariant number)

pub loop-lease-preserved : goal.loop-lease-preserved
loop-lease-preserved c = λ number.
    let covered = sym (c.covers.ensures ∙ ap (λ (t : LeaseTerms). covers t c.args.day) c.running.ensures) ∙ c.if-covers.false in
    passed _ _ _ _ _ _ _ (rest_more deref _ _ _ _ c.in-Some.is c.next.ensures.steps)
    (λ any. left (is_same_text c.in-Some.lease.now.terms.property number) (contains text_cmp c.loop-lease.numbers number) _ any covered)
    (c.loop-lease.invariant number)
