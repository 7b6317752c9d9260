use Rattle.std.proofs.Common.{◌≡◌, ◌∙◌, ℕ, List, [], ◌∷◌, ◌++◌, Bool, append_assoc, if◌then◌else◌, sym, ap, map, true, rules, tests}
use Rattle.std.specs.List.{filter}
use Rattle.std.proofs.lemmas.Map.Iter.{rest_more}
use Rattle.dh_types.specs.declared.property.Property.{Property}
use Rattle.dh_model.specs.Answers.{is_vacant}
use Rattle.dh_answers.proofs.vacancies.vacant.Goals as goal

kept_first : {X : Type 0} (keeps : X → Bool) (rows : List X) (x : X) (rest : List X) → keeps x ≡ true
    → (rows ++ x ∷ []) ++ filter keeps rest ≡ rows ++ filter keeps (x ∷ rest)
kept_first keeps rows x rest is =
    append_assoc rows (x ∷ []) (filter keeps rest)
    ∙ ap (λ l. rows ++ l) (sym (ap (λ (b : Bool). if b then x ∷ filter keeps rest else filter keeps rest) is))

pub loop-property-preserved-in-Continue-branch-2 : goal.loop-property-preserved-in-Continue-branch-2
loop-property-preserved-in-Continue-branch-2 c =
    let free = is_vacant c.args.books.books c.args.day in
    let rows = c.loop-property.rows.items in
    let is_free : free c.in-Some.property ≡ true = sym (c.in_ok-covered.ensures c.in-Some.property) ∙ search (rules, tests) in
    let turn = rest_more (λ (e : List ℕ × Property). e) _ _ _ _ c.in-Some.is c.next.ensures.steps in
    ap (λ l. l ++ filter free (map (λ e. e.1) c.next.new.self)) c.in_ok-push.ensures.items
    ∙ kept_first free rows c.in-Some.property (map (λ e. e.1) c.next.new.self) is_free
    ∙ ap (λ (l : List (List ℕ × Property)). rows ++ filter free (map (λ e. e.1) l)) (sym turn) ∙ c.loop-property.invariant
