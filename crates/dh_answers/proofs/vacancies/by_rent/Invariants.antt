use Rattle.std.proofs.Common.{◌≡◌, ℕ, List, map}
use Rattle.std.specs.Option.{option_or}
use Rattle.std.specs.Ordering.{nat_cmp}
use Rattle.std.specs.List.{filter}
use Rattle.std.specs.Map.{lookup}
use Rattle.std.specs.BTreeMap.{get, is_at}
use Rattle.std.specs.FinMap as fin
use Rattle.dh_model.specs.Books.{pair_cmp, text_cmp}
use Rattle.dh_model.specs.Answers.{matches}
use Rattle.dh_answers.proofs.vacancies.by_rent.Given as goal

abbrev pub invariant-loop-property : goal.invariant-loop-property
invariant-loop-property l = (key : ℕ × List ℕ) →
    option_or (get (pair_cmp nat_cmp text_cmp) l.found key)
    (lookup (is_at (pair_cmp nat_cmp text_cmp key))
    (map (λ property. ((property.rent, property.number), property)) (filter (matches l.fn.books.books l.client l.fn.day) (map (λ e. e.1) l.property-iterator))))
    ≡ lookup (is_at (pair_cmp nat_cmp text_cmp key))
    (map (λ property. ((property.rent, property.number), property))
    (filter (matches l.fn.books.books l.client l.fn.day) (fin.values l.fn.books.books.properties)))
