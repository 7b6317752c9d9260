use Rattle.std.proofs.Common.{◌≡◌, ◌++◌, map}
use Rattle.std.specs.List.{filter}
use Rattle.dh_model.specs.Answers.{is_vacant, vacant}
use Rattle.dh_answers.proofs.vacancies.vacant.Given as goal

abbrev pub invariant-loop-property : goal.invariant-loop-property
invariant-loop-property l =
    l.rows.items ++ filter (is_vacant l.fn.books.books l.fn.day) (map (λ e. e.1) l.property-iterator) ≡ vacant l.fn.books.books l.fn.day
