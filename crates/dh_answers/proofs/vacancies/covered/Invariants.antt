use Rattle.std.proofs.Common.{◌≡◌, ◌||◌, ◌&&◌, ℕ, List}
use Rattle.std.specs.List.{list_any}
use Rattle.std.specs.FinMap as fin
use Rattle.std.specs.BTreeSet.{contains}
use Rattle.dh_model.specs.Books.{text_cmp}
use Rattle.dh_model.specs.Checks.{is_same_text}
use Rattle.dh_model.specs.Leases.{covers, running}
use Rattle.dh_answers.proofs.vacancies.covered.Given as goal

abbrev pub invariant-loop-lease : goal.invariant-loop-lease
invariant-loop-lease l = (number : List ℕ) →
    (contains text_cmp l.numbers number || list_any (λ lease. is_same_text lease.terms.property number
    && covers (running l.books.books.endings lease) l.day) l.lease-iterator)
    ≡ list_any (λ lease. is_same_text lease.terms.property number && covers (running l.books.books.endings lease) l.day) (fin.values l.books.books.leases)
