-- What the one record that is asked for says of the table.
use Rattle.std.proofs.Common.{◌≡◌, ◌∙◌, sym, ap, subst, Bool, Option, Some, None, IfOk, Ok, Err, Result}
use Rattle.std.specs.declared.cmp.Ordering.{Ordering}
use Rattle.std.specs.Cmp.{IsTotalOrder}
use Rattle.std.specs.FinMap.{FinMap, IsAntisymmetric, empty, get, get-empty}
use Rattle.dh_model.specs.Whole.{rows_where}
use Rattle.dh_model.proofs.MapRows.{get_new}
use Rattle.dh_laws.proofs.MapMerges.{got_rows_where}
use Rattle.dh_model.specs.Books.{StandUnder}
use Rattle.dh_sql.specs.Shape.{Shape}
use Rattle.dh_sql.proofs.Found.{get_where}
use Rattle.dh_tables.specs.Questions.{AsksFor, only_record}

module _ {K X : Type 0} {R : K → K → Ordering} (o : IsTotalOrder R) (anti : IsAntisymmetric R) (it : Shape K X) (asks : X → Bool) (m : FinMap R X)
    (keyed : StandUnder it.key m) where
  -- where exactly the record of a key is asked for, it is what the table has there
  found_at : (found : Option X) → rows_where asks m ≡ only_record it found → (key : K) → AsksFor it asks key → found ≡ get m key
  found_at found is key asked = by found is ∙ get_where o anti asks it.key m key keyed asked.its
    where
      by : (found : Option X) → rows_where asks m ≡ only_record it found → found ≡ get (rows_where asks m) key
      by None is = sym (ap (λ n. get n key) is ∙ get-empty R key)
      by (Some x) is =
          let here : get (rows_where asks m) (it.key x) ≡ Some x = ap (λ n. get n (it.key x)) is ∙ get_new o anti empty (it.key x) x in
          let at : it.key x ≡ key = asked.only x (got_rows_where o anti asks m (it.key x) x here).1 in
          sym (subst (λ k. get (rows_where asks m) k ≡ Some x) at here)

  pub found_ok : {E : Type 0} (r : Result (Option X) E) (rows : FinMap R X) → IfOk r (λ found. rows ≡ only_record it found) → rows ≡ rows_where asks m
      → IfOk r (λ found. (key : K) → AsksFor it asks key → found ≡ get m key)
  found_ok (Err e) rows h same = tt
  found_ok (Ok found) rows h same = found_at found (sym same ∙ h)
