-- A test of the whole key asks for exactly the record that has it.
use Rattle.std.proofs.Common.{refl, ℕ, Bool, List}
use Rattle.std.proofs.lemmas.Bool.{and_parts}
use Rattle.std.specs.Prelude.{◌&&◌, nat_eq}
use Rattle.dh_types.specs.Laws.{TellsApart}
use Rattle.dh_types.proofs.SameValues.{numbers, texts}
use Rattle.dh_model.specs.Checks.{is_same_text}
use Rattle.dh_sql.specs.Shape.{Shape}
use Rattle.dh_tables.specs.Questions.{AsksFor}

by_one : {K X : Type 0} (is_same : K → K → Bool) → TellsApart is_same → (it : Shape K X) (key : K) → AsksFor it (λ x. is_same (it.key x) key) key
by_one is_same apart it key = record { its = λ x is. (apart (it.key x) key).1 is; only = λ x asked. (apart (it.key x) key).0 asked }

module _ {A B X : Type 0} (is_first : A → A → Bool) (is_second : B → B → Bool) (first : TellsApart is_first) (second : TellsApart is_second)
    (it : Shape (A × B) X) (key : A × B) where
  by_both : AsksFor it (λ x. is_first (it.key x).0 key.0 && is_second (it.key x).1 key.1) key
  by_both = record {
    its = λ x is.
        let one = (first (it.key x).0 key.0).1 (λ i. (is i).0) in
        let two = (second (it.key x).1 key.1).1 (λ i. (is i).1) in
        rw (one, two) refl;
    only = λ x asked.
        let both = and_parts (is_first (it.key x).0 key.0) (is_second (it.key x).1 key.1) asked in
        let one = (first (it.key x).0 key.0).0 both.0 in
        let two = (second (it.key x).1 key.1).0 both.1 in
        λ i. (one i, two i);
  }

pub by_text : {X : Type 0} (it : Shape (List ℕ) X) (key : List ℕ) → AsksFor it (λ x. is_same_text (it.key x) key) key
by_text = by_one is_same_text texts

pub by_number : {X : Type 0} (it : Shape ℕ X) (key : ℕ) → AsksFor it (λ x. nat_eq (it.key x) key) key
by_number = by_one nat_eq numbers

pub by_texts : {X : Type 0} (it : Shape (List ℕ × List ℕ) X) (key : List ℕ × List ℕ)
    → AsksFor it (λ x. is_same_text (it.key x).0 key.0 && is_same_text (it.key x).1 key.1) key
by_texts = by_both is_same_text is_same_text texts texts

pub by_numbers : {X : Type 0} (it : Shape (ℕ × ℕ) X) (key : ℕ × ℕ) → AsksFor it (λ x. nat_eq (it.key x).0 key.0 && nat_eq (it.key x).1 key.1) key
by_numbers = by_both nat_eq nat_eq numbers numbers

pub by_text_and_number : {X : Type 0} (it : Shape (List ℕ × ℕ) X) (key : List ℕ × ℕ)
    → AsksFor it (λ x. is_same_text (it.key x).0 key.0 && nat_eq (it.key x).1 key.1) key
by_text_and_number = by_both is_same_text nat_eq texts numbers

pub by_number_and_text : {X : Type 0} (it : Shape (ℕ × List ℕ) X) (key : ℕ × List ℕ)
    → AsksFor it (λ x. nat_eq (it.key x).0 key.0 && is_same_text (it.key x).1 key.1) key
by_number_and_text = by_both nat_eq is_same_text numbers texts
