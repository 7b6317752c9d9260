-- What SQL's = says of two texts, and of two whole numbers.
use Rattle.std.proofs.Common.{◌≡◌, ◌∙◌, refl, sym, ap, ℕ, pos, nat_eq, Bool, true, false, List, Some, is_eq, Less, Equal, Greater}
use Rattle.std.specs.declared.cmp.Ordering.{Ordering}
use Rattle.std.specs.Ordering.{int_cmp, nat_cmp}
use Rattle.std.specs.FinMap.{int_cmp-IsAntisymmetric}
use Rattle.std.specs.Cmp.Lexicographic.{slice_cmp}
use Rattle.std.proofs.lemmas.Cmp.{int_cmp_total, tied_itself}
use Rattle.sqlite.specs.declared.types.Value.TheVariants.{Int, Text}
use Rattle.sqlite_value.specs.declared.keys.Collation.TheVariants.{Binary}
use Rattle.sqlite_value.specs.Order.{value_cmp}
use Rattle.sqlite_value.proofs.OrderLemmas.{value_cmp-Int}
use Rattle.sqlite_sql.specs.Ops.{binary, is_true, from_truth}
use Rattle.sqlite_schema.specs.Rules.{equal}
use Rattle.dh_types.proofs.SameValues.{numbers, texts}
use Rattle.dh_model.specs.Checks.{is_same_text}
use Rattle.dh_model.proofs.KeyOrders.{text_ties, text_total}

told : (b : Bool) → is_true (from_truth (Some b)) ≡ b
told true = refl
told false = refl

pub texts_equal : (x y : List ℕ) → equal Binary (Text x) (Text y) ≡ is_eq (slice_cmp nat_cmp x y)
unfolding binary value_cmp lib.Ieee.is_nan lib.Ieee.lt
texts_equal x y = told (is_eq (slice_cmp nat_cmp x y))

pub alike : (a b : Bool) → (a ≡ true → b ≡ true) → (b ≡ true → a ≡ true) → a ≡ b
alike true b f g = sym (f refl)
alike false true f g = let e = g refl in cc
alike false false f g = refl

pub is_tie : (r : Ordering) → is_eq r ≡ true → r ≡ Equal
is_tie Less e = cc
is_tie Equal e = refl
is_tie Greater e = cc

pub texts_same : (x y : List ℕ) → equal Binary (Text x) (Text y) ≡ is_same_text x y
texts_same x y = texts_equal x y ∙ alike _ _
    (λ tie. (texts x y).1 (text_ties x y (is_tie (slice_cmp nat_cmp x y) tie)))
    (λ same. let e = (texts x y).0 same in ap (λ z. is_eq (slice_cmp nat_cmp x z)) (sym e) ∙ ap is_eq (tied_itself text_total x))

numbers_equal : (m n : ℕ) → equal Binary (Int (pos m)) (Int (pos n)) ≡ is_eq (value_cmp (Int (pos m)) (Int (pos n)))
unfolding binary
numbers_equal m n = told (is_eq (value_cmp (Int (pos m)) (Int (pos n))))

pub numbers_same : (m n : ℕ) → equal Binary (Int (pos m)) (Int (pos n)) ≡ nat_eq m n
numbers_same m n = numbers_equal m n ∙ ap is_eq (value_cmp-Int (pos m) (pos n)) ∙ alike _ _
    (λ tie. let e = int_cmp-IsAntisymmetric (pos m) (pos n) (is_tie (int_cmp (pos m) (pos n)) tie) in (numbers m n).1 (cc))
    (λ same. let e = (numbers m n).0 same in ap (λ k. is_eq (int_cmp (pos m) (pos k))) (sym e) ∙ ap is_eq (tied_itself int_cmp_total (pos m)))
