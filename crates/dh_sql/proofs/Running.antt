-- A statement that answered Ok went through each of its parts.
use Rattle.std.proofs.Common.{◌≡◌, ◌⊎◌, inl, inr, ◌||◌, ◌&&◌, not, List, [], ◌∷◌, Bool, true, false, cond, Ok, Err, Result, MatchBool, refl, IsPermutation}
use Rattle.std.proofs.Common.{Less, Equal, Greater}
use Rattle.std.specs.declared.cmp.Ordering.{Ordering}
use Rattle.std.specs.Ordering.{is_eq, match_ordering}
use Rattle.std.proofs.lemmas.List.Sorted.{IsPermutation-refl, IsPermutation-cons, IsPermutation-middle, IsPermutation-trans}
use Rattle.sqlite.specs.Order.{Row, value_cmp}
use Rattle.sqlite.specs.Edit.{is_taken}
use Rattle.sqlite.specs.Tree.{rowid, put_row}

-- a part that gave a value did not stop on the way
pub went : {B E R : Type 0} {b : B} {Stops : E → Type 0} → ((stop : E) × Stops stop × (Ok b ≡ Err stop)) ⊎ R → R
went (inl stopped) = absurd (let e = stopped.2 in cc)
went (inr on) = on

pub same_value : {B E : Type 0} {a b : B} → ◌≡◌ {A = Result B E} (Ok a) (Ok b) → a ≡ b
same_value e = cc

pub or_left : (a b : Bool) → (a || b) ≡ false → a ≡ false
or_left false b h = refl
or_left true b h = cc

pub or_right : (a b : Bool) → (a || b) ≡ false → b ≡ false
or_right false b h = h
or_right true b h = absurd (cc)

pub not_true : (a : Bool) → not a ≡ true → a ≡ false
not_true false h = refl
not_true true h = cc

pub and_first : (a b : Bool) → (a && b) ≡ true → a ≡ true
and_first true b h = refl
and_first false b h = cc

pub and_second : (a b : Bool) → (a && b) ≡ true → b ≡ true
and_second true b h = h
and_second false b h = cc

pub and_true : (b : Bool) → (b && true) ≡ b
and_true true = refl
and_true false = refl

pub no_count : (b x : Bool) (A B : Type 0) → b ≡ false → MatchBool (cond b x false) A B → B
no_count false x A B is h = h
no_count true x A B is h = absurd (cc)

placed : (o : Ordering) (new r : Row) (rs ps : List Row) → is_eq o ≡ false → IsPermutation (new ∷ rs) ps
    → IsPermutation (new ∷ r ∷ rs) (match_ordering o (r ∷ ps) (new ∷ rs) (new ∷ r ∷ rs))
placed Less new r rs ps apart same = IsPermutation-trans _ _ _ (IsPermutation-middle (new ∷ []) r rs) (IsPermutation-cons r _ _ same)
placed Equal new r rs ps apart same = absurd (cc)
placed Greater new r rs ps apart same = IsPermutation-refl _

-- a row with a rowid of its own goes somewhere among the rows
pub put_fresh : (new : Row) (rows : List Row) → is_taken rows new ≡ false → IsPermutation (new ∷ rows) (put_row new rows)
put_fresh new [] h = IsPermutation-refl _
put_fresh new (r ∷ rs) h =
    placed (value_cmp (rowid r) (rowid new)) new r rs (put_row new rs) (or_left _ _ h) (put_fresh new rs (or_right _ _ h))
