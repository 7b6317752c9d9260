-- A text is parted at its first slash.
use Rattle.std.proofs.Common.{◌≡◌, ◌∙◌, ℕ, ◌+◌, ◌<◌, ◌≤◌, Bool, true, false, cond, List, [], ◌∷◌, ◌++◌, length, take, drop, get_or, refl, add-one, ap, arith}
use Rattle.std.proofs.Common.{suc, zero, ◌==◌}
use lib.Seq.{take-append_seam}
use Rattle.matchit.specs.Seek.{has_slash}
use Rattle.dh_requests.specs.Pieces.{first_slash}

-- one byte on, which is no slash
pub next_place : (bytes : List ℕ) (n : ℕ) → n < length bytes → (get_or bytes n 0 == 47) ≡ false
    → first_slash (drop n bytes) ≡ 1 + first_slash (drop (suc n) bytes)
unfolding first_slash
next_place [] n within other = absurd (omega arith)
next_place (b ∷ bytes) zero within other = rw other refl
next_place (b ∷ bytes) (suc n) within other = next_place bytes n (omega arith) other

-- here it is
pub at_slash : (bytes : List ℕ) (n : ℕ) → n < length bytes → (get_or bytes n 0 == 47) ≡ true → first_slash (drop n bytes) ≡ 0
unfolding first_slash
at_slash [] n within other = absurd (omega arith)
at_slash (b ∷ bytes) zero within is = rw is refl
at_slash (b ∷ bytes) (suc n) within is = at_slash bytes n (omega arith) is

-- none up to the end
pub at_end : (bytes : List ℕ) (n : ℕ) → length bytes ≤ n → first_slash (drop n bytes) ≡ 0
unfolding first_slash
at_end [] zero past = refl
at_end [] (suc n) past = refl
at_end (b ∷ bytes) zero past = absurd (omega arith)
at_end (b ∷ bytes) (suc n) past = at_end bytes n (omega arith)

-- the first slash behind a text that has none
pub behind : (front rest : List ℕ) → has_slash front ≡ false → first_slash (front ++ 47 ∷ rest) ≡ length front
unfolding first_slash
behind [] rest free = refl
behind (b ∷ front) rest free = by (b == 47) refl free (behind front rest)
  where
    by : (v : Bool) → (b == 47) ≡ v → cond v true (has_slash front) ≡ false
        → (has_slash front ≡ false → first_slash (front ++ 47 ∷ rest) ≡ length front)
        → cond (b == 47) 0 (1 + first_slash (front ++ 47 ∷ rest)) ≡ suc (length front)
    by true is free again = cc
    by false other free again = rw other (omega (arith, again free))

past : (front rest : List ℕ) → drop (suc (length front)) (front ++ 47 ∷ rest) ≡ rest
past [] rest = refl
past (b ∷ front) rest = past front rest

-- a text with one slash in it is parted there
pub parted_before : (front rest : List ℕ) → has_slash front ≡ false → take (first_slash (front ++ 47 ∷ rest)) (front ++ 47 ∷ rest) ≡ front
parted_before front rest free = ap (λ n. take n (front ++ 47 ∷ rest)) (behind front rest free) ∙ take-append_seam front (47 ∷ rest)

pub parted_behind : (front rest : List ℕ) → has_slash front ≡ false → drop (first_slash (front ++ 47 ∷ rest) + 1) (front ++ 47 ∷ rest) ≡ rest
parted_behind front rest free =
    ap (λ n. drop (n + 1) (front ++ 47 ∷ rest)) (behind front rest free)
    ∙ ap (λ n. drop n (front ++ 47 ∷ rest)) (add-one (length front))
    ∙ past front rest
