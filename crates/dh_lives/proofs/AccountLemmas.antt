-- One account more.
use Rattle.std.proofs.Common.{◌≡◌, ◌∙◌, ◌+◌, ◌-◌, ◌++◌, ◌<◌, ℕ, suc, is_none, sym, ap, subst, List, [], ◌∷◌, take, length, slice_index_or, arith}
use Rattle.std.proofs.lemmas.List.{take_more}
use Rattle.dh_lives.specs.declared.lives.Life.{Life}
use Rattle.dh_lives.specs.declared.lives.Lived.{Lived}
use Rattle.dh_lives.specs.Lives.{AreAccountsOf, IsAccountOf, ends_whole}

pub one_more : (lives : List Life) (accounts : List Lived) (life : Life) (lived : Lived) → AreAccountsOf lives accounts → IsAccountOf life lived
    → AreAccountsOf (lives ++ life ∷ []) (accounts ++ lived ∷ [])
one_more [] [] life lived all it = (it, tt)
one_more [] (first ∷ rest) life lived all it = absurd all
one_more (head ∷ tail) [] life lived all it = absurd all
one_more (head ∷ tail) (first ∷ rest) life lived all it = (all.0, one_more tail rest life lived all.1 it)

pub taken_more : (lives : List Life) (accounts : List Lived) (i : ℕ) (life : Life) (lived : Lived) → i < length lives → life ≡ slice_index_or lives i life
    → AreAccountsOf (take i lives) accounts → IsAccountOf life lived → AreAccountsOf (take (i + 1) lives) (accounts ++ lived ∷ [])
taken_more lives accounts i life lived before is all it =
    let last : take (i + 1) lives ≡ take i lives ++ life ∷ [] = take_more lives i life before ∙ ap (λ (it : Life). take i lives ++ it ∷ []) (sym is) in
    subst (λ (some : List Life). AreAccountsOf some (accounts ++ lived ∷ [])) (sym last) (one_more (take i lives) accounts life lived all it)

pub ends_at : (lives : List Life) (life : Life) → 0 < length lives → life ≡ slice_index_or lives (length lives - 1) life → is_none life.stop ≡ ends_whole lives
ends_at [] life some is = absurd (omega (arith, some))
ends_at (first ∷ []) life some is = ap (λ (it : Life). is_none it.stop) is
ends_at (first ∷ next ∷ rest) life some is =
    let before : length (first ∷ next ∷ rest) - 1 ≡ suc (length (next ∷ rest) - 1) = omega arith in
    ends_at (next ∷ rest) life (omega arith) (is ∙ ap (λ n. slice_index_or (first ∷ next ∷ rest) n life) before)
