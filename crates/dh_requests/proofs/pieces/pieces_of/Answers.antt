use Rattle.std.proofs.Common.{◌≡◌, ◌∙◌, ◌++◌, ◌+◌, ◌-◌, ◌≤◌, [], ◌∷◌, List, ℕ, ap, arith, drop, drop_at, length, length-append, length-drop, refl}
use Rattle.std.proofs.Common.{subst, sym, take, take_all}
use Rattle.dh_requests.specs.Pieces.{first_slash}
use Rattle.dh_requests.specs.Routes.{IsPiece, front, words_of}
use Rattle.dh_requests.specs.Targets.{AreAfter, AreBehind}
use Rattle.dh_requests.proofs.Parting.{parted_before, parted_behind}
use Rattle.dh_requests.proofs.pieces.pieces_of.Goals as goal

-- what is before the first slash behind the text, and what is behind that slash, are the pieces
parted : (text target first second one two : List ℕ) (n : ℕ) → length text ≡ n → AreAfter text target one two
    → first ≡ take (first_slash (drop n target)) (drop n target) → second ≡ drop (first_slash (drop n target) + 1) (drop n target)
    → AreAfter text target first second
parted text target first second one two n is x e f =
    let rest : drop n target ≡ one ++ 47 ∷ two = ap (drop n) x.0 ∙ drop_at text (one ++ 47 ∷ two) n is in
    let is_one : first ≡ one = e ∙ ap (λ l. take (first_slash l) l) rest ∙ parted_before one two x.1.1 in
    let is_two : second ≡ two = f ∙ ap (λ l. drop (first_slash l + 1) l) rest ∙ parted_behind one two x.1.1 in (
      x.0 ∙ ap (λ l. text ++ (l ++ 47 ∷ two)) (sym is_one) ∙ ap (λ l. text ++ (first ++ 47 ∷ l)) (sym is_two),
      subst IsPiece (sym is_one) x.1,
      subst IsPiece (sym is_two) x.2,
    )

-- a slice up to the end is all that is behind its beginning
all_behind : (n : ℕ) (target : List ℕ) → take (length target - n) (drop n target) ≡ drop n target
all_behind n target = take_all (length target - n) (drop n target) (omega (arith, length-drop n target))

front_length : (word : List ℕ) → length (47 ∷ (word ++ 47 ∷ [])) ≡ length word + 2
front_length word = omega (arith, length-append word (47 ∷ []))

-- as many pieces as are counted
none_behind : (pieces : List (List ℕ)) (word target one two : List ℕ) → length pieces ≡ 0 → AreBehind pieces (front word pieces) target one two
    → AreBehind pieces (front word pieces) target [] []
none_behind [] word target one two none x = (x.0, refl, refl)
none_behind (piece ∷ pieces) word target one two none x = absurd (omega arith)

one_behind : (pieces : List (List ℕ)) (word target one two first : List ℕ) → length pieces ≡ 1 → AreBehind pieces (front word pieces) target one two
    → first ≡ drop (length word + 2) target → AreBehind pieces (front word pieces) target first []
one_behind [] word target one two first single x is = absurd (omega arith)
one_behind (piece ∷ []) word target one two first single x is =
    let same : first ≡ one = is ∙ ap (drop (length word + 2)) x.0 ∙ drop_at (47 ∷ (word ++ 47 ∷ [])) one (length word + 2) (front_length word) in
    (x.0 ∙ ap (λ l. (47 ∷ (word ++ 47 ∷ [])) ++ l) (sym same), subst IsPiece (sym same) x.1, refl)
one_behind (piece ∷ other ∷ pieces) word target one two first single x is = absurd (omega arith)

two_behind : (pieces : List (List ℕ)) (word target one two first second : List ℕ) → 2 ≤ length pieces → AreBehind pieces (front word pieces) target one two
    → first ≡ take (first_slash (drop (length word + 2) target)) (drop (length word + 2) target)
    → second ≡ drop (first_slash (drop (length word + 2) target) + 1) (drop (length word + 2) target)
    → AreBehind pieces (front word pieces) target first second
two_behind [] word target one two first second more x e f = absurd (omega arith)
two_behind (piece ∷ []) word target one two first second more x e f = absurd (omega arith)
two_behind (piece ∷ other ∷ pieces) word target one two first second more x e f =
    parted (47 ∷ (word ++ 47 ∷ [])) target first second one two (length word + 2) (front_length word) x e f

pub returns-in-0 : goal.returns-in-0
returns-in-0 c =
    let it = words_of c.args.route in
    let said = c.words-count.ensures in
    none_behind it.pieces it.word c.args.target.now c.requires.0 c.requires.1 (sym said.count ∙ c.in-0.is) c.requires.2

pub returns-in-1 : goal.returns-in-1
returns-in-1 c =
    let it = words_of c.args.route in
    let said = c.words-count.ensures in
    let target = c.args.target.now in
    one_behind it.pieces it.word target c.requires.0 c.requires.1 _ (sym said.count ∙ c.in-1.is) c.requires.2
    (all_behind (length c.words-count.result.0.now + 2) target ∙ ap (λ (w : List ℕ). drop (length w + 2) target) said.word)

pub returns-in_default : goal.returns-in_default
returns-in_default c =
    let it = words_of c.args.route in
    let said = c.words-count.ensures in
    let target = c.args.target.now in
    let all = all_behind (length c.words-count.result.0.now + 2) target ∙ ap (λ (w : List ℕ). drop (length w + 2) target) said.word in
    let more : 2 ≤ length it.pieces = omega (arith, said.count) in
    two_behind it.pieces it.word target c.requires.0 c.requires.1 c.cut.result.0.now c.cut.result.1.now more c.requires.2
    (c.cut.ensures.before ∙ ap (λ (l : List ℕ). take (first_slash l) l) all) (c.cut.ensures.behind ∙ ap (λ (l : List ℕ). drop (first_slash l + 1) l) all)
