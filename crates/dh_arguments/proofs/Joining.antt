-- How words are joined, word by word.
use Rattle.std.proofs.Common.{◌≡◌, ◌++◌, ◌∙◌, ◌||◌, ◌+◌, ◌-◌, ◌<◌, ℕ, Bool, cond, true, false}
use Rattle.std.proofs.Common.{List, [], ◌∷◌, Bor, length, drop, take, map, get_or, codes, bytes_eq}
use Rattle.std.proofs.Common.{refl, ap, sym, subst, suc, arith, append_assoc, add-one, drop-cons, take_all, length-drop, length-take}
use Rattle.std.proofs.lemmas.List.{drop-map, length-map, map-append}
use Rattle.clap.specs.Words.{Text}
use Rattle.dh_arguments.specs.TypedWords.{begin_with_pair, joined}

-- the words that are left, behind `--` or not
abbrev pub left : Bool → List Text → List Text
left ended words = cond ended words (joined words)

joined_pair : (option value : Text) (rest : List Text) → bytes_eq option (codes "--") ≡ false → begin_with_pair (option ∷ value ∷ rest) ≡ true
    → joined (option ∷ value ∷ rest) ≡ (option ++ codes "=" ++ value) ∷ joined rest
joined_pair option value rest goes_on pair = rw (goes_on, pair) refl

joined_word : (word : Text) (rest : List Text) → bytes_eq word (codes "--") ≡ false → begin_with_pair (word ∷ rest) ≡ false
    → joined (word ∷ rest) ≡ word ∷ joined rest
joined_word word [] goes_on pair = refl
joined_word word (next ∷ rest) goes_on pair = rw (goes_on, pair) refl

joined_end : (word : Text) (rest : List Text) → bytes_eq word (codes "--") ≡ true → joined (word ∷ rest) ≡ word ∷ rest
joined_end word [] ends = refl
joined_end word (next ∷ rest) ends = rw ends refl

-- one more text behind those that are done
module _ (done all : List Text) where
  more : (text : Text) (before after : List Text) → done ++ before ≡ all → before ≡ text ∷ after → (done ++ text ∷ []) ++ after ≡ all
  more text before after h is = append_assoc done (text ∷ []) after ∙ ap (λ l. done ++ l) (sym is) ∙ h

  with_pair : (option value : Text) (rest : List Text) → done ++ joined (option ∷ value ∷ rest) ≡ all → bytes_eq option (codes "--") ≡ false
      → begin_with_pair (option ∷ value ∷ rest) ≡ true → (done ++ (option ++ codes "=" ++ value) ∷ []) ++ joined rest ≡ all
  with_pair option value rest h goes_on pair = more _ _ _ h (joined_pair option value rest goes_on pair)

  with_word : (was : Bool) (word : Text) (rest : List Text) → done ++ left was (word ∷ rest) ≡ all
      → ((was || bytes_eq word (codes "--")) ≡ false → begin_with_pair (word ∷ rest) ≡ false)
      → (done ++ word ∷ []) ++ left (was || bytes_eq word (codes "--")) rest ≡ all
  with_word true word rest h alone = more word _ rest h refl
  with_word false word rest h alone = by (bytes_eq word (codes "--")) refl alone
    where
      by : (ends : Bool) → bytes_eq word (codes "--") ≡ ends → (ends ≡ false → begin_with_pair (word ∷ rest) ≡ false)
          → (done ++ word ∷ []) ++ left ends rest ≡ all
      by true is alone = more word _ rest h (joined_end word rest is)
      by false is alone = more word _ (joined rest) h (joined_word word rest is (alone refl))

-- ---- over the list of words, from one place to the next

put : {A : Type 0} (f : A → Text) (new old : List A) (it : A) (text : Text) → new ≡ old ++ it ∷ [] → f it ≡ text → map f new ≡ map f old ++ text ∷ []
put f new old it text is named = ap (map f) is ∙ map-append f old (it ∷ []) ∙ ap (λ x. map f old ++ x ∷ []) named

pub are_two : (words : List Text) → begin_with_pair words ≡ true → 1 < length words
are_two [] pair = cc
are_two (word ∷ []) pair = cc
are_two (option ∷ value ∷ rest) pair = omega arith

module _ (xs : List (Bor Text)) (d : Bor Text) where
  here : (at : ℕ) → at < length xs → drop at (map (λ word. word.now) xs) ≡ (get_or xs at d).now ∷ drop (at + 1) (map (λ word. word.now) xs)
  here at within =
      drop-map (λ (word : Bor Text). word.now) at xs ∙ ap (map (λ word. word.now)) (drop-cons xs at d within)
      ∙ ap (λ l. (get_or xs at d).now ∷ l)
      (sym (drop-map (λ (word : Bor Text). word.now) (suc at) xs) ∙ ap (λ k. drop k (map (λ word. word.now) xs)) (sym (add-one at)))

  tail_is : (at : ℕ) → map (λ (word : Bor Text). word.now) (take (length xs - at) (drop at xs)) ≡ drop at (map (λ word. word.now) xs)
  tail_is at =
      ap (map (λ (word : Bor Text). word.now)) (take_all (length xs - at) (drop at xs) (omega (arith, length-drop {A = Bor Text})))
      ∙ sym (drop-map (λ (word : Bor Text). word.now) at xs)

  pub two_left : (at : ℕ) → begin_with_pair (map (λ word. word.now) (take (length xs - at) (drop at xs))) ≡ true → at + 1 < length xs
  two_left at pair =
      let two : 1 < length (map (λ (word : Bor Text). word.now) (take (length xs - at) (drop at xs))) = are_two _ pair in
      let as_long = length-map (take (length xs - at) (drop at xs)) (λ (word : Bor Text). word.now) in
      let cut = length-take (length xs - at) (drop at xs) in
      let rest = length-drop at xs in
      omega arith

  module _ {A : Type 0} (f : A → Text) (all : List Text) (new old : List A) (it : A) (at : ℕ) (put_in : new ≡ old ++ it ∷ []) where
    pub after_word : (was now : Bool) → at < length xs → f it ≡ (get_or xs at d).now → map f old ++ left was (drop at (map (λ word. word.now) xs)) ≡ all
        → now ≡ (was || bytes_eq (get_or xs at d).now (codes "--")) → (now ≡ false
        → begin_with_pair (map (λ word. word.now) (take (length xs - at) (drop at xs))) ≡ false)
        → map f new ++ left now (drop (at + 1) (map (λ word. word.now) xs)) ≡ all
    after_word was now within named h is alone =
        let word = (get_or xs at d).now in
        let rest = drop (at + 1) (map (λ word. word.now) xs) in
        ap (λ l. l ++ left now rest) (put f new old it word put_in named) ∙ ap (λ b. (map f old ++ word ∷ []) ++ left b rest) is
        ∙ with_word (map f old) all was word rest (subst (λ l. map f old ++ left was l ≡ all) (here at within) h)
        (λ e. ap begin_with_pair (sym (here at within) ∙ sym (tail_is at)) ∙ alone (is ∙ e))

    pub after_pair : at + 1 < length xs → f it ≡ (get_or xs at d).now ++ codes "=" ++ (get_or xs (at + 1) d).now
        → map f old ++ joined (drop at (map (λ word. word.now) xs)) ≡ all → bytes_eq (get_or xs at d).now (codes "--") ≡ false
        → begin_with_pair (map (λ word. word.now) (take (length xs - at) (drop at xs))) ≡ true
        → map f new ++ joined (drop (at + 2) (map (λ word. word.now) xs)) ≡ all
    after_pair within named h goes_on pair =
        let option = (get_or xs at d).now in
        let value = (get_or xs (at + 1) d).now in
        let rest = drop (at + 2) (map (λ word. word.now) xs) in
        let two : drop at (map (λ word. word.now) xs) ≡ option ∷ value ∷ rest =
        here at (omega arith) ∙ ap (λ l. option ∷ l) (here (at + 1) within ∙ ap (λ k. value ∷ drop k (map (λ word. word.now) xs)) (omega arith)) in
        ap (λ l. l ++ joined rest) (put f new old it _ put_in named)
        ∙ with_pair (map f old) all option value rest (subst (λ l. map f old ++ joined l ≡ all) two h) goes_on
        (ap begin_with_pair (sym two ∙ sym (tail_is at)) ∙ pair)
