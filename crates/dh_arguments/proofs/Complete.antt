-- Where `clap` takes the words, they name a subcommand of the table, with all that it requires.
use Rattle.std.proofs.Common.{◌≡◌, ◌∙◌, Bool, cond, true, false, List, [], ◌∷◌, Option, Some, None, is_some, option_map, refl, sym, ap, subst}
use Rattle.std.specs.List.{find, list_all}
use Rattle.std.specs.Option.{option_map_or}
use Rattle.clap.specs.Faults.{entered_fault, level_fault}
use Rattle.clap.specs.Simple.{built, entered, label_of, names_of, rows_at}
use Rattle.clap.specs.Walk.{answers_to, nothing_held, stop_after}
use Rattle.clap.specs.Words.{App, HasMatchesOf, Row, Shape, Text, fault_of, is_simple, subcommand_name_of, subcommand_of, subcommand_rows_of}
use Rattle.clap.specs.Faults.{is_simple_and_free}
use Rattle.clap.specs.declared.parser.matches.ArgMatches.{ArgMatches}
use Rattle.clap.specs.declared.parser.matches.ArgMatches.TheViews.{out-ArgMatches}
use Rattle.dh_arguments.proofs.Walks.{level_complete, level_enters, no_faults, wants_text}
use Rattle.dh_arguments.specs.Jobs.{is_complete, is_there}
use Rattle.dh_arguments.specs.Table.{letting}

-- the table's arguments can be judged by their rules alone
pub simple : is_simple letting ≡ true
unfolding letting
simple = refl

pub simple_and_free : is_simple_and_free letting ≡ true
unfolding letting
simple_and_free = refl

-- ---- each subcommand of the built table

-- P holds of each
abbrev Each : {X : Type 0} → (X → Type 0) → List X → Type 0
Each P [] = Unit {0}
Each P (x ∷ xs) = P x × Each P xs

found_among : {X : Type 0} (P : X → Type 0) (p : X → Bool) (xs : List X) (x : X) → Each P xs → find p xs ≡ Some x → P x
found_among P p [] x each e = cc
found_among P p (y ∷ ys) x each e = go (p y) e (found_among P p ys x each.1)
  where
    go : (b : Bool) → cond b (Some y) (find p ys) ≡ Some x → (find p ys ≡ Some x → P x) → P x
    go true is rest = let same : y ≡ x = cc in subst P same each.0
    go false is rest = rest is

-- its arguments give texts, and what it requires is what the table says
abbrev IsOfTable : Shape → Type 0
IsOfTable s = (list_all wants_text s.rules ≡ true) × (s.subcommand_negates_reqs ≡ false)
    × ((rows : List Row) → list_all (is_there rows) s.rules ≡ true → is_complete s.name rows ≡ true)

of_table : Each IsOfTable (built letting).subs
unfolding letting is_complete
of_table = (
  (refl, refl, λ rows e. e),
  (
    (refl, refl, λ rows e. e),
    ((refl, refl, λ rows e. e), ((refl, refl, λ rows e. e), ((refl, refl, λ rows e. e), ((refl, refl, λ rows e. e), ((refl, refl, λ rows e. e), tt))))),
  ),
)

-- ---- what a parse without a fault enters

enters : (a : App) (stop : Option (Text × List Text)) (sub : Text × List Row) → Each IsOfTable a.subs → entered_fault a stop ≡ [] → entered a stop ≡ Some sub
    → is_complete sub.0 sub.1 ≡ true
enters a None sub each none e = cc
enters a (Some p) sub each none e = go (find (λ s. answers_to p.0 (label_of s)) a.subs) refl none e
  where
    go : (found : Option Shape) → find (λ s. answers_to p.0 (label_of s)) a.subs ≡ found
        → option_map_or (λ s. level_fault s [] nothing_held p.1 false []) found [] ≡ [] → option_map (λ s. rows_at s p.1) found ≡ Some sub
        → is_complete sub.0 sub.1 ≡ true
    go None is no_fault gives = cc
    go (Some s) is no_fault gives =
        let of = found_among IsOfTable _ a.subs s each is in
        let same : rows_at s p.1 ≡ sub = cc in
        subst (λ (x : Text × List Row). is_complete x.0 x.1 ≡ true) same (of.2 _ (level_complete s p.1 of.0 of.1 no_fault))

module _ (words : List Text) (taken : fault_of letting words ≡ []) where
  abbrev stop : Option (Text × List Text)
  stop = stop_after (built letting).top.rules (names_of (built letting)) words

  below : entered_fault (built letting) stop ≡ []
  unfolding letting
  below = (no_faults _ _ (no_faults _ _ taken).1).0

  pub complete : (sub : Text × List Row) → subcommand_of letting words ≡ Some sub → is_complete sub.0 sub.1 ≡ true
  unfolding letting
  complete sub e = enters (built letting) stop sub of_table below e

  pub names_one : is_some (subcommand_of letting words) ≡ true
  unfolding letting
  names_one = level_enters (built letting).top (names_of (built letting)) words _ (entered_fault (built letting) stop) refl taken

-- ---- what the matches say of the words

abbrev pair_of : {X A B : Type 0} → (X → A) → (X → B) → X → A × B
pair_of f g x = (f x, g x)

both_of : {X A B : Type 0} (f : X → A) (g : X → B) (o : Option X) (a : A) (b : B) → Some a ≡ option_map f o
    → Some b ≡ option_map (λ (p : A × B). p.1) (option_map (pair_of f g) o) → option_map (pair_of f g) o ≡ Some (a, b)
both_of f g None a b p q = cc
both_of f g (Some x) a b p q = let l : a ≡ f x = cc in let r : b ≡ g x = cc in rw (l, r) refl

-- the name and the rows of the subcommand that a parse entered are those that the words give
pub asked : (a : App) (words : List Text) (m : ArgMatches) (name : Text) (rows : List Row) → a ≡ letting → HasMatchesOf a words m
    → Some name ≡ subcommand_name_of m → Some rows ≡ option_map (λ (p : Text × List Row). p.1) (subcommand_rows_of m)
    → subcommand_of letting words ≡ Some (name, rows)
asked a words m name rows e h p q =
    sym ((h (ap is_simple e ∙ simple)).1 ∙ ap (λ (x : App). subcommand_of x words) e) ∙ both_of _ _ (out-ArgMatches m).subcommand name rows p q

-- a parse that gives matches has no fault
pub no_fault : (a : App) (words : List Text) → a ≡ letting → (is_simple_and_free a ≡ true → fault_of a words ≡ []) → fault_of letting words ≡ []
no_fault a words e h = ap (λ x. fault_of x words) (sym e) ∙ h (ap is_simple_and_free e ∙ simple_and_free)

-- and entered a subcommand
pub asked_for_one : (a : App) (words : List Text) (m : ArgMatches) → a ≡ letting → HasMatchesOf a words m → fault_of letting words ≡ []
    → None ≡ option_map (λ (p : Text × List Row). p.1) (subcommand_rows_of m) → ⊥
asked_for_one a words m e h taken none = go (subcommand_rows_of m) ((h (ap is_simple e ∙ simple)).1 ∙ ap (λ (x : App). subcommand_of x words) e) none
  where
    go : (o : Option (Text × List Row)) → o ≡ subcommand_of letting words → None ≡ option_map (λ (p : Text × List Row). p.1) o → ⊥
    go None is e = let yes : true ≡ false = sym (names_one words taken) ∙ ap is_some (sym is) in cc
    go (Some p) is e = cc
