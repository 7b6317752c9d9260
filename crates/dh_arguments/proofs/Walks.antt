-- Where a level of a parse has no fault, each row that it leaves has a text, and each required argument has a row.
use Rattle.std.proofs.Common.{◌≡◌, ◌∙◌, ℕ, zero, suc, Bool, cond, true, false, ◌&&◌, ◌||◌, not, List, [], ◌∷◌, ◌++◌, length, drop, Option}
use Rattle.std.proofs.Common.{Some, None, is_some, refl, ap, ap₂, subst}
use Rattle.std.specs.Prelude.{encode_utf8, nat_lt, option_and_then, slice_get}
use Rattle.std.specs.List.{find, fold, list_all, list_any}
use Rattle.std.specs.Option.{option_map_or}
use Rattle.std.specs.Str.{bytes_eq, chars}
use Rattle.std.proofs.lemmas.List.Folds.{list_all-append}
use Rattle.clap.proofs.WalkLemmas.{both}
use Rattle.clap.specs.Facts.{explicit_source, unwrap_or_range}
use Rattle.clap.specs.Faults.{bundle_step_fault, check_fault, defaults_fault, flags_fault, flag_word_fault, level_fault, long_fault, option_fault, other_fault}
use Rattle.clap.specs.Faults.{positional_fault, react_fault, settle_fault, short_fault, step_fault, stray_fault, turn_fault, use_fault, walk_fault, word_fault}
use Rattle.clap.specs.Kinds.{Kinds, check_kinds, or_else, range_kinds}
use Rattle.clap.specs.Lexer.{long_of, short_of}
use Rattle.clap.specs.Simple.{Shape}
use Rattle.clap.specs.Takes.{is_given}
use Rattle.clap.specs.Walk.{Held, Names, Outcome, Row, Rule, Step, Text, Waiting, Walk, action_of, after_flag, after_step, arg_by_id, arg_by_index, arg_by_long}
use Rattle.clap.specs.Walk.{arg_by_short, at_row, attached_value, bundle_met, bundle_step, default_rows, finished, first_of, flag_met, has_row, idle}
use Rattle.clap.specs.Walk.{is_pending, long_met, long_or_other, more_values, most_values, next, nothing_held, option_met, option_word, plain, plain_word}
use Rattle.clap.specs.Walk.{positional, positional_held, reacted, reading_by, refused, rows_after, settled, settled_rows, short_met, short_or_plain}
use Rattle.clap.specs.Walk.{subcommand_met, subcommand_or_other, takes_several, takes_values, to_positional, trailing, used, used_as, used_by_id, value}
use Rattle.clap.specs.Walk.{values_or_missing, waits, walk, walk_from, walked, walked_from, with_default, with_values, without, word_met}
use Rattle.clap.specs.Walk.{done, option, subcommand}
use Rattle.clap.specs.declared.builder.action.ArgAction.{ArgAction}
use Rattle.clap.specs.declared.builder.action.ArgAction.TheVariants.{Append, Count, Help, HelpLong, HelpShort, Set, SetFalse, SetTrue, Version}
use Rattle.clap.specs.declared.builder.value_parser.Reading.{Reading}
use Rattle.clap.specs.declared.error.kind.ErrorKind.TheVariants.{InvalidValue}
use Rattle.clap.specs.declared.parser.matches.ValueSource.{ValueSource}
use Rattle.clap.specs.declared.parser.matches.ValueSource.TheVariants.{CommandLine, DefaultValue}
use Rattle.dh_arguments.specs.Jobs.{is_there}

-- ---- tests

pub and_true : {a b : Bool} → a ≡ true → b ≡ true → (a && b) ≡ true
and_true p q = ap₂ (λ x y. x && y) p q

pub no_faults : (a b : Kinds) → or_else a b ≡ [] → (a ≡ []) × (b ≡ [])
no_faults [] b e = (refl, e)
no_faults (k ∷ ks) b e = (e, cc)

-- what is found passes a test that all pass
pub find_passes : {X : Type 0} (p q : X → Bool) (xs : List X) (x : X) → list_all q xs ≡ true → find p xs ≡ Some x → q x ≡ true
find_passes p q [] x all e = cc
find_passes p q (y ∷ ys) x all e = go (p y) e (find_passes p q ys x (both (q y) _ all).1)
  where
    go : (b : Bool) → cond b (Some y) (find p ys) ≡ Some x → (find p ys ≡ Some x → q x ≡ true) → q x ≡ true
    go true is rest = let same : y ≡ x = cc in subst (λ z. q z ≡ true) same (both (q y) _ all).0
    go false is rest = rest is

-- ---- rows with texts

abbrev has_text : List Text → Bool
has_text [] = false
has_text (v ∷ vs) = true

abbrev pub are_full : List Row → Bool
are_full = list_all (λ r. has_text r.values)

text_more : (xs ys : List Text) → has_text xs ≡ true → has_text (xs ++ ys) ≡ true
text_more [] ys h = cc
text_more (x ∷ xs) ys h = refl

full_at : (id : Text) (change : Row → List Row) (missing : List Row) (rows : List Row) → are_full rows ≡ true
    → ((r : Row) → has_text r.values ≡ true → are_full (change r) ≡ true) → are_full missing ≡ true → are_full (at_row id change missing rows) ≡ true
full_at id change missing [] h changed m = m
full_at id change missing (r ∷ rs) h changed m =
    let p = both (has_text r.values) (are_full rs) h in
    go (bytes_eq r.id id) p.0 p.1 (full_at id change missing rs p.1 changed m)
  where
    go : (b : Bool) → has_text r.values ≡ true → are_full rs ≡ true → are_full (at_row id change missing rs) ≡ true
        → are_full (cond b (change r ++ rs) (r ∷ at_row id change missing rs)) ≡ true
    go true here there rest = list_all-append (λ (x : Row). has_text x.values) (change r) rs ∙ and_true (changed r here) there
    go false here there rest = and_true here rest

full_with : (id : Text) (how : Reading) (s : ValueSource) (values : List Text) (rows : List Row) → has_text values ≡ true → are_full rows ≡ true
    → are_full (with_values id how s values rows) ≡ true
full_with id how s values rows v h =
    full_at id (more_values s values) _ rows h (λ r here. and_true (text_more r.values values here) refl) (and_true v refl)

full_without : (id : Text) (rows : List Row) → are_full rows ≡ true → are_full (without id rows) ≡ true
full_without id rows h = full_at id (λ _. []) [] rows h (λ r here. refl) refl

-- ---- one use of an argument

-- a use gives a text, or asks for help
abbrev gives_text : ArgAction → ℕ → Bool
gives_text Set least = nat_lt 0 least
gives_text Append least = nat_lt 0 least
gives_text Help least = true
gives_text _ least = false

abbrev pub wants_text : Rule → Bool
wants_text a = gives_text (action_of a) (unwrap_or_range a.range).start_inclusive

given_text : (a : Rule) (least most : ℕ) (values : List Text) → nat_lt 0 least ≡ true → range_kinds least most (length values) ≡ []
    → has_text (values_or_missing a values) ≡ true
given_text a least most [] t e = let bad : InvalidValue ∷ [] ≡ [] = rw t at e in cc
given_text a least most (v ∷ vs) t e = refl

full_used_as : (x : ArgAction) (a : Rule) (least most : ℕ) (values : List Text) (rows : List Row) → gives_text x least ≡ true → are_full rows ≡ true
    → range_kinds least most (length values) ≡ [] → are_full (used_as x a.id (reading_by a) (values_or_missing a values) rows) ≡ true
full_used_as Set a least most values rows t h e =
    full_with a.id (reading_by a) CommandLine (values_or_missing a values) (without a.id rows) (given_text a least most values t e) (full_without a.id rows h)
full_used_as Append a least most values rows t h e =
    full_with a.id (reading_by a) CommandLine (values_or_missing a values) rows (given_text a least most values t e) h
full_used_as Help a least most values rows t h e = h
full_used_as SetTrue a least most values rows t h e = cc
full_used_as SetFalse a least most values rows t h e = cc
full_used_as Count a least most values rows t h e = cc
full_used_as HelpShort a least most values rows t h e = cc
full_used_as HelpLong a least most values rows t h e = cc
full_used_as Version a least most values rows t h e = cc

full_used : (again : Bool) (a : Rule) (values : List Text) (rows : List Row) → wants_text a ≡ true → are_full rows ≡ true → use_fault again a values rows ≡ []
    → are_full (used a values rows) ≡ true
full_used again a values rows t h e = full_used_as (action_of a) a _ (most_values a) values rows t h (no_faults _ _ e).0

-- ---- the walk

module _ (c : List Rule) (again : Bool) (all : list_all wants_text c ≡ true) where
  full_by_id : (found : Option Rule) (values : List Text) (rows : List Row) → ((a : Rule) → found ≡ Some a → wants_text a ≡ true) → are_full rows ≡ true
      → option_map_or (λ a. use_fault again a values rows) found [] ≡ [] → are_full (used_by_id found values rows) ≡ true
  full_by_id None values rows t h e = h
  full_by_id (Some a) values rows t h e = full_used again a values rows (t a refl) h e

  full_settled : (h : Held) → are_full h.rows ≡ true → settle_fault c again h ≡ [] → are_full (settled c h).rows ≡ true
  full_settled h f e = go h.pending e
    where
      go : (p : Option (Text × List Text)) → option_map_or (λ q. option_map_or (λ a. use_fault again a q.1 h.rows) (arg_by_id c q.0) []) p [] ≡ []
          → are_full (settled_rows c p h.rows) ≡ true
      go None is = f
      go (Some p) is = full_by_id (arg_by_id c p.0) p.1 h.rows (λ a here. find_passes _ wants_text c a all here) f is

  full_reacted : (a : Rule) (values : List Text) (h : Held) → wants_text a ≡ true → are_full h.rows ≡ true → react_fault c again a values h ≡ []
      → are_full (reacted c a values h).rows ≡ true
  full_reacted a values h t f e =
      let p = no_faults (settle_fault c again h) _ e in
      full_used again a values (settled c h).rows t (full_settled h f p.0) p.1

  full_option : (a : Rule) (v : Option Text) (h : Held) → wants_text a ≡ true → are_full h.rows ≡ true → option_fault c again a v h ≡ []
      → are_full (option_met c a v h).0.rows ≡ true
  full_option a (Some v) h t f e = full_reacted a (v ∷ []) h t f e
  full_option a None h t f e = full_settled h f e

  full_flag : (a : Rule) (v : Option Text) (h : Held) → wants_text a ≡ true → are_full h.rows ≡ true → long_fault c again (Some a) v h ≡ []
      → takes_values a ≡ false → are_full (flag_met c a v h).0.rows ≡ true
  full_flag a (Some v) h t f e flag = f
  full_flag a None h t f e flag = full_reacted a [] h t f (rw flag at e)

  full_long : (found : Option Rule) (v : Option Text) (h : Held) → ((a : Rule) → found ≡ Some a → wants_text a ≡ true) → are_full h.rows ≡ true
      → long_fault c again found v h ≡ [] → are_full (long_met c found v h).0.rows ≡ true
  full_long None v h t f e = f
  full_long (Some a) v h t f e = go (takes_values a) refl
    where
      go : (b : Bool) → takes_values a ≡ b → are_full (cond b (option_met c a v h) (flag_met c a v h)).0.rows ≡ true
      go true is = full_option a v h (t a refl) f (rw is at e)
      go false is = full_flag a v h (t a refl) f e is

  -- ---- a bundle of flags

  full_short : (next_met : Held → Held × Outcome) (next_fault : Held → Kinds)
      → ((g : Held) → are_full g.rows ≡ true → next_fault g ≡ [] → are_full (next_met g).0.rows ≡ true)
      → (found : Option Rule) (rest : Text) (h : Held) → ((a : Rule) → found ≡ Some a → wants_text a ≡ true) → are_full h.rows ≡ true
      → short_fault c again found rest h next_fault ≡ [] → are_full (short_met c found rest h next_met).0.rows ≡ true
  full_short next_met next_fault more None rest h t f e = f
  full_short next_met next_fault more (Some a) rest h t f e = go (takes_values a) e
    where
      go : (b : Bool) → cond b (option_fault c again a (attached_value rest) h) (or_else (react_fault c again a [] h) (next_fault (reacted c a [] h))) ≡ []
          → are_full (cond b (option_met c a (attached_value rest) h) (next_met (reacted c a [] h))).0.rows ≡ true
      go true is = full_option a (attached_value rest) h (t a refl) f is
      go false is =
          let p = no_faults (react_fault c again a [] h) _ is in
          more (reacted c a [] h) (full_reacted a [] h (t a refl) f p.0) p.1

  full_step_of_bundle : (next_met : Text → ℕ → Outcome → Held → Held × Outcome) (next_fault : Text → ℕ → Held → Kinds)
      → ((flags : Text) (skip : ℕ) (o : Outcome) (g : Held) → are_full g.rows ≡ true → next_fault flags skip g ≡ []
      → are_full (next_met flags skip o g).0.rows ≡ true)
      → (first : Option ℕ) (flags : Text) (skip : ℕ) (o : Outcome) (h : Held) → are_full h.rows ≡ true
      → bundle_step_fault c again first flags skip h next_fault ≡ []
      → are_full (bundle_step c first flags skip o h next_met).0.rows ≡ true
  full_step_of_bundle next_met next_fault more None flags skip o h f e = f
  full_step_of_bundle next_met next_fault more (Some x) flags zero o h f e =
      let rest = drop (length (encode_utf8 x)) flags in
      full_short (next_met rest 0 done) (next_fault rest 0) (more rest 0 done) (arg_by_short c x) rest h (λ a is. find_passes _ wants_text c a all is) f e
  full_step_of_bundle next_met next_fault more (Some x) flags (suc skip) o h f e = more (drop (length (encode_utf8 x)) flags) skip o h f e

  full_bundle : (k : ℕ) (flags : Text) (skip : ℕ) (o : Outcome) (h : Held) → are_full h.rows ≡ true → flags_fault c again k flags skip h ≡ []
      → are_full (bundle_met c k flags skip o h).0.rows ≡ true
  unfolding bundle_met flags_fault
  full_bundle zero flags skip o h f e = f
  full_bundle (suc k) flags skip o h f e =
      full_step_of_bundle (bundle_met c k) (flags_fault c again k) (λ g n p i j l. full_bundle k g n p i j l) (slice_get (chars flags) 0) flags skip o h f e

  -- ---- a word

  same_option_word : (found : Option Rule) (id word : Text) (h : Held) → (option_word found id word h).0.rows ≡ h.rows
  same_option_word None id word h = refl
  same_option_word (Some a) id word h = refl

  same_plain : (waiting : Waiting) (word : Text) (h : Held) → (plain_word c waiting word h).0.rows ≡ h.rows
  same_plain idle word h = refl
  same_plain (option id) word h = same_option_word (arg_by_id c id) id word h
  same_plain positional word h = refl

  same_after : (waiting : Waiting) (word : Text) (h : Held) (o : Outcome) → (after_flag c waiting word h o).0.rows ≡ h.rows
  same_after waiting word h done = refl
  same_after waiting word h (waits id) = refl
  same_after waiting word h plain = same_plain waiting word h
  same_after waiting word h refused = same_plain waiting word h

  full_flag_word : (parts : Option (Text × Option Text)) (waiting : Waiting) (word : Text) (h : Held) → are_full h.rows ≡ true
      → flag_word_fault c again parts word h ≡ [] → are_full (long_or_other c waiting word parts h).0.rows ≡ true
  full_flag_word (Some p) waiting word h f e =
      let met = long_met c (arg_by_long c p.0) p.1 h in
      ap are_full (same_after waiting word met.0 met.1) ∙ full_long (arg_by_long c p.0) p.1 h (λ a is. find_passes _ wants_text c a all is) f e
  full_flag_word None waiting word h f e = go (short_of word) e
    where
      go : (flags : Option Text) → option_map_or (λ x. flags_fault c again (length x) x h.skip (record h { skip = 0 })) flags [] ≡ []
          → are_full (short_or_plain c waiting word flags h).0.rows ≡ true
      go None is = ap are_full (same_plain waiting word h) ∙ f
      go (Some flags) is =
          let met = bundle_met c (length flags) flags h.skip plain (record h { skip = 0 }) in
          ap are_full (same_after waiting word met.0 met.1) ∙ full_bundle (length flags) flags h.skip plain (record h { skip = 0 }) f is

  full_positional : (a : Rule) (word : Text) (h : Held) → are_full h.rows ≡ true → positional_fault c again a h ≡ []
      → are_full (positional_held c a word h).rows ≡ true
  full_positional a word h f e = go (is_pending a h.pending && takes_several a) e
    where
      go : (b : Bool) → cond b [] (settle_fault c again h) ≡ [] → are_full (cond b h (settled c h)).rows ≡ true
      go true is = f
      go false is = full_settled h f is

no_subcommand : (waiting : Waiting) (word : Text) → subcommand_met [] waiting word ≡ None
no_subcommand idle word = refl
no_subcommand (option id) word = refl
no_subcommand positional word = refl

module _ (s : Shape) (all : list_all wants_text s.rules ≡ true) where
  abbrev met : Walk → Text → Held × Step
  met w word = word_met s.rules [] w.is_trailing w.waiting w.position word w.held

  full_other : (named : Option Text) (waiting : Waiting) (position : ℕ) (word : Text) (h : Held) → are_full h.rows ≡ true → named ≡ None
      → other_fault s named word h ≡ [] → are_full (subcommand_or_other s.rules named waiting position word h).0.rows ≡ true
  full_other (Some name) waiting position word h f none e = f
  full_other None waiting position word h f none e = go (bytes_eq word (45 ∷ 45 ∷ [])) e
    where
      go : (b : Bool) → cond b [] (flag_word_fault s.rules s.args_override_self (long_of word) word h) ≡ []
          → are_full (cond b (h, trailing position) (long_or_other s.rules waiting word (long_of word) h)).0.rows ≡ true
      go true is = f
      go false is = full_flag_word s.rules s.args_override_self all (long_of word) waiting word h f is

  full_word : (is_trailing : Bool) (waiting : Waiting) (position : ℕ) (word : Text) (h : Held) → are_full h.rows ≡ true
      → word_fault s [] is_trailing waiting word h ≡ [] → are_full (word_met s.rules [] is_trailing waiting position word h).0.rows ≡ true
  full_word true waiting position word h f e = f
  full_word false waiting position word h f e =
      full_other (subcommand_met [] waiting word) waiting position word h f (no_subcommand waiting word) e

  full_step : (step : Step) (word : Text) (w : Walk) (h : Held) → are_full h.rows ≡ true → step_fault s w.position h step ≡ []
      → are_full (after_step s.rules word w h step).held.rows ≡ true
  full_step (next waiting) word w h f e = f
  full_step (trailing position) word w h f e = f
  full_step (subcommand name) word w h f e = f
  full_step value word w h f e = go (arg_by_index s.rules w.position) e
    where
      go : (found : Option Rule) → option_map_or (λ a. positional_fault s.rules s.args_override_self a h) found (stray_fault s) ≡ []
          → are_full (to_positional s.rules found word w h).held.rows ≡ true
      go None is = f
      go (Some a) is = full_positional s.rules s.args_override_self all a word h f is

  full_turn : (w : Walk) (word : Text) → are_full w.held.rows ≡ true → turn_fault s [] w word ≡ [] → are_full (walked s.rules [] w word).held.rows ≡ true
  unfolding walked
  full_turn w word f e = go w.stopped e
    where
      go : (stopped : Option (Text × List Text))
          → cond (is_some stopped) [] (or_else (word_fault s [] w.is_trailing w.waiting word w.held)
          (step_fault s w.position (met w word).0 (met w word).1)) ≡ []
          → are_full (walked_from s.rules [] stopped w word).held.rows ≡ true
      go (Some p) is = f
      go None is =
          let p = no_faults (word_fault s [] w.is_trailing w.waiting word w.held) _ is in
          full_step (met w word).1 word w (met w word).0 (full_word w.is_trailing w.waiting w.position word w.held f p.0) p.1

  full_walk : (words : List Text) (w : Walk) → are_full w.held.rows ≡ true → walk_fault s [] w words ≡ []
      → are_full (fold (walked s.rules []) w words).held.rows ≡ true
  unfolding walk_fault
  full_walk [] w f e = f
  full_walk (word ∷ rest) w f e =
      let p = no_faults (turn_fault s [] w word) _ e in
      full_walk rest (walked s.rules [] w word) (full_turn w word f p.0) p.1

-- ---- after the walk

full_default : (a : Rule) (rows : List Row) → are_full rows ≡ true → are_full (with_default rows a) ≡ true
full_default a rows f = go (has_row a.id rows) a.defaults
  where
    go : (b : Bool) (values : List Text) → are_full (cond b rows (default_rows a.id (reading_by a) values rows)) ≡ true
    go true values = f
    go false [] = f
    go false (v ∷ vs) = full_with a.id (reading_by a) DefaultValue (v ∷ vs) rows refl f

full_defaults : (c : List Rule) (rows : List Row) → are_full rows ≡ true → are_full (fold with_default rows c) ≡ true
full_defaults [] rows f = f
full_defaults (a ∷ c) rows f = full_defaults c (with_default rows a) (full_default a rows f)

text_of_row : (r : Row) → has_text r.values ≡ true → is_some (slice_get r.values 0) ≡ true
text_of_row r h = go r.values h
  where
    go : (vs : List Text) → has_text vs ≡ true → is_some (slice_get vs 0) ≡ true
    go [] e = cc
    go (v ∷ vs) e = refl

text_given : (id : Text) (rows : List Row) → are_full rows ≡ true → is_given id rows ≡ true → is_some (first_of id rows) ≡ true
text_given id rows f e = go (find (λ r. bytes_eq r.id id) rows) refl e
  where
    go : (found : Option Row) → find (λ r. bytes_eq r.id id) rows ≡ found → option_map_or (λ r. explicit_source r.source) found false ≡ true
        → is_some (option_and_then (λ r. slice_get r.values 0) found) ≡ true
    go None is given = cc
    go (Some r) is given = text_of_row r (find_passes (λ x. bytes_eq x.id id) (λ x. has_text x.values) rows r f is)

all_there : (c : List Rule) (rows : List Row) → are_full rows ≡ true → list_any (λ a. a.required && not (is_given a.id rows)) c ≡ false
    → list_all (is_there rows) c ≡ true
all_there [] rows f e = refl
all_there (a ∷ c) rows f e = go a.required (is_given a.id rows) refl e (all_there c rows f)
  where
    go : (required given : Bool) → is_given a.id rows ≡ given → ((required && not given) || list_any (λ x. x.required && not (is_given x.id rows)) c) ≡ false
        → (list_any (λ x. x.required && not (is_given x.id rows)) c ≡ false → list_all (is_there rows) c ≡ true)
        → ((not required || is_some (first_of a.id rows)) && list_all (is_there rows) c) ≡ true
    go true true is none rest = and_true (text_given a.id rows f is) (rest none)
    go true false is none rest = cc
    go false given is none rest = rest none

only_arguments : (h s a : Bool) → check_kinds h s a ≡ [] → (s ≡ false) × (a ≡ false)
only_arguments true s a e = (cc, cc)
only_arguments false true a e = (cc, cc)
only_arguments false false true e = (cc, cc)
only_arguments false false false e = (refl, refl)

-- a level without a fault has a subcommand where one is required
pub level_enters : (s : Shape) (names : Names) (words : List Text) (has : Bool) (below : Kinds) → s.subcommand_required ≡ true
    → level_fault s names nothing_held words has below ≡ [] → has ≡ true
level_enters s names words has below required e =
    let h = walk s.rules names nothing_held words in
    let rows = finished s.rules h.held in
    let a = no_faults (walk_fault s names (walk_from nothing_held) words) _ e in
    let b = no_faults below _ a.1 in
    let c = no_faults (settle_fault s.rules s.args_override_self h.held) _ b.1 in
    let d = no_faults (defaults_fault (settled s.rules h.held).rows s.rules) (check_fault s rows has) c.1 in
    go has required (only_arguments (not has && (s.arg_required_else_help && not (list_any (λ r. explicit_source r.source) rows)))
    (not has && s.subcommand_required)
    (not (s.subcommand_negates_reqs && has) && list_any (λ x. x.required && not (is_given x.id rows)) s.rules) d.1).0
  where
    go : (b : Bool) → s.subcommand_required ≡ true → (not b && s.subcommand_required) ≡ false → b ≡ true
    go true is none = refl
    go false is none = cc

-- a subcommand's level without a fault has what is required
pub level_complete : (s : Shape) (words : List Text) → list_all wants_text s.rules ≡ true → s.subcommand_negates_reqs ≡ false
    → level_fault s [] nothing_held words false [] ≡ [] → list_all (is_there (rows_after s.rules [] words)) s.rules ≡ true
level_complete s words all negates e =
    let h = walk s.rules [] nothing_held words in
    let rows = finished s.rules h.held in
    let a = no_faults (walk_fault s [] (walk_from nothing_held) words) _ e in
    let c = no_faults (settle_fault s.rules s.args_override_self h.held) _ a.1 in
    let d = no_faults (defaults_fault (settled s.rules h.held).rows s.rules) (check_fault s rows false) c.1 in
    let end = full_settled s.rules s.args_override_self all h.held (full_walk s all words (walk_from nothing_held) refl a.0) c.0 in
    let full = full_defaults s.rules (settled s.rules h.held).rows end in
    let wanted = only_arguments (s.arg_required_else_help && not (list_any (λ r. explicit_source r.source) rows)) s.subcommand_required
    (not (s.subcommand_negates_reqs && false) && list_any (λ x. x.required && not (is_given x.id rows)) s.rules) d.1 in
    all_there s.rules rows full (rw negates at wanted.1)
