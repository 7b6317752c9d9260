-- Reading the options.
use Rattle.std.proofs.Common.{◌≡◌, ◌∙◌, not, Bool, cond, true, false, List, Option, Some, None, is_some, option_map}
use Rattle.std.proofs.Common.{Bor, refl, sym, ap, codes}
use Rattle.std.specs.Prelude.{option_and_then}
use Rattle.std.specs.Option.{option_map_or}
use Rattle.clap.proofs.WalkLemmas.{first_value-rows}
use Rattle.clap.specs.Words.{Row, Text, first_of, first_value, rows_of}
use Rattle.clap.specs.declared.parser.matches.Found.{Found}
use Rattle.dh_values.specs.Counts.{batch_count_of}
use Rattle.dh_days.specs.Months.{month_of}
use Rattle.dh_arguments.specs.Options.{first_bad, is_read, key_of, name_of, port_of, value}
use Rattle.dh_arguments.specs.declared.options.Judged.{Judged}

-- ---- one option, whose text is told

pub text_of : (f : Found) (n : Text) (option : Judged) (o : Option Text) → o ≡ first_value f n → n ≡ name_of option → o ≡ first_of (name_of option) (rows_of f)
text_of f n option o e is = e ∙ first_value-rows f n ∙ ap (λ x. first_of x (rows_of f)) is

module _ {T : Type 0} (read : Text → Option T) (name : Text) (rows : List Row) where
  pub not_given : None ≡ first_of name rows → (is_read read name rows ≡ true) × (None ≡ value read name rows)
  not_given e = (ap (λ o. option_map_or (λ text. is_some (read text)) o true) (sym e), ap (option_and_then read) e)

  pub given_well : (text : Text) (it : T) → Some text ≡ first_of name rows → read text ≡ Some it
      → (is_read read name rows ≡ true) × (Some it ≡ value read name rows)
  given_well text it e is = (
    ap (λ o. option_map_or (λ t. is_some (read t)) o true) (sym e) ∙ ap is_some is,
    sym is ∙ ap (option_and_then read) e,
  )

  pub given_badly : (text : Text) → Some text ≡ first_of name rows → read text ≡ None → is_read read name rows ≡ false
  given_badly text e is = ap (λ o. option_map_or (λ t. is_some (read t)) o true) (sym e) ∙ ap is_some is

  -- an option that is read, and has a text, has a value
  pub has_value : is_read read name rows ≡ true → is_some (first_of name rows) ≡ true → is_some (value read name rows) ≡ true
  has_value well there = go (first_of name rows) well there
    where
      go : (o : Option Text) → option_map_or (λ text. is_some (read text)) o true ≡ true → is_some o ≡ true → is_some (option_and_then read o) ≡ true
      go None w t = cc
      go (Some text) w t = w

-- an option that is there has a value
pub value_there : {T : Type 0} (read : Text → Option T) (name : Text) (rows : List Row) (it : Option T) → it ≡ value read name rows
    → is_read read name rows ≡ true
    → is_some (first_of name rows) ≡ true → is_some it ≡ true
value_there read name rows it e well there = ap is_some e ∙ has_value read name rows well there

pub text_there : (name : Text) (rows : List Row) (it : Option (Bor Text)) → option_map (λ text. text.now) it ≡ first_of name rows
    → is_some (first_of name rows) ≡ true → is_some it ≡ true
text_there name rows None e there = ap is_some e ∙ there
text_there name rows (Some text) e there = refl

-- ---- all of them

abbrev pub AllRead : List Row → Type 0
AllRead rows = (is_read month_of (codes "first") rows ≡ true) × (is_read key_of (codes "key") rows ≡ true) × (is_read month_of (codes "month") rows ≡ true)
    × (is_read batch_count_of (codes "batches") rows ≡ true) × (is_read port_of (codes "port") rows ≡ true)
    × (is_read batch_count_of (codes "count") rows ≡ true)

abbrev pick : (a b c d e f : Bool) → Option Text
pick a b c d e f = cond (not a) (Some (codes "first"))
    (cond (not b) (Some (codes "key")) (cond (not c) (Some (codes "month")) (cond (not d) (Some (codes "batches"))
    (cond (not e) (Some (codes "port")) (cond (not f) (Some (codes "count")) None)))))

all_true : (a b c d e f : Bool) → pick a b c d e f ≡ None → (a ≡ true) × (b ≡ true) × (c ≡ true) × (d ≡ true) × (e ≡ true) × (f ≡ true)
all_true true true true true true true is = (refl, refl, refl, refl, refl, refl)
all_true false b c d e f is = cc
all_true true false c d e f is = cc
all_true true true false d e f is = cc
all_true true true true false e f is = cc
all_true true true true true false f is = cc
all_true true true true true true false is = cc

module _ (rows : List Row) where
  pub all_read : first_bad rows ≡ None → AllRead rows
  all_read e = all_true (is_read month_of (codes "first") rows) (is_read key_of (codes "key") rows) (is_read month_of (codes "month") rows)
      (is_read batch_count_of (codes "batches") rows) (is_read port_of (codes "port") rows) (is_read batch_count_of (codes "count") rows) e

  pub none_bad : AllRead rows → first_bad rows ≡ None
  none_bad h = λ i. pick (h.0 i) (h.1 i) (h.2 i) (h.3 i) (h.4 i) (h.5 i)
