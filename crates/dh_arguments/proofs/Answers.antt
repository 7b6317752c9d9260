-- What a subcommand of the table has, and its question.
use Rattle.std.proofs.Common.{◌≡◌, ◌∙◌, Bool, cond, true, false, List, [], ◌∷◌, Option, Some, None, is_some, option_map, Result, Ok, Err, bytes_eq, codes}
use Rattle.std.proofs.Common.{refl, sym, ap}
use Rattle.std.proofs.Common.{Bor, map, unwrap_or}
use Rattle.std.specs.Prelude.{option_and_then, slice_get}
use Rattle.std.specs.List.{find, list_all}
use Rattle.std.specs.Option.{option_map_or}
use Rattle.std.proofs.lemmas.Slice.Eq.{bytes_eq-Decides}
use Rattle.clap.proofs.WalkLemmas.{both, raw_values-rows}
use Rattle.clap.specs.Words.{Row, Shape, Text, all_of, first_of, matched_of, raw_values, rows_of}
use Rattle.clap.specs.declared.parser.matches.Found.{Found}
use Rattle.dh_arguments.specs.Jobs.{is_complete, is_there, question_fields}
use Rattle.dh_arguments.specs.Table.{batch, init, letting, migrate, recover, report, run, serve}

abbrev pub has : Text → List Row → Type 0
has name rows = is_some (first_of name rows) ≡ true

-- ---- what is required

module _ (name : Text) (rows : List Row) (complete : is_complete name rows ≡ true) where
  here : (word : Text) → name ≡ word → is_complete word rows ≡ true
  here word is = ap (λ n. is_complete n rows) (sym is) ∙ complete

  pub init_has : name ≡ codes "init" → has (codes "file") rows × has (codes "first") rows
  unfolding is_complete letting
  init_has is =
      let p = both (is_some (first_of (codes "file") rows)) _ (here (codes "init") is) in
      (p.0, (both (is_some (first_of (codes "first") rows)) _ p.1).0)

  pub run_has : name ≡ codes "run" → has (codes "file") rows × has (codes "key") rows × has (codes "month") rows
  unfolding is_complete letting
  run_has is =
      let p = both (is_some (first_of (codes "file") rows)) _ (here (codes "run") is) in
      let q = both (is_some (first_of (codes "key") rows)) _ p.1 in
      (p.0, q.0, (both (is_some (first_of (codes "month") rows)) _ q.1).0)

  pub recover_has : name ≡ codes "recover" → has (codes "file") rows
  unfolding is_complete letting
  recover_has is = (both (is_some (first_of (codes "file") rows)) _ (here (codes "recover") is)).0

  pub migrate_has : name ≡ codes "migrate" → has (codes "file") rows
  unfolding is_complete letting
  migrate_has is = (both (is_some (first_of (codes "file") rows)) _ (here (codes "migrate") is)).0

  pub report_has : name ≡ codes "report" → has (codes "file") rows × has (codes "word") rows
  unfolding is_complete letting
  report_has is =
      let p = both (is_some (first_of (codes "file") rows)) _ (here (codes "report") is) in
      (p.0, (both (is_some (first_of (codes "word") rows)) _ p.1).0)

  pub serve_has : name ≡ codes "serve" → has (codes "file") rows × has (codes "port") rows × has (codes "count") rows
  unfolding is_complete letting
  serve_has is =
      let p = both (is_some (first_of (codes "file") rows)) _ (here (codes "serve") is) in
      let q = both (is_some (first_of (codes "port") rows)) _ p.1 in
      (p.0, q.0, (both (is_some (first_of (codes "count") rows)) _ q.1).0)

  other : (word : Text) → (name ≡ word → ⊥) → bytes_eq word name ≡ false
  other word differs = go (bytes_eq word name) refl
    where
      go : (b : Bool) → bytes_eq word name ≡ b → bytes_eq word name ≡ false
      go true is = absurd (differs (sym ((bytes_eq-Decides word name).0 is)))
      go false is = is

  abbrev judged : (a b c d e f g : Bool) → Bool
  judged a b c d e f g = option_map_or (λ (s : Shape). list_all (is_there rows) s.rules)
      (cond a (Some init) (cond b (Some batch) (cond c (Some run) (cond d (Some recover) (cond e (Some migrate)
      (cond f (Some report) (cond g (Some serve) None))))))) false

  pub no_other : (name ≡ codes "init" → ⊥) → (name ≡ codes "batch" → ⊥) → (name ≡ codes "run" → ⊥) → (name ≡ codes "recover" → ⊥)
      → (name ≡ codes "migrate" → ⊥) → (name ≡ codes "report" → ⊥) → (name ≡ codes "serve" → ⊥) → ⊥
  unfolding is_complete letting
  no_other a b c d e f g =
      let none : is_complete name rows ≡ false =
      λ i. judged (other (codes "init") a i) (other (codes "batch") b i) (other (codes "run") c i) (other (codes "recover") d i) (other (codes "migrate") e i)
      (other (codes "report") f i) (other (codes "serve") g i) in
      let bad : true ≡ false = sym complete ∙ none in
      cc

-- ---- the words behind the options

text_among : (o : Option Row) → is_some (option_and_then (λ (r : Row). slice_get r.values 0) o) ≡ true → is_some (option_map (λ (r : Row). r.values) o) ≡ true
text_among None h = cc
text_among (Some r) h = refl

abbrev pub texts_of : Option (Bor (List (Bor Text))) → Option (List Text)
texts_of = option_map (λ texts. map (λ text. text.now) texts.now)

module _ (f : Found) (o : Option (Bor (List (Bor Text)))) (e : texts_of o ≡ option_map raw_values (matched_of f (codes "word"))) where
  same : texts_of o ≡ all_of (codes "word") (rows_of f)
  same = e ∙ raw_values-rows f (codes "word")

  pub words_there : has (codes "word") (rows_of f) → is_some o ≡ true
  words_there h = kept o ∙ ap is_some same ∙ text_among (find (λ r. bytes_eq r.id (codes "word")) (rows_of f)) h
    where
      kept : (x : Option (Bor (List (Bor Text)))) → is_some x ≡ is_some (texts_of x)
      kept None = refl
      kept (Some y) = refl

  pub fields_are : (words : Bor (List (Bor Text))) → o ≡ Some words → question_fields (rows_of f) ≡ codes "show" ∷ map (λ text. text.now) words.now
  fields_are words is = ap (λ x. codes "show" ∷ unwrap_or x []) (sym same ∙ ap texts_of is)
