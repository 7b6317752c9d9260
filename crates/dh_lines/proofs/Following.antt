-- The machine follows what was read: its state, what was written and how many records it refused.
use Rattle.std.proofs.Common.{◌≡◌, ◌∙◌, ℕ, zero, suc, ◌+◌, Option, Some, IfSome, List, [], ◌∷◌, ◌++◌, length, take, drop, true, false, refl, sym, ap, subst}
use Rattle.std.proofs.Common.{arith, add-one, add-zero, zero-add, add_assoc, append_assoc, append-nil, slice_get, take-append-drop, length-append}
use Rattle.std.specs.Prelude.{if◌then◌else◌}
use Rattle.std.specs.Io.KnownBytes.{Appends}
use Rattle.std.proofs.KnownBytes.{Appends-trans}
use Rattle.std.proofs.lemmas.Option.{IfSome_then}
use Rattle.csv.specs.Reading.{ReadRecord, Reached, default_config, reader_config, reader_state, source_of}
use Rattle.csv.specs.declared.reader.Reader.{Reader}
use Rattle.csv.specs.declared.parser.State as parser
use Rattle.csv.proofs.ReadFacts.{rows-more, rows-end}
use Rattle.dh_model.specs.Books.{State}
use Rattle.dh_fields.specs.Lines.{Fields}
use Rattle.dh_lines.specs.Session.{answered, line, lines_from, records_of, refused_in, state_after}
use Rattle.dh_lines.proofs.AllRecords.{all_from, all_from-next, all_from-end}

-- the next of the rows, where those from n on begin with it
pub record IsNext {X : Type 0} (rows : List X) (n : ℕ) (f : X) (left : List X) : Type 0 where
  pub rest : drop (suc n) rows ≡ left
  pub taken : take (suc n) rows ≡ take n rows ++ f ∷ []
  pub here : slice_get rows n ≡ Some f
  pub count : length (take n rows) ≡ n

next_of : {X : Type 0} (rows : List X) (n : ℕ) (f : X) (left : List X) → drop n rows ≡ f ∷ left → IsNext rows n f left
next_of [] zero f left e = cc
next_of [] (suc n) f left e = cc
next_of (r ∷ rows) zero f left e =
    let tail : rows ≡ left = cc in
    let head : r ≡ f = cc in
    record { rest = tail; taken = ap (λ x. x ∷ []) head; here = ap Some head; count = refl }
next_of (r ∷ rows) (suc n) f left e =
    let more = next_of rows n f left e in
    record { rest = more.rest; taken = ap (λ xs. r ∷ xs) more.taken; here = more.here; count = ap suc more.count }

-- what a record more adds
pub state-more : (s : State) (rows : List Fields) (f : Fields) → state_after s (rows ++ f ∷ []) ≡ (answered (state_after s rows) f).state
state-more s [] f = refl
state-more s (r ∷ rows) f = state-more (answered s r).state rows f

pub lines-more : (n : ℕ) (s : State) (rows : List Fields) (f : Fields)
    → lines_from n s (rows ++ f ∷ []) ≡ lines_from n s rows ++ line (n + length rows) (state_after s rows) f
lines-more n s [] f = append-nil (line n s f) ∙ ap (λ k. line k s f) (sym (add-zero n))
lines-more n s (r ∷ rows) f =
    let t = (answered s r).state in
    let same : n + 1 + length rows ≡ n + suc (length rows) = omega arith in
    let more = lines-more (n + 1) t rows f ∙ ap (λ k. lines_from (n + 1) t rows ++ line k (state_after t rows) f) same in
    ap (λ l. line n s r ++ l) more ∙ sym (append_assoc (line n s r) (lines_from (n + 1) t rows) (line (n + suc (length rows)) (state_after t rows) f))

-- 1 if the record is refused
abbrev pub refusals : State → Fields → ℕ
refusals s f = if (answered s f).is_refused then 1 else 0

pub refused-more : (s : State) (rows : List Fields) (f : Fields) → refused_in s (rows ++ f ∷ []) ≡ refused_in s rows + refusals (state_after s rows) f
refused-more s [] f = add-zero (refusals s f) ∙ sym (zero-add (refusals s f))
refused-more s (r ∷ rows) f =
    let t = (answered s r).state in
    ap (λ k. refusals s r + k) (refused-more t rows f) ∙ sym (add_assoc (refusals s r) (refused_in t rows) (refusals (state_after t rows) f))

one_more : (p f : Fields) (s t : parser.State) (xs ys : List ℕ) → f ≡ p → s ≡ t → xs ≡ ys → p ∷ all_from default_config s xs ≡ f ∷ all_from default_config t ys
one_more p f s t xs ys e h k = rw (e, h, k) refl

-- n records were read and answered, r of them refused, and the machine came from its start to s
pub record Follows {R : Type 0} (rem : R → Option (List ℕ)) (records : Reader R) (old now : Option (List ℕ)) (start s : State) (n r : ℕ)
    (input : List ℕ) : Type 0 where
  pub left : List ℕ
  pub source : source_of rem records ≡ Some left
  pub rest : drop n (records_of input) ≡ all_from default_config (reader_state records) left
  pub count : length (take n (records_of input)) ≡ n
  pub written : Appends old now (lines_from 1 start (take n (records_of input)))
  pub state : s ≡ state_after start (take n (records_of input))
  pub refused : r ≡ refused_in start (take n (records_of input))

-- a record more was read, and is not answered yet
pub record Found {R : Type 0} (rem : R → Option (List ℕ)) (records : Reader R) (old now : Option (List ℕ)) (start s : State) (n r : ℕ) (f : Fields)
    (input : List ℕ) : Type 0 where
  pub left : List ℕ
  pub source : source_of rem records ≡ Some left
  pub next : IsNext (records_of input) n f (all_from default_config (reader_state records) left)
  pub written : Appends old now (lines_from 1 start (take n (records_of input)))
  pub state : s ≡ state_after start (take n (records_of input))
  pub refused : r ≡ refused_in start (take n (records_of input))

-- all records were answered
pub record Ended (old now : Option (List ℕ)) (start s : State) (n r : ℕ) (input : List ℕ) : Type 0 where
  pub written : Appends old now (lines_from 1 start (records_of input))
  pub state : s ≡ state_after start (records_of input)
  pub count : n ≡ length (records_of input)
  pub refused : r ≡ refused_in start (records_of input)

module _ {R : Type 0} (rem : R → Option (List ℕ)) where
  pub found-next : (a b : Reader R) (old now : Option (List ℕ)) (start s : State) (n r : ℕ) (f : Fields) (input : List ℕ) → reader_config a ≡ default_config
      → ReadRecord rem a b true f → Follows rem a old now start s n r input → Found rem b old now start s n r f input
  unfolding Reached
  found-next a b old now start s n r f input config read w =
      let (left, source, reached) = rows-more rem a b f default_config (reader_state a) w.left w.left [] config w.source (refl, refl) read in
      let (p, is, fields, after) = reached in
      let all : all_from default_config (reader_state a) w.left ≡ f ∷ all_from default_config (reader_state b) left =
      all_from-next default_config (reader_state a) w.left p is ∙ one_more p.0 f p.1 (reader_state b) p.2 left fields after.0 after.1 in
      record { left = left; source = source; next = next_of (records_of input) n f _ (w.rest ∙ all); written = w.written; state = w.state; refused = w.refused }

  pub follows-next : (b : Reader R) (old mid now : Option (List ℕ)) (start s t : State) (n r q : ℕ) (f : Fields) (input : List ℕ)
      → Found rem b old mid start s n r f input
      → Appends mid now (line (n + 1) s f) → t ≡ (answered s f).state → q ≡ r + refusals s f → Follows rem b old now start t (n + 1) q input
  follows-next b old mid now start s t n r q f input w h state refused =
      let before = take n (records_of input) in
      let number : 1 + length before ≡ n + 1 = rw w.next.count (omega arith) in
      let lines : lines_from 1 start (take (suc n) (records_of input)) ≡ lines_from 1 start before ++ line (n + 1) s f =
      ap (lines_from 1 start) w.next.taken ∙ lines-more 1 start before f
      ∙ ap (λ k. lines_from 1 start before ++ line k (state_after start before) f) number
      ∙ ap (λ x. lines_from 1 start before ++ line (n + 1) x f) (sym w.state) in
      record {
        left = w.left;
        source = w.source;
        rest = rw add-one w.next.rest;
        count = rw (add-one, w.next.taken, length-append, w.next.count) (omega arith);
        written = rw (add-one, lines) (Appends-trans old mid now _ _ w.written h);
        state = state ∙ ap (λ x. (answered x f).state) w.state ∙ sym (state-more start before f) ∙ ap (state_after start) (sym w.next.taken)
            ∙ ap (λ k. state_after start (take k (records_of input))) (sym (add-one n));
        refused = refused ∙ ap (λ k. k + refusals s f) w.refused ∙ ap (λ x. refused_in start before + refusals x f) w.state ∙ sym (refused-more start before f)
            ∙ ap (refused_in start) (sym w.next.taken) ∙ ap (λ k. refused_in start (take k (records_of input))) (sym (add-one n));
      }

  pub follows-end : (a b : Reader R) (old now : Option (List ℕ)) (start s : State) (n r : ℕ) (f : Fields) (input : List ℕ) → reader_config a ≡ default_config
      → ReadRecord rem a b false f → Follows rem a old now start s n r input → Ended old now start s n r input
  follows-end a b old now start s n r f input config read w =
      let none : drop n (records_of input) ≡ [] =
      w.rest ∙ all_from-end default_config (reader_state a) w.left (rows-end rem a b f default_config w.left config w.source read) in
      let all : take n (records_of input) ≡ records_of input =
      sym (append-nil (take n (records_of input))) ∙ ap (λ l. take n (records_of input) ++ l) (sym none) ∙ take-append-drop n (records_of input) in
      record {
        written = subst (λ l. Appends old now (lines_from 1 start l)) all w.written;
        state = w.state ∙ ap (state_after start) all;
        count = sym w.count ∙ ap length all;
        refused = w.refused ∙ ap (refused_in start) all;
      }

-- the same, where the input is known
module _ {R : Type 0} (rem : R → Option (List ℕ)) (known : Option (List ℕ)) where
  pub found : (a b : Reader R) (old now : Option (List ℕ)) (start s : State) (n r : ℕ) (f : Fields) → reader_config a ≡ default_config
      → ReadRecord rem a b true f
      → IfSome known (Follows rem a old now start s n r) → IfSome known (Found rem b old now start s n r f)
  found a b old now start s n r f config read w = IfSome_then known w (λ input v. found-next rem a b old now start s n r f input config read v)

  pub goes_on : (b : Reader R) (old mid now : Option (List ℕ)) (start s t : State) (n r q : ℕ) (f : Fields) → IfSome known (Found rem b old mid start s n r f)
      → Appends mid now (line (n + 1) s f) → t ≡ (answered s f).state → q ≡ r + refusals s f → IfSome known (Follows rem b old now start t (n + 1) q)
  goes_on b old mid now start s t n r q f w h state refused =
      IfSome_then known w (λ input v. follows-next rem b old mid now start s t n r q f input v h state refused)

  pub ends : (a b : Reader R) (old now : Option (List ℕ)) (start s : State) (n r : ℕ) (f : Fields) → reader_config a ≡ default_config
      → ReadRecord rem a b false f
      → IfSome known (Follows rem a old now start s n r) → IfSome known (Ended old now start s n r)
  ends a b old now start s n r f config read w = IfSome_then known w (λ input v. follows-end rem a b old now start s n r f input config read v)
