-- One more line.
use Rattle.std.proofs.Common.{◌≡◌, ℕ, ◌+◌, ◌<◌, List, [], ◌∷◌, ◌++◌, length, map, take, get_or, true, false, cond, refl, ap, ◌∙◌}
use Rattle.std.proofs.Common.{nat_le}
use Rattle.std.specs.Str.Parse.{digits_value}
use Rattle.std.proofs.lemmas.List.{take_more, map-append}
use Rattle.std.specs.List.{filter}
use Rattle.dh_requests.specs.HeaderLines.{HeaderLine, is_number, same_name, values_of, length_of, body_length, with_value}
use Rattle.dh_requests.specs.declared.limits.TheConstants.{BODY_BYTES}
use Rattle.dh_requests.specs.declared.header_lines.BodyLength.TheVariants.{Invalid, TooLarge, Bytes}

pub values_push : (name : List ℕ) (lines : List HeaderLine) (l : HeaderLine)
    → values_of name (lines ++ l ∷ []) ≡ values_of name lines ++ cond (same_name l.0 name) (l.1 ∷ []) []
values_push name [] l =
    elim (same_name l.0 name) as (λ b. map (λ (x : HeaderLine). x.1) (cond b (l ∷ []) []) ≡ cond b (l.1 ∷ []) []) [
      | true ↦ refl
      | false ↦ refl
    ]
values_push name (k ∷ lines) l =
    elim (same_name k.0 name) as (λ b.
    map (λ (x : HeaderLine). x.1)
    (cond b (k ∷ filter (λ (x : HeaderLine). same_name x.0 name) (lines ++ l ∷ [])) (filter (λ (x : HeaderLine). same_name x.0 name) (lines ++ l ∷ [])))
    ≡ map (λ (x : HeaderLine). x.1) (cond b (k ∷ filter (λ (x : HeaderLine). same_name x.0 name) lines) (filter (λ (x : HeaderLine). same_name x.0 name) lines))
    ++ cond (same_name l.0 name) (l.1 ∷ []) []) [
      | true ↦ ap (λ r. k.1 ∷ r) (values_push name lines l)
      | false ↦ values_push name lines l
    ]

settled : (w v : List ℕ) → Invalid ≡ with_value (length_of w) v
settled w v =
    elim (is_number w) as (λ b. Invalid ≡ with_value (cond b (cond (nat_le (digits_value 10 w) BODY_BYTES) (Bytes (digits_value 10 w)) TooLarge) Invalid) v) [
      | true ↦ elim (nat_le (digits_value 10 w) BODY_BYTES) as (λ b. Invalid ≡ with_value (cond b (Bytes (digits_value 10 w)) TooLarge) v) [
        | true ↦ refl
        | false ↦ refl
      ]
      | false ↦ refl
    ]

pub length_push : (values : List (List ℕ)) (v : List ℕ) → body_length (values ++ v ∷ []) ≡ with_value (body_length values) v
length_push [] v = refl
length_push (w ∷ []) v = settled w v
length_push (w ∷ x ∷ rest) v = refl

-- one more of the elements
pub values_more : {X : Type 0} (f : X → HeaderLine) (name : List ℕ) (xs : List X) (i : ℕ) (d : X) → i < length xs
    → values_of name (map f (take (i + 1) xs))
    ≡ values_of name (map f (take i xs)) ++ cond (same_name (f (get_or xs i d)).0 name) ((f (get_or xs i d)).1 ∷ []) []
values_more f name xs i d h =
    ap (values_of name) (ap (map f) (take_more xs i d h) ∙ map-append f (take i xs) (get_or xs i d ∷ []))
    ∙ values_push name (map f (take i xs)) (f (get_or xs i d))
