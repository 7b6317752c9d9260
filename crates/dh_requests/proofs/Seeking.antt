-- What a walk over rows finds.
use Rattle.std.proofs.Common.{◌≡◌, ℕ, zero, suc, ◌-◌, ◌<◌, List, [], ◌∷◌, ◌++◌, length, take, drop, Option, Some, None, Bool, true, false, cond, refl, sym}
use Rattle.std.proofs.Common.{ap, ◌∙◌, subst, arith, nat_eq, ◌==◌, ◌&&◌, ◌⊎◌, inl, inr, take-append-drop, ltb, length-take, take_all, le_refl, append-nil}
use Rattle.std.specs.List.{ends_with}
use Rattle.std.proofs.lemmas.Bool.Decides.{nat_tests}
use Rattle.matchit.specs.Rows.{RowsOf, param_token, catch_all_token}
use Rattle.matchit.specs.Seek.{own, step, or_else, seek, param_step, has_slash, segment, better, longest_from, longest_suffix, with_suffix, same_text}
use Rattle.dh_requests.specs.Routes.{IsPiece}

-- ---- pieces

slash_free-at : (b : ℕ) (path : List ℕ) (m : ℕ) (t : Bool) → (b == 47) ≡ t → suc m < length (cond t (b ∷ []) (b ∷ segment path))
    → (m < length (segment path) → has_slash (take m path) ≡ false) → has_slash (take (suc m) (b ∷ path)) ≡ false
slash_free-at b path m true e h again =
    let h' : suc m < 1 = h in
    absurd (omega arith)
slash_free-at b path m false e h again =
    let h' : suc m < suc (length (segment path)) = h in
    ap (λ v. cond v true (has_slash (take m path))) e ∙ again (omega arith)

slash_free : (path : List ℕ) (m : ℕ) → m < length (segment path) → has_slash (take m path) ≡ false
slash_free [] m h = absurd (omega arith)
slash_free (b ∷ path) zero h = refl
slash_free (b ∷ path) (suc m) h = slash_free-at b path m (b == 47) refl h (slash_free path m)

-- no suffix, or one that is shorter than the segment
Fits : List ℕ → List ℕ → Type 0
Fits seg s = (length s ≡ 0) ⊎ (length s < length seg)

Fits-better : (seg best s : List ℕ) (a b c : Bool) → ltb (length s) (length seg) ≡ b → Fits seg best → Fits seg (cond (a && (b && c)) s best)
unfolding Fits
Fits-better seg best s false b c e f = f
Fits-better seg best s true false c e f = f
Fits-better seg best s true true false e f = f
Fits-better seg best s true true true e f = inr (grind (arith, nat_tests))

module _ {K : Type 0} where
  Fits-longest : (seg best : List ℕ) (rs : RowsOf K) → Fits seg best → Fits seg (longest_from seg best rs)
  Fits-longest seg best [] f = f
  Fits-longest seg best ((t, key) ∷ rs) f =
      Fits-longest seg (better seg best (segment t)) rs
      (Fits-better seg best (segment t) (ltb (length best) (length (segment t))) (ltb (length (segment t)) (length seg))
      (ends_with nat_eq seg (segment t)) refl f)

  -- the row is among these
  abbrev pub In : (List ℕ × K) → RowsOf K → Type 0
  In r [] = ⊥
  In r (x ∷ rs) = (x ≡ r) ⊎ In r rs

  own_in : (rs : RowsOf K) (k : K) → own rs ≡ Some k → In ([], k) rs
  own_in [] k e = cc
  own_in (([], key) ∷ rs) k e =
      let same : key ≡ k = cc in
      inl (ap (λ x. ([], x)) same)
  own_in ((x ∷ t, key) ∷ rs) k e = inr (own_in rs k e)

  step_in-at : (b x : ℕ) (t u : List ℕ) (key k : K) (rs rest : RowsOf K) (v : Bool) → (x == b) ≡ v → In (t, k) (cond v ((u, key) ∷ rest) rest)
      → (In (t, k) rest → In (b ∷ t, k) rs) → In (b ∷ t, k) ((x ∷ u, key) ∷ rs)
  step_in-at b x t u key k rs rest true e (inl h) again =
      let same : x ≡ b = grind (arith, nat_tests) in
      inl (λ i. (same i ∷ (h i).0, (h i).1))
  step_in-at b x t u key k rs rest true e (inr h) again = inr (again h)
  step_in-at b x t u key k rs rest false e h again = inr (again h)

  step_in : (b : ℕ) (rs : RowsOf K) (t : List ℕ) (k : K) → In (t, k) (step b rs) → In (b ∷ t, k) rs
  step_in b [] t k h = h
  step_in b (([], key) ∷ rs) t k h = inr (step_in b rs t k h)
  step_in b ((x ∷ u, key) ∷ rs) t k h = step_in-at b x t u key k rs (step b rs) (x == b) refl h (step_in b rs t k)

  with_in-at : (r : List ℕ × K) (x : List ℕ × K) (rs rest : RowsOf K) (v : Bool) → In r (cond v (x ∷ rest) rest) → (In r rest → In r rs) → In r (x ∷ rs)
  with_in-at r x rs rest true (inl h) again = inl h
  with_in-at r x rs rest true (inr h) again = inr (again h)
  with_in-at r x rs rest false h again = inr (again h)

  with_in : (s : List ℕ) (rs : RowsOf K) (r : List ℕ × K) → In r (with_suffix s rs) → In r rs
  with_in s [] r h = h
  with_in s ((t, key) ∷ rs) r h = with_in-at r (t, key) rs (with_suffix s rs) (same_text (segment t) s) h (with_in s rs r)

  -- where a parameter ends, if some row goes on
  pub record Ends (rs : RowsOf K) (path : List ℕ) (n : ℕ) (t : List ℕ) (k : K) : Type 0 where
    pub row : In (t, k) rs
    pub some : 0 < n
    pub piece : IsPiece (take n path)

  param_in-at : (rs : RowsOf K) (b : ℕ) (p : List ℕ) (t : List ℕ) (k : K) (s : List ℕ) → Fits (segment (b ∷ p)) s → (v w : Bool) → ltb 0 (length s) ≡ v
      → has_slash (b ∷ p) ≡ w
      → In (t, k) (cond {A = ℕ × RowsOf K} v (length (segment (b ∷ p)) - length s, with_suffix s rs) (cond w (0, []) (length (b ∷ p), rs))).1
      → Ends rs (b ∷ p) (cond {A = ℕ × RowsOf K} v (length (segment (b ∷ p)) - length s, with_suffix s rs) (cond w (0, []) (length (b ∷ p), rs))).0 t k
  unfolding Fits
  param_in-at rs b p t k s (inl none) true w e f h = absurd (grind (arith, nat_tests))
  param_in-at rs b p t k s (inr short) true w e f h =
      let there : 0 < length s = grind (arith, nat_tests) in
      let n = length (segment (b ∷ p)) - length s in
      let some : 0 < n = omega arith in
      record { row = with_in s rs (t, k) h; some = some; piece = (omega (arith, length-take n (b ∷ p)), slash_free (b ∷ p) n (omega arith)) }
  param_in-at rs b p t k s fits false true e f h = absurd h
  param_in-at rs b p t k s fits false false e f h = record {
    row = h;
    some = omega arith;
    piece = subst IsPiece (sym (take_all (length (b ∷ p)) (b ∷ p) (le_refl (length (b ∷ p))))) (omega arith, f);
  }

  param_in : (rs : RowsOf K) (b : ℕ) (p : List ℕ) (t : List ℕ) (k : K) → In (t, k) (param_step rs (b ∷ p)).1 → Ends rs (b ∷ p) (param_step rs (b ∷ p)).0 t k
  unfolding param_step Fits
  param_in rs b p t k h =
      param_in-at rs b p t k (longest_suffix (segment (b ∷ p)) rs) (Fits-longest (segment (b ∷ p)) [] rs (inl refl))
      (ltb 0 (length (longest_suffix (segment (b ∷ p)) rs))) (has_slash (b ∷ p)) refl refl h

-- the path is the pattern's bytes, with a piece for each parameter
abbrev pub Takes : List ℕ → List ℕ → Type 0
Takes [] path = path ≡ []
Takes (x ∷ t) path =
    ((x < 256) × (rest : List ℕ) × (path ≡ x ∷ rest) × Takes t rest)
    ⊎ ((x ≡ 256) × (piece : List ℕ) × (rest : List ℕ) × (path ≡ piece ++ rest) × IsPiece piece × Takes t rest)
    ⊎ (x ≡ 257)

abbrev pub AreBytes : List ℕ → Type 0
AreBytes [] = Unit {0}
AreBytes (b ∷ bs) = (b < 256) × AreBytes bs

module _ {K : Type 0} where
  abbrev pub Found : ℕ → RowsOf K → List ℕ → K → Type 0
  Found skip rs path k = (t : List ℕ) × In (t, k) rs × Takes t (drop skip path)

  choose : {P : Type 0} (a b c : Option K) (k : K) → or_else a (or_else b c) ≡ Some k → (a ≡ Some k → P) → (b ≡ Some k → P) → (c ≡ Some k → P) → P
  choose (Some x) b c k e f g h = f e
  choose None (Some x) c k e f g h = g e
  choose None None c k e f g h = h e

  after_lit : (b : ℕ) (path : List ℕ) (rs : RowsOf K) (k : K) → b < 256 → Found 0 (step b rs) path k → Found 0 rs (b ∷ path) k
  after_lit b path rs k byte x = (b ∷ x.0, step_in b rs x.0 k x.1, inl (byte, path, refl, x.2))

  after_param_found : (b : ℕ) (path : List ℕ) (rs : RowsOf K) (k : K)
      → Found ((param_step (step param_token rs) (b ∷ path)).0 - 1) (param_step (step param_token rs) (b ∷ path)).1 path k
      → Found 0 rs (b ∷ path) k
  after_param_found b path rs k x =
      let at = param_in (step param_token rs) b path x.0 k x.1 in
      let n = (param_step (step param_token rs) (b ∷ path)).0 in
      let one : n ≡ suc (n - 1) = omega (arith, at.some) in (
        256 ∷ x.0,
        step_in 256 rs x.0 k at.row,
        inr (inl (
          refl,
          take n (b ∷ path),
          drop (n - 1) path,
          sym (take-append-drop n (b ∷ path)) ∙ ap (λ m. take n (b ∷ path) ++ drop m (b ∷ path)) one,
          at.piece,
          x.2,
        )),
      )

  after_all : (path : List ℕ) (rs : RowsOf K) (k : K) → own (step catch_all_token rs) ≡ Some k → Found 0 rs path k
  after_all path rs k e = (257 ∷ [], step_in 257 rs [] k (own_in (step catch_all_token rs) k e), inr (inr refl))

  pub seek_sound : (path : List ℕ) (skip : ℕ) (rs : RowsOf K) (k : K) → AreBytes path → seek skip rs path ≡ Some k → Found skip rs path k
  unfolding seek
  seek_sound [] zero rs k bytes e = ([], own_in rs k e, refl)
  seek_sound [] (suc skip) rs k bytes e = ([], own_in rs k e, refl)
  seek_sound (b ∷ path) (suc skip) rs k bytes e = seek_sound path skip rs k bytes.1 e
  seek_sound (b ∷ path) zero rs k bytes e =
      let lit = seek_sound path 0 (step b rs) k bytes.1 in
      let param = seek_sound path ((param_step (step param_token rs) (b ∷ path)).0 - 1) (param_step (step param_token rs) (b ∷ path)).1 k bytes.1 in
      choose (seek 0 (step b rs) path)
      (seek ((param_step (step param_token rs) (b ∷ path)).0 - 1) (param_step (step param_token rs) (b ∷ path)).1 path)
      (own (step catch_all_token rs)) k e
      (λ h. after_lit b path rs k bytes.0 (lit h)) (λ h. after_param_found b path rs k (param h)) (λ h. after_all (b ∷ path) rs k h)

  -- ---- the other direction: a piece at the end

  pub seek_none : (skip : ℕ) (path : List ℕ) → seek {K = K} skip [] path ≡ None
  unfolding seek param_step
  seek_none skip [] = refl
  seek_none (suc skip) (b ∷ path) = seek_none skip path
  seek_none zero (b ∷ path) = none_at (has_slash (b ∷ path)) (seek_none 0 path) (λ n. seek_none n path)
    where
      none_at : (v : Bool) → seek {K = K} 0 [] path ≡ None → ((n : ℕ) → seek {K = K} n [] path ≡ None)
          → or_else (seek {K = K} 0 [] path)
          (or_else
          (seek ((cond {A = ℕ × RowsOf K} v (0, []) (length (b ∷ path), [])).0 - 1)
          (cond {A = ℕ × RowsOf K} v (0, []) (length (b ∷ path), [])).1 path) None) ≡ None
      none_at true x again = rw x refl
      none_at false x again = rw (x, again (length (b ∷ path) - 1)) refl

  pub seek_past : (path : List ℕ) (rs : RowsOf K) → seek (length path) rs path ≡ own rs
  unfolding seek
  seek_past [] rs = refl
  seek_past (b ∷ path) rs = seek_past path rs

-- ---- what a pattern takes

pub takes_text : (w t path : List ℕ) → AreBytes w → Takes (w ++ t) path → (rest : List ℕ) × (path ≡ w ++ rest) × Takes t rest
takes_text [] t path bytes x = (path, refl, x)
takes_text (b ∷ w) t path bytes (inl x) =
    let more = takes_text w t x.1 bytes.1 x.3 in
    (more.0, x.2 ∙ ap (λ l. b ∷ l) more.1, more.2)
takes_text (b ∷ w) t path bytes (inr (inl x)) = absurd (omega (arith, bytes.0, x.0))
takes_text (b ∷ w) t path bytes (inr (inr x)) = absurd (omega (arith, bytes.0, x))

pub takes_piece : (t path : List ℕ) → Takes (256 ∷ t) path → (piece : List ℕ) × (rest : List ℕ) × (path ≡ piece ++ rest) × IsPiece piece × Takes t rest
takes_piece t path (inl x) = absurd (omega (arith, x.0))
takes_piece t path (inr (inl x)) = (x.1, x.2, x.3, x.4, x.5)
takes_piece t path (inr (inr x)) = absurd (omega (arith, x))

pub takes_last : (path : List ℕ) → Takes (256 ∷ []) path → IsPiece path
takes_last path x =
    let p = takes_piece [] path x in
    subst IsPiece (sym (p.2 ∙ ap (λ l. p.0 ++ l) p.4 ∙ append-nil p.0)) p.3
