-- What the routes find.
use Rattle.std.proofs.Common.{◌≡◌, ℕ, ◌≤◌, map, ◌<◌, List, [], ◌∷◌, ◌++◌, Option, Some, None, refl, sym, ap, ◌∙◌, subst, arith}
use Rattle.std.proofs.Common.{inl, inr, append-nil, Bool, true}
use Rattle.std.proofs.Common.{false, ltb, ◌&&◌, ◌==◌, get_or, suc, length, ◌-◌, ◌+◌, cond, length-append, drop, drop_at, nat_eq}
use Rattle.std.specs.List.{ends_with}
use Rattle.matchit.specs.Rows.{RowsOf}
use Rattle.std.proofs.lemmas.Bool.Decides.{nat_tests}
use Rattle.matchit.specs.Seek.{first, seek, param_step, has_slash, segment, own, step, or_else, longest_suffix, with_suffix}
use Rattle.std.specs.Cmp.Lexicographic.{pointwise}
use Rattle.matchit.specs.Router.{RouteOf}
use Rattle.dh_requests.specs.Routes.{front, in_order, routes, row_of, tokens, words_of}
use Rattle.dh_requests.specs.Targets.{AreAfter, AreBehind, IsAfter, IsTarget, IsText}
use Rattle.dh_requests.specs.declared.routes.Route.{Route}
use Rattle.dh_requests.specs.declared.routes.Route.TheVariants.{Commands}
use Rattle.dh_requests.proofs.Seeking.{In, Takes, AreBytes, seek_sound, takes_text, takes_piece, takes_last, seek_none, seek_past}

after : (w path : List ℕ) → AreBytes w → Takes (w ++ 256 ∷ []) path → (first : List ℕ) × (second : List ℕ) × IsAfter w path first second
after w path bytes x =
    let text = takes_text w (256 ∷ []) path bytes x in
    (text.0, [], (text.1, takes_last text.0 text.2, refl))

whole : (w path : List ℕ) → AreBytes w → Takes (w ++ []) path → (first : List ℕ) × (second : List ℕ) × IsText w path first second
whole w path bytes x =
    let text = takes_text w [] path bytes x in
    ([], [], (text.1 ∙ ap (λ l. w ++ l) text.2 ∙ append-nil w, refl, refl))

-- a row of the table, and what it takes
row_is : (x : List ℕ × RouteOf Route) (t : List ℕ) (r : RouteOf Route) (path : List ℕ) (P : Route → Type 0) → x ≡ (t, r) → Takes t path
    → (Takes x.0 path → P x.1.value) → P r.value
row_is x t r path P e takes f =
    let same : x.0 ≡ t = λ i. (e i).0 in
    subst (λ (y : RouteOf Route). P y.value) (λ i. (e i).1) (f (subst (λ l. Takes l path) (sym same) takes))

all_bytes : List ℕ → Bool
all_bytes [] = true
all_bytes (b ∷ bs) = ltb b 256 && all_bytes bs

both : (x y : Bool) → (x && y) ≡ true → (x ≡ true) × (y ≡ true)
both true true e = (refl, refl)
both true false e = (refl, e)
both false y e = (e, cc)

bytes_if : (bs : List ℕ) → all_bytes bs ≡ true → AreBytes bs
unfolding all_bytes
bytes_if [] e = tt
bytes_if (b ∷ bs) e =
    let parts = both (ltb b 256) (all_bytes bs) e in
    (grind (arith, nat_tests), bytes_if bs parts.1)

pub bytes_of : (bs : List ℕ) → ((i : ℕ) → get_or bs i 0 < 256) → AreBytes bs
bytes_of [] h = tt
bytes_of (b ∷ bs) h = (h 0, bytes_of bs (λ i. h (suc i)))

two : (w path : List ℕ) → AreBytes w → Takes (w ++ (256 ∷ 47 ∷ 256 ∷ [])) path → (first : List ℕ) × (second : List ℕ) × AreAfter w path first second
unfolding all_bytes
two w path bytes x =
    let text = takes_text w (256 ∷ 47 ∷ 256 ∷ []) path bytes x in
    let piece = takes_piece (47 ∷ 256 ∷ []) text.0 text.2 in
    let slash = takes_text (47 ∷ []) (256 ∷ []) piece.1 (bytes_if (47 ∷ []) refl) piece.4 in
    (piece.0, slash.0, (text.1 ∙ ap (λ l. w ++ l) (piece.2 ∙ ap (λ l. piece.0 ++ l) slash.1), piece.3, takes_last slash.0 slash.2))

-- as many pieces as a route has behind its text
behind : (pieces : List (List ℕ)) → length pieces ≤ 2 → (w path : List ℕ) → AreBytes w → Takes (w ++ tokens pieces) path
    → (first : List ℕ) × (second : List ℕ) × AreBehind pieces w path first second
behind [] few w path bytes x = whole w path bytes x
behind (piece ∷ []) few w path bytes x = after w path bytes x
behind (piece ∷ other ∷ []) few w path bytes x = two w path bytes x
behind (piece ∷ other ∷ third ∷ more) few w path bytes x = absurd (omega (arith, few))

-- what stands before the pieces of a route
text_of : Route → List ℕ
text_of route = front (words_of route).word (words_of route).pieces

text_bytes : (route : Route) → all_bytes (text_of route) ≡ true
unfolding all_bytes text_of
text_bytes Commands = refl
text_bytes route = refl

few_pieces : (route : Route) → length (words_of route).pieces ≤ 2
few_pieces Commands = omega arith
few_pieces route = omega arith

-- a row of some routes is that of one of them
row_among : (x : List ℕ × RouteOf Route) (all : List Route) → In x (map row_of all) → (route : Route) × (row_of route ≡ x)
row_among x [] none = absurd none
row_among x (route ∷ all) (inl e) = (route, e)
row_among x (route ∷ all) (inr rest) = row_among x all rest

member : (t : List ℕ) (r : RouteOf Route) (path : List ℕ) → In (t, r) routes → Takes t path → IsTarget r.value path
unfolding text_of
member t r path within x =
    let at = row_among (t, r) in_order within in
    row_is (row_of at.0) t r path (λ v. IsTarget v path) at.1 x
    (behind (words_of at.0).pieces (few_pieces at.0) (text_of at.0) path (bytes_if (text_of at.0) (text_bytes at.0)))

pub found : (path : List ℕ) (r : RouteOf Route) → AreBytes path → first routes path ≡ Some r → IsTarget r.value path
found path r bytes e =
    let at = seek_sound path 0 routes r bytes e in
    member at.0 r path at.1 at.2

-- a piece at the end is taken
last_piece : (r : RouteOf Route) (b : ℕ) (p : List ℕ) → b < 256 → has_slash (b ∷ p) ≡ false → first ((256 ∷ [], r) ∷ []) (b ∷ p) ≡ Some r
unfolding seek param_step
last_piece r b p byte free =
    let other : (256 == b) ≡ false = grind (arith, nat_tests) in
    let same : (suc (length p) - 1) ≡ length p = omega arith in
    rw (other, seek_none {K = RouteOf Route} 0 p, free, same, seek_past p (([], r) ∷ [])) refl

segment_of : (piece rest : List ℕ) → has_slash piece ≡ false → segment (piece ++ 47 ∷ rest) ≡ piece ++ 47 ∷ []
segment_of [] rest free = refl
segment_of (b ∷ piece) rest free = segment_at b piece rest (b == 47) refl free (segment_of piece rest)
  where
    segment_at : (b : ℕ) (piece rest : List ℕ) (v : Bool) → (b == 47) ≡ v → cond v true (has_slash piece) ≡ false
        → (has_slash piece ≡ false → segment (piece ++ 47 ∷ rest) ≡ piece ++ 47 ∷ [])
        → cond v (b ∷ []) (b ∷ segment (piece ++ 47 ∷ rest)) ≡ b ∷ (piece ++ 47 ∷ [])
    segment_at b piece rest true e free again = cc
    segment_at b piece rest false e free again = ap (λ l. b ∷ l) (again free)

-- ---- the other direction, for each route

is_none : RowsOf (RouteOf Route) → Bool
is_none [] = true
is_none (x ∷ rs) = false

-- no row of these takes a parameter before the text ends
plain : List ℕ → RowsOf (RouteOf Route) → Bool
plain [] rs = true
plain (b ∷ w) rs = is_none (step 256 rs) && (is_none (step 257 rs) && plain w (step b rs))

steps : List ℕ → RowsOf (RouteOf Route) → RowsOf (RouteOf Route)
steps [] rs = rs
steps (b ∷ w) rs = steps w (step b rs)

none_is : (rs : RowsOf (RouteOf Route)) → is_none rs ≡ true → rs ≡ []
unfolding is_none
none_is [] e = refl
none_is (x ∷ rs) e = cc

no_param-at : (b : ℕ) (path : List ℕ) (v : Bool)
    → seek {K = RouteOf Route} ((cond {A = ℕ × RowsOf (RouteOf Route)} v (0, []) (length (b ∷ path), [])).0 - 1)
    (cond {A = ℕ × RowsOf (RouteOf Route)} v (0, []) (length (b ∷ path), [])).1 path ≡ None
no_param-at b path true = seek_none {K = RouteOf Route} (0 - 1) path
no_param-at b path false = seek_none {K = RouteOf Route} (length (b ∷ path) - 1) path

no_param : (b : ℕ) (path : List ℕ)
    → seek {K = RouteOf Route} ((param_step {K = RouteOf Route} [] (b ∷ path)).0 - 1) (param_step {K = RouteOf Route} [] (b ∷ path)).1 path ≡ None
unfolding param_step
no_param b path = no_param-at b path (has_slash (b ∷ path))

or_none : (a : Option (RouteOf Route)) → or_else a None ≡ a
or_none None = refl
or_none (Some x) = refl

lit : (b : ℕ) (path : List ℕ) (rs : RowsOf (RouteOf Route)) → step 256 rs ≡ [] → step 257 rs ≡ [] → first rs (b ∷ path) ≡ first (step b rs) path
unfolding seek
lit b path rs p q =
    let a = seek 0 (step b rs) path in
    ap (λ (r : RowsOf (RouteOf Route)). or_else a (or_else (seek ((param_step r (b ∷ path)).0 - 1) (param_step r (b ∷ path)).1 path) (own (step 257 rs)))) p
    ∙ ap (λ (o : Option (RouteOf Route)). or_else a (or_else o (own (step 257 rs)))) (no_param b path)
    ∙ ap (λ (r : RowsOf (RouteOf Route)). or_else a (own r)) q
    ∙ or_none a

lits : (w path : List ℕ) (rs : RowsOf (RouteOf Route)) → plain w rs ≡ true → first rs (w ++ path) ≡ first (steps w rs) path
unfolding plain steps
lits [] path rs e = refl
lits (b ∷ w) path rs e =
    let one = both (is_none (step 256 rs)) (is_none (step 257 rs) && plain w (step b rs)) e in
    let two = both (is_none (step 257 rs)) (plain w (step b rs)) one.1 in
    lit b (w ++ path) rs (none_is (step 256 rs) one.0) (none_is (step 257 rs) two.0) ∙ lits w path (step b rs) two.1

-- the rows that are left behind the text of a route are its own alone
is_plain : (route : Route) → plain (text_of route) routes ≡ true
unfolding plain is_none text_of
is_plain Commands = refl
is_plain route = refl

is_left : (route : Route) → steps (text_of route) routes ≡ (tokens (words_of route).pieces, (row_of route).1) ∷ []
unfolding steps text_of
is_left Commands = refl
is_left route = refl

at_text : (route : Route) (rest : List ℕ) → first routes (text_of route ++ rest) ≡ first ((tokens (words_of route).pieces, (row_of route).1) ∷ []) rest
at_text route rest = lits (text_of route) rest routes (is_plain route) ∙ ap (λ (rs : RowsOf (RouteOf Route)). first rs rest) (is_left route)

seek_over : (front path : List ℕ) (rs : RowsOf (RouteOf Route)) → seek (length front) rs (front ++ path) ≡ seek 0 rs path
unfolding seek
seek_over [] path rs = refl
seek_over (b ∷ front) path rs = seek_over front path rs

-- what is left of a row with two parameters behind the first
rows_behind : RouteOf Route → RowsOf (RouteOf Route)
rows_behind r = (47 ∷ 256 ∷ [], r) ∷ []

piece_step : (r : RouteOf Route) (b : ℕ) (c rest : List ℕ) → has_slash (b ∷ c) ≡ false
    → param_step (rows_behind r) ((b ∷ c) ++ 47 ∷ rest) ≡ (suc (length c), rows_behind r)
unfolding param_step rows_behind
piece_step r b c rest free =
    let text = (b ∷ c) ++ 47 ∷ [] in
    let len : length text ≡ suc (length c) + 1 = omega (arith, length-append c (47 ∷ [])) in
    let tail : drop (length text - 1) text ≡ 47 ∷ [] = drop_at (b ∷ c) (47 ∷ []) (length text - 1) (omega arith) in
    let ends : ends_with nat_eq text (47 ∷ []) ≡ true = ap (pointwise nat_eq (47 ∷ [])) tail in
    let some : ltb 1 (length text) ≡ true = grind (arith, nat_tests) in
    let best : longest_suffix text (rows_behind r) ≡ 47 ∷ [] = rw (some, ends) refl in
    let left : length text - 1 ≡ suc (length c) = omega arith in
    let at : longest_suffix (segment ((b ∷ c) ++ 47 ∷ rest)) (rows_behind r) ≡ 47 ∷ [] =
    ap (λ l. longest_suffix l (rows_behind r)) (segment_of (b ∷ c) rest free) ∙ best in
    ap (λ s.
    cond {A = ℕ × RowsOf (RouteOf Route)} (ltb 0 (length s)) (length (segment ((b ∷ c) ++ 47 ∷ rest)) - length s, with_suffix s (rows_behind r))
    (cond (has_slash ((b ∷ c) ++ 47 ∷ rest)) (0, []) (length ((b ∷ c) ++ 47 ∷ rest), rows_behind r))) at
    ∙ ap (λ l. (length l - 1, rows_behind r)) (segment_of (b ∷ c) rest free) ∙ ap (λ n. (n, rows_behind r)) left

two_first : (r : RouteOf Route) (b : ℕ) (c : List ℕ) (d : ℕ) (e : List ℕ) → b < 256 → has_slash (b ∷ c) ≡ false → d < 256 → has_slash (d ∷ e) ≡ false
    → first ((256 ∷ 47 ∷ 256 ∷ [], r) ∷ []) ((b ∷ c) ++ 47 ∷ d ∷ e) ≡ Some r
unfolding seek rows_behind
two_first r b c d e byte free byte2 free2 =
    let rest = c ++ 47 ∷ d ∷ e in
    let row : RowsOf (RouteOf Route) = rows_behind r in
    let other : (256 == b) ≡ false = grind (arith, nat_tests) in
    let same : (suc (length c) - 1) ≡ length c = omega arith in
    let last : first row (47 ∷ d ∷ e) ≡ Some r = lit 47 (d ∷ e) row refl refl ∙ last_piece r d e byte2 free2 in
    ap (λ v.
    or_else (seek 0 (cond {A = RowsOf (RouteOf Route)} v row []) rest)
    (or_else (seek ((param_step row (b ∷ rest)).0 - 1) (param_step row (b ∷ rest)).1 rest) None)) other
    ∙ ap (λ o. or_else o (or_else (seek ((param_step row (b ∷ rest)).0 - 1) (param_step row (b ∷ rest)).1 rest) None)) (seek_none {K = RouteOf Route} 0 rest)
    ∙ ap (λ (s : ℕ × RowsOf (RouteOf Route)). or_else (seek (s.0 - 1) s.1 rest) None) (piece_step r b c (d ∷ e) free)
    ∙ ap (λ n. or_else (seek n row rest) None) same
    ∙ ap (λ o. or_else o None) (seek_over c (47 ∷ d ∷ e) row ∙ last)

bytes_after : (front rest : List ℕ) → AreBytes (front ++ rest) → AreBytes rest
bytes_after [] rest h = h
bytes_after (b ∷ front) rest h = bytes_after front rest h.1

-- what its pieces find stands against finding nothing
not_none : (pieces : List (List ℕ)) → length pieces ≤ 2 → (w path : List ℕ) (r : RouteOf Route)
    → ((rest : List ℕ) → first routes (w ++ rest) ≡ first ((tokens pieces, r) ∷ []) rest) → AreBytes path → first routes path ≡ None
    → (one two : List ℕ) → AreBehind pieces w path one two → ⊥
unfolding seek
not_none [] few w path r at bytes none one two x =
    let some : first routes path ≡ Some r = ap (first routes) (x.0 ∙ sym (append-nil w)) ∙ at [] in
    let no : None ≡ Some r = sym none ∙ some in
    cc
not_none (piece ∷ []) few w path r at bytes none [] two x = absurd (omega (arith, x.1.0))
not_none (piece ∷ []) few w path r at bytes none (b ∷ p) two x =
    let byte = bytes_after w (b ∷ p) (subst AreBytes x.0 bytes) in
    let some : first routes path ≡ Some r = ap (first routes) x.0 ∙ at (b ∷ p) ∙ last_piece r b p byte.0 x.1.1 in
    let no : None ≡ Some r = sym none ∙ some in
    cc
not_none (piece ∷ other ∷ []) few w path r at bytes none [] two x = absurd (omega (arith, x.1.0))
not_none (piece ∷ other ∷ []) few w path r at bytes none (b ∷ c) [] x = absurd (omega (arith, x.2.0))
not_none (piece ∷ other ∷ []) few w path r at bytes none (b ∷ c) (d ∷ f) x =
    let all = bytes_after w ((b ∷ c) ++ 47 ∷ d ∷ f) (subst AreBytes x.0 bytes) in
    let last = bytes_after (b ∷ c) (47 ∷ d ∷ f) all in
    let some : first routes path ≡ Some r = ap (first routes) x.0 ∙ at ((b ∷ c) ++ 47 ∷ d ∷ f) ∙ two_first r b c d f all.0 x.1.1 last.1.0 x.2.1 in
    let no : None ≡ Some r = sym none ∙ some in
    cc
not_none (piece ∷ other ∷ third ∷ more) few w path r at bytes none one two x = absurd (omega (arith, few))

pub missing : (route : Route) (path : List ℕ) → AreBytes path → first routes path ≡ None → IsTarget route path → ⊥
unfolding text_of
missing route path bytes none x =
    not_none (words_of route).pieces (few_pieces route) (text_of route) path (row_of route).1 (at_text route) bytes none x.0 x.1 x.2
