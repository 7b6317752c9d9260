-- What a target says of itself, apart from how it is found.
use Rattle.std.specs.Prelude.{◌≡◌, ℕ, List, [], ◌∷◌, ◌++◌}
use Rattle.dh_requests.specs.Routes.{IsPiece, front, words_of}
use Rattle.dh_requests.specs.declared.routes.Route.{Route}

-- the target is this text alone
abbrev pub IsText : List ℕ → List ℕ → List ℕ → List ℕ → Type 0
IsText text target first second = (target ≡ text) × (first ≡ []) × (second ≡ [])

-- the target is this text and one piece behind it
abbrev pub IsAfter : List ℕ → List ℕ → List ℕ → List ℕ → Type 0
IsAfter front target first second = (target ≡ front ++ first) × IsPiece first × (second ≡ [])

-- the target is this text and two pieces behind it, with a slash between them
abbrev pub AreAfter : List ℕ → List ℕ → List ℕ → List ℕ → Type 0
AreAfter front target first second = (target ≡ front ++ (first ++ 47 ∷ second)) × IsPiece first × IsPiece second

-- as many as these pieces
abbrev pub AreBehind : List (List ℕ) → List ℕ → List ℕ → List ℕ → List ℕ → Type 0
AreBehind [] text target first second = IsText text target first second
AreBehind (piece ∷ []) text target first second = IsAfter text target first second
AreBehind (piece ∷ other ∷ more) text target first second = AreAfter text target first second

-- the target is one of this route, with these pieces, each empty where the route has none
abbrev pub HasPieces : Route → List ℕ → List ℕ → List ℕ → Type 0
HasPieces route = AreBehind (words_of route).pieces (front (words_of route).word (words_of route).pieces)

-- the target is one of this route
abbrev pub IsTarget : Route → List ℕ → Type 0
IsTarget route target = (first : List ℕ) × (second : List ℕ) × HasPieces route target first second
