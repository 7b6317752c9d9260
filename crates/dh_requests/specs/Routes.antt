-- The routes, and what a target says of itself.
use Rattle.std.specs.Prelude.{◌≡◌, ℕ, ◌<◌, ◌+◌, List, [], ◌∷◌, ◌++◌, length, map, codes, false}
use Rattle.matchit.specs.Rows.{RowsOf, param_token}
use Rattle.matchit.specs.Router.{RouteOf}
use Rattle.matchit.specs.Seek.{has_slash}
use Rattle.dh_requests.specs.declared.routes.Route.{Route}
use Rattle.dh_requests.specs.declared.routes.Route.TheVariants.{Commands, Branches, Vacant, Matching, Statement, Arrears, Run, Owner}

abbrev pub row : List ℕ → List ℕ → List (ℕ × ℕ) → Route → List ℕ × RouteOf Route
row pattern text names value = (pattern, record { pattern = pattern; text = text; names = names; value = value })

-- What a route says: its word, and what the pieces behind it are called.
pub record Words : Type 0 where
  pub word : List ℕ
  pub pieces : List (List ℕ)

abbrev pub words_of : Route → Words
words_of Commands = record { word = codes "commands"; pieces = [] }
words_of Branches = record { word = codes "branches"; pieces = [] }
words_of Vacant = record { word = codes "vacant"; pieces = codes "day" ∷ [] }
words_of Matching = record { word = codes "matching"; pieces = codes "client" ∷ codes "day" ∷ [] }
words_of Statement = record { word = codes "statement"; pieces = codes "lease" ∷ [] }
words_of Arrears = record { word = codes "arrears"; pieces = codes "branch" ∷ [] }
words_of Run = record { word = codes "run"; pieces = codes "month" ∷ [] }
words_of Owner = record { word = codes "owner"; pieces = codes "owner" ∷ codes "month" ∷ [] }

-- what stands before the pieces
abbrev pub front : List ℕ → List (List ℕ) → List ℕ
front word [] = 47 ∷ word
front word (piece ∷ pieces) = 47 ∷ (word ++ 47 ∷ [])

-- the pieces in a pattern, in a text, and where their names stand in the text
abbrev pub tokens : List (List ℕ) → List ℕ
tokens [] = []
tokens (piece ∷ []) = param_token ∷ []
tokens (piece ∷ pieces) = param_token ∷ 47 ∷ tokens pieces

abbrev pub braced : List (List ℕ) → List ℕ
braced [] = []
braced (piece ∷ pieces) = codes "/{" ++ (piece ++ (codes "}" ++ braced pieces))

abbrev pub places : ℕ → List (List ℕ) → List (ℕ × ℕ)
places at [] = []
places at (piece ∷ pieces) = (at, at + length piece) ∷ places (at + length piece + 3) pieces

abbrev pub row_of : Route → List ℕ × RouteOf Route
row_of route =
    let it = words_of route in
    row (front it.word it.pieces ++ tokens it.pieces) (47 ∷ (it.word ++ braced it.pieces)) (places (length it.word + 3) it.pieces) route

-- the routes in the order of a router's rows
abbrev pub in_order : List Route
in_order = Arrears ∷ Branches ∷ Commands ∷ Matching ∷ Owner ∷ Run ∷ Statement ∷ Vacant ∷ []

abbrev pub routes : RowsOf (RouteOf Route)
routes = map row_of in_order

-- some bytes, and no slash
abbrev pub IsPiece : List ℕ → Type 0
IsPiece p = (0 < length p) × (has_slash p ≡ false)
