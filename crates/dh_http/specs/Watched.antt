-- That the file is looked for at its path before a request is read.
use Rattle.std.specs.Prelude.{◌≡◌, ℕ, Bool, true, false, List, [], ◌∷◌, ◌++◌, Option, Result, Err}
use Rattle.dh_types.specs.declared.reply.Fault.{Fault}
use Rattle.dh_types.specs.declared.reply.Fault.TheVariants.{Store}
use Rattle.dh_http.specs.Calls.{Makes}
use Rattle.dh_http.specs.declared.listener.Unserved.{Unserved}
use Rattle.dh_http.specs.declared.listener.Unserved.TheVariants as unserved

-- a look for each of these connections, which saw the file
abbrev pub sights : List (Option ℕ) → List Bool
sights [] = []
sights (it ∷ rest) = true ∷ sights rest

-- Behind the last connection no look was made; or one, behind which no further connection was served. A file that is not seen is a fault of the store.
pub data EndsSightings (result : Result (Unit {0}) Unserved) : List Bool → Type 0 where
  Served : EndsSightings result []
  Faulted : (seen : Bool) (fault : Fault) → result ≡ Err (unserved.Fault fault) → (seen ≡ false → fault ≡ Store) → EndsSightings result (seen ∷ [])

-- The file was seen at its path before each of these connections was served.
pub record IsWatched (a b : Option (List Bool)) (outcomes : List (Option ℕ)) (result : Result (Unit {0}) Unserved) : Type 0 where
  pub last : List Bool
  pub sightings : Makes a b (sights outcomes ++ last)
  pub ends : EndsSightings result last
