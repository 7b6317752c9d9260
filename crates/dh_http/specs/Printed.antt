-- What is printed of the connections that are served.
use Rattle.std.specs.Prelude.{◌≡◌, ◌≢◌, ℕ, zero, suc, ◌<◌, ◌≤◌, List, [], ◌∷◌, ◌++◌, length, take, All, codes, decimal, Option, Some, None, Result, Ok}
use Rattle.std.specs.Prelude.{Err}
use Rattle.std.specs.Io.KnownBytes.{Appends}
use Rattle.http.specs.StatusCode.{code_digits}
use Rattle.dh_types.specs.Output.{BreaksOff}
use Rattle.dh_types.specs.declared.output.Output.{Output}
use Rattle.dh_reports.specs.Columns.{newline}
use Rattle.dh_http.specs.Service.{IsHalt}
use Rattle.dh_http.specs.declared.listener.Service.{Service}
use Rattle.dh_http.specs.declared.listener.Unserved.{Unserved}
use Rattle.dh_http.specs.declared.listener.Unserved.TheVariants as unserved

-- the status of the answer, or that there was none
abbrev pub outcome_line : Option ℕ → List ℕ
outcome_line (Some status) = code_digits status ++ newline
outcome_line None = codes "lost" ++ newline

abbrev pub outcome_lines : List (Option ℕ) → List ℕ
outcome_lines [] = []
outcome_lines (it ∷ rest) = outcome_line it ++ outcome_lines rest

-- the port that the system picked
abbrev pub port_line : ℕ → List ℕ
port_line port = codes "port " ++ decimal port ++ newline

-- what is printed first: the port, where the system was to pick it
abbrev pub port_text : ℕ → ℕ → List ℕ
port_text zero port = port_line port
port_text (suc asked) port = []

-- it is told first where the system was to pick it
abbrev pub IsPortText : ℕ → List ℕ → Type 0
IsPortText zero text = (port : ℕ) × (text ≡ port_line port)
IsPortText (suc asked) text = text ≡ []

-- no answer says that the agency has stopped
abbrev pub GoOn : List (Option ℕ) → Type 0
GoOn outcomes = All (λ it. it ≢ Some 503) outcomes

-- every connection was served
pub record AreAll (count : ℕ) (outcomes : List (Option ℕ)) : Type 0 where
  pub count_is : length outcomes ≡ count
  pub going : GoOn outcomes

-- connections were served up to this one, the last or not
pub record EndsWith (count : ℕ) (outcomes : List (Option ℕ)) (last : Option ℕ) : Type 0 where
  pub before : List (Option ℕ)
  pub is : outcomes ≡ before ++ last ∷ []
  pub going : GoOn before
  pub few : length outcomes ≤ count

-- a beginning of the line of the last connection was printed behind those before it
pub record BreaksAt (count : ℕ) (text : List ℕ) (outcomes : List (Option ℕ)) (a b : Option (List ℕ)) : Type 0 where
  pub last : Option ℕ
  pub ends : EndsWith count outcomes last
  pub cut : ℕ
  pub part : cut < length (outcome_line last)
  pub written : Appends a b (text ++ outcome_lines ends.before ++ take cut (outcome_line last))

-- Connections were served up to the one at which the agency stopped, as an answer 503 tells, or one that was lost.
pub record EndsHalted (count : ℕ) (outcomes : List (Option ℕ)) : Type 0 where
  pub last : Option ℕ
  pub halts : IsHalt last
  pub ends : EndsWith count outcomes last

-- fewer connections were served, and the agency goes on
pub record AreFewer (count : ℕ) (outcomes : List (Option ℕ)) : Type 0 where
  pub few : length outcomes < count
  pub going : GoOn outcomes

-- A line for each connection was printed: for all; or up to the one at which the agency stopped; or for those that were served before no further
-- one could be taken; or up to one in whose line the writer failed.
abbrev pub PrintsBehind : ℕ → List ℕ → List (Option ℕ) → Option (List ℕ) → Option (List ℕ) → Result (Unit {0}) Unserved → Type 0
PrintsBehind count text outcomes a b (Ok done) = AreAll count outcomes × Appends a b (text ++ outcome_lines outcomes)
PrintsBehind count text outcomes a b (Err unserved.Stopped) = EndsHalted count outcomes × Appends a b (text ++ outcome_lines outcomes)
PrintsBehind count text outcomes a b (Err (unserved.Fault fault)) = AreFewer count outcomes × Appends a b (text ++ outcome_lines outcomes)
PrintsBehind count text outcomes a b (Err (unserved.Output failed)) = BreaksAt count text outcomes a b
PrintsBehind count text outcomes a b (Err unserved.NoListener) = ⊥

-- The same behind the port; or the writer failed in that, or there is no listener, and no connection was served.
pub data PrintsServed (service : Service) (outcomes : List (Option ℕ)) (a b : Option (List ℕ)) (result : Result (Unit {0}) Unserved) : Type 0 where
  Listened : (text : List ℕ) → IsPortText service.port text → PrintsBehind service.count text outcomes a b result
      → PrintsServed service outcomes a b result
  PortUnprinted : (text : List ℕ) → IsPortText service.port text → BreaksOff a b text → outcomes ≡ [] → (failed : Output)
      → result ≡ Err (unserved.Output failed)
      → PrintsServed service outcomes a b result
  Unlistened : b ≡ a → outcomes ≡ [] → result ≡ Err unserved.NoListener → PrintsServed service outcomes a b result
