-- A body that is a JSON list of texts, and the replies.
use Rattle.std.specs.Prelude.{◌≡◌, ℕ, List, ◌++◌, map, Some, codes, decimal, IsUtf8}
use Rattle.serde_json.specs.Data.{Data, string, number, unsigned, object, member, no_members, array}
use Rattle.serde_json.specs.View.{items_of}
use Rattle.serde_json.specs.Read.{read}
use Rattle.json.specs.Print.{quoted}

-- a list of these texts
abbrev pub list_of : List (List ℕ) → Data
list_of texts = array (items_of (map string texts))

-- the bytes are text, and that is a list of these texts
pub record AreTexts (body : List ℕ) (texts : List (List ℕ)) : Type 0 where
  pub utf8 : IsUtf8 body
  pub reads : read body ≡ Some (list_of texts)

-- `{"code":N,"text":"T"}`
abbrev pub reply_body : ℕ → List ℕ → List ℕ
reply_body code text = codes "{\"code\":" ++ (decimal code ++ (codes ",\"text\":" ++ (quoted text ++ codes "}")))

-- the same as a value
abbrev pub reply_data : ℕ → List ℕ → Data
reply_data code text = object (member (codes "code") (number (unsigned code)) (member (codes "text") (string text) no_members))
