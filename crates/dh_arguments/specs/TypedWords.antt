-- The words as they are typed, and as they go to `clap`.
use Rattle.std.specs.Prelude.{◌==◌, ◌++◌, ◌&&◌, ◌||◌, Bool, false, not, nat_lt, if◌then◌else◌, List, [], ◌∷◌, map, length, slice_index}
use Rattle.std.specs.Prelude.{codes, bytes_eq, string_bytes}
use Rattle.clap.specs.Words.{Text}
use Rattle.dh_arguments.specs.declared.typed_words.Words.{Words}

-- an option whose value may begin with a hyphen
abbrev pub allows_hyphened : Text → Bool
allows_hyphened word = bytes_eq word (codes "--file") || bytes_eq word (codes "--key")

-- one hyphen (45) and more, but for an h (104) behind it, by which a word asks for help
abbrev pub is_hyphened : Text → Bool
is_hyphened word = nat_lt 1 (length word) && slice_index word 0 == 45 && not (slice_index word 1 == 45) && not (slice_index word 1 == 104)

-- the first word is such an option, and the second is such a value
abbrev pub begin_with_pair : List Text → Bool
begin_with_pair (option ∷ value ∷ rest) = allows_hyphened option && is_hyphened value
begin_with_pair _ = false

-- The words as they go to `clap`: `--key -1` is one word, `--key=-1`. Behind `--` no word is an option.
abbrev pub joined : List Text → List Text
joined [] = []
joined (word ∷ []) = word ∷ []
joined (word ∷ next ∷ rest) =
    if bytes_eq word (codes "--") then word ∷ next ∷ rest
    else (if begin_with_pair (word ∷ next ∷ rest) then (word ++ codes "=" ++ next) ∷ joined rest else word ∷ joined (next ∷ rest))

abbrev pub texts_of : Words → List Text
texts_of words = map string_bytes words.texts.items
