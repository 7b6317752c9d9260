-- Counts by code.
use Rattle.std.specs.Prelude.{ℕ, List}
use Rattle.std.specs.Option.{unwrap_or}
use Rattle.std.specs.BTreeMap.{BTreeMap, get}
use Rattle.dh_model.specs.Books.{text_cmp}

-- the count under the code, 0 where there is none
abbrev pub count_at : BTreeMap (List ℕ) ℕ → List ℕ → ℕ
count_at counts code = unwrap_or (get text_cmp counts code) 0
