-- A code and a key are text of one byte a character.
use Rattle.std.proofs.Common.{◌≡◌, ℕ, zero, suc, ◌<◌, Bool, true, false, ◌&&◌, List, [], ◌∷◌, arith, refl}
use Rattle.std.specs.List.{list_all}
use Rattle.std.specs.Str.{IsAscii, IsUtf8}
use Rattle.std.proofs.lemmas.Str.{IsUtf8-from_ascii}
use Rattle.dh_values.specs.Texts.{is_code_byte, is_id, is_key_byte, is_key}

code_below : (b : ℕ) → is_code_byte b ≡ true → b < 128
code_below b h = grind arith

key_below : (b : ℕ) → is_key_byte b ≡ true → b < 128
key_below b h = grind arith

pub and_left : (a b : Bool) → (a && b) ≡ true → a ≡ true
and_left true b h = refl
and_left false b h = h

pub and_right : (a b : Bool) → (a && b) ≡ true → b ≡ true
and_right true b h = h
and_right false b h = cc

-- bytes that pass a test which only bytes below 128 pass
all_ascii : (test : ℕ → Bool) → ((b : ℕ) → test b ≡ true → b < 128) → (bytes : List ℕ) → list_all test bytes ≡ true → IsAscii bytes
all_ascii test below [] h i = omega arith
all_ascii test below (b ∷ bs) h zero = below b (and_left _ _ h)
all_ascii test below (b ∷ bs) h (suc i) = all_ascii test below bs (and_right (test b) _ h) i

pub is_id-IsUtf8 : (bytes : List ℕ) → is_id bytes ≡ true → IsUtf8 bytes
is_id-IsUtf8 bytes h = IsUtf8-from_ascii bytes (all_ascii is_code_byte code_below bytes (and_right _ _ h))

pub is_key-IsUtf8 : (bytes : List ℕ) → is_key bytes ≡ true → IsUtf8 bytes
is_key-IsUtf8 bytes h = IsUtf8-from_ascii bytes (all_ascii is_key_byte key_below bytes (and_right _ _ h))
