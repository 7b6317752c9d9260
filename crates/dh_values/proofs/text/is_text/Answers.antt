use Rattle.std.proofs.Common.{◌≡◌, ◌≤◌, ℕ, true, Bool, length, nat_le, ◌&&◌, arith}
use Rattle.std.specs.List.{list_all}
use Rattle.std.specs.Str.{chars, is_utf8}
use Rattle.std.proofs.lemmas.Str.{is_utf8-from_IsUtf8}
use Rattle.std.proofs.lemmas.Bool.Decides.{nat_tests}
use Rattle.dh_values.specs.Texts.{is_printable}
use Rattle.dh_values.proofs.text.is_text.Goals as goal

whole : (a b c d : Bool) → a ≡ true → b ≡ true → c ≡ true → d ≡ (a && b && c && d)
whole a b c d p q r = grind (arith, p, q, r)

least : (m n : ℕ) → m ≤ n → nat_le m n ≡ true
least m n h = grind (arith, nat_tests)

pub returns-then-count-most : goal.returns-then-count-most
returns-then-count-most c =
    let t = c.args.text.now in
    let low : 1 ≤ length (chars t) = omega (arith, c.if-count-most.true.0, c.character_count-count.ensures) in
    let high : length (chars t) ≤ c.args.most = omega (arith, c.if-count-most.true.1, c.character_count-count.ensures) in
    rw c.are_printable.ensures (whole (is_utf8 t) (nat_le 1 (length (chars t))) (nat_le (length (chars t)) c.args.most) (list_all is_printable (chars t))
    (is_utf8-from_IsUtf8 t c.utf8.text) (least _ _ low) (least _ _ high))
