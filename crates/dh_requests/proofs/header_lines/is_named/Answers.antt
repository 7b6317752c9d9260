use Rattle.std.proofs.Common.{◌≡◌, map, true, false, Bool, IsTrue, sym, refl}
use Rattle.std.specs.Prelude.{◌↔◌}
use Rattle.std.specs.Char.{to_ascii_lowercase}
use Rattle.std.specs.Cmp.Lexicographic.{pointwise, same_text, other_text}
use Rattle.std.proofs.Common.{nat_eq}
use Rattle.dh_requests.proofs.header_lines.is_named.Goals as goal

decided : (b t : Bool) (P : Type 0) → IsTrue b ↔ P → (t ≡ true → P) → (t ≡ false → P → ⊥) → b ≡ t
decided true true P x f g = refl
decided false false P x f g = refl
decided true false P x f g = absurd (g refl (x.0 refl))
decided false true P x f g = x.1 (f refl)

pub returns : goal.returns
returns c =
    let a = map to_ascii_lowercase c.args.name.now in
    let b = map to_ascii_lowercase c.args.wanted.now in
    decided c.eq_ignore_ascii_case.result (pointwise nat_eq a b) (a ≡ b) c.eq_ignore_ascii_case.ensures.test
    (λ e. same_text a b (sym e)) (λ e. other_text a b (sym e))
