use Rattle.std.proofs.Common.{◌≡◌, ◌∙◌, sym, ap, true, Some, arith, rules}
use Rattle.dh_values.proofs.NumberTexts.{parsed, unparsed}
use Rattle.dh_values.specs.Numbers.{is_numeral, numeral_of}
use Rattle.dh_values.proofs.digits.read_within.Goals as goal

pub returns-in_default : goal.returns-in_default
returns-in_default c =
    let numeral : is_numeral c.args.text.now ≡ true = sym (ap is_numeral c.as_bytes.ensures.value) ∙ sym c.is_numeral.ensures ∙ c.if-not-is_numeral.false in
    unparsed c.args.text.now numeral _ c.parse.ensures.value.0 c.args.low c.args.high _ c.in_default.is (omega (arith, c.ranges.high.fits))

pub returns-then-n-low : goal.returns-then-n-low
returns-then-n-low c =
    let numeral : is_numeral c.args.text.now ≡ true = sym (ap is_numeral c.as_bytes.ensures.value) ∙ sym c.is_numeral.ensures ∙ c.if-not-is_numeral.false in
    let is : numeral_of c.args.text.now ≡ Some c.in-Ok.n = parsed c.args.text.now numeral _ c.parse.ensures.value.0 c.in-Ok.n c.in-Ok.is in
    search rules

pub returns : goal.returns
returns c =
    let numeral : is_numeral c.args.text.now ≡ true = sym (ap is_numeral c.as_bytes.ensures.value) ∙ sym c.is_numeral.ensures ∙ c.if-not-is_numeral.false in
    let is : numeral_of c.args.text.now ≡ Some c.in-Ok.n = parsed c.args.text.now numeral _ c.parse.ensures.value.0 c.in-Ok.n c.in-Ok.is in
    search rules
