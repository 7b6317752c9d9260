use Rattle.std.proofs.Common.{◌≡◌, get_or, arith, sym}
use Rattle.std.specs.Char.{is_ascii_digit, digit_value}
use Rattle.std.proofs.lemmas.Bool.Decides.{nat_tests}
use Rattle.std.proofs.lemmas.List.Folds.{list_all_more}
use Rattle.std.proofs.lemmas.Int.Digits.{digits_value_more}
use Rattle.dh_requests.proofs.header_lines.length_of.Goals as goal

pub loop-digit-preserved : goal.loop-digit-preserved
loop-digit-preserved c =
    let digit : digit_value (get_or c.args.value.now c.loop-digit.digit-index 0) ≡ c.from.result = grind (arith, nat_tests) in
    record {
      digits =
          rw (list_all_more is_ascii_digit c.args.value.now c.loop-digit.digit-index 0 c.loop-digit-test.true, c.loop-digit.invariant.digits)
          (sym c.if-not-is_ascii_digit.ensures.value);
      value =
          omega
          (arith, digits_value_more 10 c.args.value.now c.loop-digit.digit-index c.loop-digit-test.true, c.loop-digit.invariant.value, c.min-bytes.ensures);
    }
