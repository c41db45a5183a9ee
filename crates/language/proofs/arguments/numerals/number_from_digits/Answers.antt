use Rattle.std.proofs.Common.{◌≡◌, ◌<◌, ◌≤◌, ◌+◌, ◌*◌, ◌-◌, ◌^◌, min, length, get_or, drop, sym, ap, ◌∙◌, arith}
use Rattle.std.proofs.lemmas.Bool.Decides.{nat_tests}
use Rattle.std.specs.Char.{digit_value}
use Rattle.language.specs.arguments.Texts.{number_after}
use Rattle.language.proofs.arguments_lemmas.NumberLemmas.{capped, number_after-iteration, number_after-stops}
use Rattle.language.proofs.arguments_lemmas.NumberLemmas.{number_after-ends, number_in-after}
use Rattle.language.proofs.arguments.numerals.number_from_digits.Goals as goal

pub returns-in_err-digit : goal.returns-in_err-digit
returns-in_err-digit c =
    let bytes = c.as_bytes-byte-items.result.now in
    let at = c.loop-byte.byte-index in
    let code : c.from.result ≡ get_or bytes at 0 = omega arith in
    let read : digit_value c.from.result ≡ digit_value (get_or bytes at 0) = ap digit_value code in
    let no_digit : c.args.base ≤ digit_value (get_or bytes at 0) = omega (arith, c.in_err-digit.ensures.value) in
    let none = number_after-stops c.args.base c.loop-byte.number at bytes (omega arith) no_digit in
    let whole = ap (number_after c.args.base 0) c.as_bytes-byte-items.ensures.value
    ∙ sym (number_in-after c.args.base c.args.digits.now (omega arith)) in
    c.from_residual.ensures ∙ sym none ∙ c.loop-byte.invariant.goes_on ∙ ap capped whole

pub loop-byte-preserved : goal.loop-byte-preserved
loop-byte-preserved c =
    let bytes = c.as_bytes-byte-items.result.now in
    let at = c.loop-byte.byte-index in
    let code : c.from.result ≡ get_or bytes at 0 = omega arith in
    let read : digit_value c.from.result ≡ digit_value (get_or bytes at 0) = ap digit_value code in
    let is_digit : digit_value (get_or bytes at 0) < c.args.base = omega (arith, c.in_ok-digit.ensures.value) in
    let value : c.in_ok-digit.digit ≡ digit_value (get_or bytes at 0) = omega (arith, c.in_ok-digit.ensures.value) in
    let iteration = number_after-iteration c.args.base c.loop-byte.number at c.in_ok-digit.digit bytes c.requires.low
    c.loop-byte-test.true is_digit value in
    let next : c.saturating_add-number.result
    ≡ min (min (c.loop-byte.number * c.args.base) (2 ^ 64 - 1) + c.in_ok-digit.digit) (2 ^ 64 - 1) = cc in
    record {
      fits = omega arith;
      goes_on = ap (λ front. capped (number_after c.args.base front (drop (at + 1) bytes))) next ∙ sym iteration
          ∙ c.loop-byte.invariant.goes_on;
    }

pub returns : goal.returns
returns c =
    let bytes = c.as_bytes-byte-items.result.now in
    let ended = number_after-ends c.args.base c.loop-byte.number c.loop-byte.byte-index bytes (omega arith)
    (omega arith) in
    let some : 0 < length c.args.digits.now = grind (arith, nat_tests, c.if-is_empty.ensures) in
    let whole = ap (number_after c.args.base 0) c.as_bytes-byte-items.ensures.value
    ∙ sym (number_in-after c.args.base c.args.digits.now some) in
    sym ended ∙ c.loop-byte.invariant.goes_on ∙ ap capped whole
