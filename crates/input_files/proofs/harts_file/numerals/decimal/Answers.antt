use Rattle.std.proofs.Common.{◌≡◌, ◌<◌, ◌≤◌, ◌+◌, ◌*◌, ◌-◌, ◌^◌, min, length, get_or, drop, sym, ap, ◌∙◌, arith}
use Rattle.std.proofs.lemmas.Bool.Decides.{nat_tests}
use Rattle.std.specs.Char.{digit_value}
use Rattle.input_files.specs.Below.{number_after}
use Rattle.input_files.proofs.harts_file_lemmas.NumberLemmas.{capped, number_after-iteration, number_after-stops}
use Rattle.input_files.proofs.harts_file_lemmas.NumberLemmas.{number_after-ends}
use Rattle.input_files.proofs.harts_file_lemmas.NumberLemmas.{number_in-after}
use Rattle.input_files.proofs.harts_file.numerals.decimal.Goals as goal

pub returns-in_err-digit : goal.returns-in_err-digit
returns-in_err-digit c =
    let bytes = c.as_bytes-byte-items.result.now in
    let at = c.loop-byte.byte-index in
    let code : c.from.result ≡ get_or bytes at 0 = omega arith in
    let read : digit_value c.from.result ≡ digit_value (get_or bytes at 0) = ap digit_value code in
    let no_digit : 10 ≤ digit_value (get_or bytes at 0) = omega (arith, c.in_err-digit.ensures.value) in
    let none = number_after-stops c.loop-byte.number at bytes (omega arith) no_digit in
    let whole = ap (number_after 10 0) c.as_bytes-byte-items.ensures.value
    ∙ sym (number_in-after c.args.text.now (omega arith)) in
    c.from_residual.ensures ∙ sym none ∙ c.loop-byte.invariant.goes_on ∙ ap capped whole

pub loop-byte-preserved : goal.loop-byte-preserved
loop-byte-preserved c =
    let bytes = c.as_bytes-byte-items.result.now in
    let at = c.loop-byte.byte-index in
    let code : c.from.result ≡ get_or bytes at 0 = omega arith in
    let read : digit_value c.from.result ≡ digit_value (get_or bytes at 0) = ap digit_value code in
    let is_digit : digit_value (get_or bytes at 0) < 10 = omega (arith, c.in_ok-digit.ensures.value) in
    let value : c.in_ok-digit.digit ≡ digit_value (get_or bytes at 0) = omega (arith, c.in_ok-digit.ensures.value) in
    let turn = number_after-iteration c.loop-byte.number at c.in_ok-digit.digit bytes c.loop-byte-test.true
    is_digit value in
    let next : c.saturating_add-number.result
    ≡ min (min (c.loop-byte.number * 10) (2 ^ 64 - 1) + c.in_ok-digit.digit) (2 ^ 64 - 1) = cc in
    record {
      fits = omega arith;
      goes_on = ap (λ front. capped (number_after 10 front (drop (at + 1) bytes))) next ∙ sym turn
          ∙ c.loop-byte.invariant.goes_on;
    }

pub returns : goal.returns
returns c =
    let bytes = c.as_bytes-byte-items.result.now in
    let ended = number_after-ends c.loop-byte.number c.loop-byte.byte-index bytes (omega arith) (omega arith) in
    let some : 0 < length c.args.text.now = grind (arith, nat_tests, c.if-is_empty.ensures) in
    let whole = ap (number_after 10 0) c.as_bytes-byte-items.ensures.value
    ∙ sym (number_in-after c.args.text.now some) in
    sym ended ∙ c.loop-byte.invariant.goes_on ∙ ap capped whole
