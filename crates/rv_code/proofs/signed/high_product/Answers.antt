use Rattle.std.specs.Prelude.{ℤ, pos, negsuc, ◌^◌, ◌<◌, ◌≤◌, ◌-◌, ◌*ℤ◌, unsigned_abs}
use Rattle.std.proofs.Common.{◌∙◌, ap, arith, lit<}
use Rattle.std.proofs.lemmas.Int.{to_z-of_z, fits_signed_mul}
use lib.Signed.{mag}
use mir.Syntax.{w32, w64}
use mir.Val.{SFits}
use Rattle.rv_code.specs.Signed.{high_word}
use Rattle.rv_code.proofs.signed.high_product.Goals as goal

abs_at_most : (z : ℤ) → mag z < 2 ^ 31 → unsigned_abs z ≤ 2 ^ 31
abs_at_most (pos n) h = omega (arith, h)
abs_at_most (negsuc n) h = omega (arith, h)

product_fits : (a b : ℤ) → mag a < 2 ^ 31 → unsigned_abs b < 2 ^ 32 → SFits w64 (a *ℤ b)
product_fits a b below small =
    fits_signed_mul w64 a b (2 ^ 31) (2 ^ 32 - 1) (abs_at_most a below) (omega (arith, small)) (lit< tt)

pub overflow_mul-from : goal.overflow_mul-from
overflow_mul-from c =
    let same = c.from.ensures ∙ to_z-of_z w32 c.cast_signed.result (record { sfits = c.cast_signed.type_inv }) in
    let wide = to_z-of_z w64 c.from.result (record { sfits = c.from.type_inv }) in
    rw (wide ∙ same, to_z-of_z w64 c.args.b c.ranges.b)
    (product_fits c.cast_signed.result c.args.b c.cast_signed.type_inv c.requires)

pub returns : goal.returns
returns c =
    let same = c.from.ensures ∙ to_z-of_z w32 c.cast_signed.result (record { sfits = c.cast_signed.type_inv }) in
    let wide = to_z-of_z w64 c.from.result (record { sfits = c.from.type_inv }) in
    let fits = product_fits c.cast_signed.result c.args.b c.cast_signed.type_inv c.requires in
    c.high_word.ensures
    ∙ (rw (wide ∙ same, to_z-of_z w64 c.args.b c.ranges.b, to_z-of_z w64 (c.cast_signed.result *ℤ c.args.b) fits)
    (ap (λ a. high_word (a *ℤ c.args.b)) c.cast_signed.ensures))
