use Rattle.std.proofs.Common.{◌-◌, ◌*◌, ◌/◌, ◌%◌, ◌^◌, ◌∙◌, ap, bit_or}
use Rattle.std.proofs.lemmas.Nat.{mod_below, pow_pos}
use Rattle.word.specs.Widths.{bits}
use Rattle.word.specs.Operators.{wrapped}
use Rattle.word.proofs.bitwise.rotate_left.Goals as goal
use Rattle.word.proofs.Rotation.{pieces_add}
use Rattle.word.proofs.WidthLemmas.{bits-positive, bits-at_most}

pub returns : goal.returns
returns c =
    let w = c.args.width in
    let k = c.args.amount in
    let n = wrapped w c.args.a in
    c.wrap.ensures
    ∙ ap
    (λ x. wrapped w (bit_or ((x * 2 ^ (k % c.bits-bits.result)) % 2 ^ 64)
    (x / 2 ^ (c.bits-bits.result - k % c.bits-bits.result)))) (c.from-word.ensures ∙ c.convert.ensures)
    ∙ ap (λ b. wrapped w (bit_or ((n * 2 ^ (k % b)) % 2 ^ 64) (n / 2 ^ (b - k % b)))) c.bits-bits.ensures
    ∙ ap (wrapped w) (pieces_add (bits w) (k % bits w) n (mod_below k (bits w) (bits-positive w)) (bits-at_most w)
    (mod_below c.args.a (2 ^ bits w) (pow_pos (bits w))))
