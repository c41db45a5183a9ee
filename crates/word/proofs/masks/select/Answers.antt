use Rattle.std.proofs.Common.{◌≡◌, ◌-◌, ◌%◌, ◌^◌, ◌∙◌, ap, sym, bit_and, bit_or, arith}
use Rattle.word.proofs.masks.select.Goals as goal
use Rattle.word.proofs.Selection.{by_bits}

pub returns : goal.returns
returns c =
    let reduced : c.args.mask % 2 ^ 32 ≡ c.args.mask = omega arith in
    by_bits 32 c.args.mask c.args.a c.args.b (omega arith) (omega arith) (omega arith)
    ∙ ap (λ m. bit_or (bit_and c.args.a c.args.mask) (bit_and c.args.b (2 ^ 32 - 1 - m))) (sym reduced)
