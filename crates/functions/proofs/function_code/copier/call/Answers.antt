use Rattle.std.proofs.Common.{◌≡◌, ◌+◌, ◌*◌, ◌%◌, ◌^◌, ap, arith, ◌∙◌, ℕ}
use Rattle.functions.specs.Below.{Jump}
use Rattle.functions.proofs.function_code.copier.call.Goals as goal

pub returns : goal.returns
returns c =
    let wrapped = c.wrapped.ensures in
    let same : (((c.wrapped.result + c.args.behind) % 2 ^ 32 * 2) % 2 ^ 32 + 2) % 2 ^ 32 % 2 ^ 20
    ≡ (2 * (c.args.count + c.args.behind) + 2) % 2 ^ 20 = omega (arith, wrapped) in
    ap (λ (h : ℕ). Jump 30 h) (c.from_halves.ensures ∙ same)
