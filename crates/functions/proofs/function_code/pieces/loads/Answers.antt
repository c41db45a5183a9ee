use Rattle.std.proofs.Common.{◌≡◌, ◌+◌, ◌∷◌, ap, arith, drop, length, refl}
use Rattle.rv_code.specs.declared.operations.LoadOperation.TheVariants.{Lw}
use Rattle.functions.specs.Below.{loads_code, Load}
use Rattle.functions.proofs.Steps.{all_made, next_item, one_more}
use Rattle.functions.proofs.function_code.pieces.loads.Goals as goal

pub loop-register-preserved : goal.loop-register-preserved
loop-register-preserved c =
    let l = c.loop-register in
    let base = c.args.base in
    let registers = c.args.registers.now in
    let register = c.register-item.result in
    let next = next_item registers l.register-index register c.loop-register-test.true c.register-item.is in
    let rest = loads_code base (l.place + 4) (drop (l.register-index + 1) registers) in
    let long = ap (λ rs. length rs) next in
    let low : l.place ≡ c.from_bits-low.result = omega (arith, c.from_bits-low.ensures, l.invariant.room, long) in
    record {
      code = one_more (loads_code base l.place) registers l.register-index register _ rest l.code.items _ _ next
          (ap (λ place. Load Lw register base place ∷ rest) low) c.in_ok-push.ensures.items l.invariant.code;
      room = omega (arith, l.invariant.room, long);
    }

pub returns : goal.returns
returns c =
    let l = c.loop-register in
    all_made (loads_code c.args.base l.place) c.args.registers.now l.register-index l.code.items _ refl
    c.loop-register-test.false l.invariant.code
