use Rattle.std.proofs.lemmas.Result.{IfOk-weaker}
use Rattle.compilation.proofs.Anywhere.{code_for_body}
use Rattle.compilation.proofs.coding.generated_for.Goals as goal

pub returns-in-Off-clause-generated : goal.returns-in-Off-clause-generated
returns-in-Off-clause-generated c =
    IfOk-weaker c.plain_code.result _ _
    (λ made is. code_for_body c.args.ranged.now _ made c.in_ok-straight.ensures.removed is) c.plain_code.ensures.generated

pub returns-in-On-clause-generated : goal.returns-in-On-clause-generated
returns-in-On-clause-generated c =
    IfOk-weaker c.fast_code.result _ _
    (λ made is. code_for_body c.args.ranged.now _ made c.in_ok-straight.ensures.removed is) c.fast_code.ensures.generated

pub returns-clause-generated : goal.returns-clause-generated
returns-clause-generated c =
    IfOk-weaker c.small_code.result _ _
    (λ made is. code_for_body c.args.ranged.now _ made c.in_ok-straight.ensures.removed is) c.small_code.ensures.generated
