use Rattle.std.proofs.Common.{◌≡◌, ℕ, List, Option, IfOk, length, subst}
use Rattle.codegen.specs.Exact.{optimised_variables}
use Rattle.expression_code.specs.Layout.{slotted}
use Rattle.codegen.specs.private.Homes.{word_homes}
use Rattle.codegen.proofs.generator.optimised_variables.Goals as goal

pub returns : goal.returns
unfolding optimised_variables
returns c =
    let p = c.args.straight.now in
    let is : c.as_slice.result.now ≡ (word_homes p).homes =
    rw (c.as_slice.ensures.value, c.in_ok-found.ensures.homes, c.temporary_registers-count.ensures.count) in
    subst
    (λ (homes : List (Option ℕ)). IfOk c.laid_out.result
    (λ laid. laid.items ≡ slotted (length p.parameters) homes p.declared)) is c.laid_out.ensures
