use Rattle.std.proofs.Common.{ap, arith, List, ◌∙◌, length}
use Rattle.std.proofs.lemmas.Result.{IfOk-weaker}
use Rattle.codegen.proofs.Slotted.{slotted_words}
use Rattle.codegen.specs.Exact.{optimised_variables}
use Rattle.codegen.specs.private.Homes.{word_homes}
use Rattle.compilation.specs.Needs.{needs_of}
use Rattle.inline.specs.FlatSize.{declared_words}
use Rattle.inline.specs.declared.flat.FlatVariable.{FlatVariable}
use Rattle.compilation.proofs.needs.optimised_needs.Goals as goal

pub needs_of-requires : goal.needs_of-requires
unfolding optimised_variables
needs_of-requires c =
    let p = c.args.straight.now in
    let kept = c.straight_code_is_kept.ensures.bounded in
    omega (
      arith,
      ap declared_words (c.as_slice.ensures.value ∙ c.in_ok-laid.ensures),
      slotted_words (length p.parameters) (word_homes p).homes 0 p.declared,
      kept.declared,
    )

pub returns-clause-needs : goal.returns-clause-needs
returns-clause-needs c =
    IfOk-weaker c.needs_of.result _ _
    (λ made is. is ∙ ap (λ (laid : List FlatVariable). needs_of laid c.args.straight.now)
    (c.as_slice.ensures.value ∙ c.in_ok-laid.ensures))
    c.needs_of.ensures
