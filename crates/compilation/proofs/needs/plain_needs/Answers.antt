use Rattle.std.proofs.Common.{ap, arith, List, ◌∙◌}
use Rattle.std.proofs.lemmas.Result.{IfOk-weaker}
use Rattle.compilation.specs.Needs.{needs_of}
use Rattle.inline.specs.FlatSize.{declared_words}
use Rattle.inline.specs.declared.flat.FlatVariable.{FlatVariable}
use Rattle.compilation.proofs.needs.plain_needs.Goals as goal

pub needs_of-requires : goal.needs_of-requires
needs_of-requires c =
    let kept = c.straight_code_is_kept.ensures.bounded in
    omega (arith, ap declared_words c.declared.ensures, kept.declared)

pub returns-clause-needs : goal.returns-clause-needs
returns-clause-needs c =
    IfOk-weaker c.needs_of.result _ _
    (λ made is. is ∙ ap (λ (laid : List FlatVariable). needs_of laid c.args.straight.now) c.declared.ensures)
    c.needs_of.ensures
