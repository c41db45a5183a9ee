use Rattle.std.proofs.Common.{ap, ◌∙◌}
use Rattle.std.proofs.lemmas.Result.{IfOk-weaker}
use Rattle.hepurita.specs.Below.{program_tree, RangedProgram, straight_of}
use Rattle.compilation.specs.Needs.{needs_as}
use Rattle.compilation.specs.Exact.{needs_for, frame_needs_for, code_for, image_for}
use Rattle.hepurita.proofs.Compilations.{begun, compilation}
use Rattle.hepurita.proofs.OneImage.{ok_both}
use Rattle.hepurita.proofs.compiling.code_in.Goals as goal

pub returns-clause-compiled : goal.returns-clause-compiled
unfolding image_for
returns-clause-compiled c = λ profile source is.
    let counted = c.in_ok-ranged.ensures.accepted profile source is in
    let of = c.generated_for.ensures in
    IfOk-weaker c.generated_for.result _ _
    (λ made facts.
    let from = facts.0 in
    compilation c.args.optimisation profile source (program_tree c.args.flattened.now.program) is.before is.export
    made.code from.0 counted.1 (rw counted.0 at from.1) from.2 facts.1.1
    (facts.1.0 ∙ ap (λ (r : RangedProgram). code_for c.args.optimisation (straight_of r)) counted.0))
    (ok_both c.generated_for.result _ _ of.generated (ok_both c.generated_for.result _ _ of.exact of.allowed))

pub returns-clause-started : goal.returns-clause-started
unfolding frame_needs_for
returns-clause-started c = λ profile source is.
    let counted = c.in_ok-ranged.ensures.accepted profile source is in
    let of = c.generated_for.ensures in
    IfOk-weaker c.generated_for.result _ _
    (λ made facts.
    let from = facts.0 in (
      begun c.args.optimisation profile source (program_tree c.args.flattened.now.program) is.before is.export made.code
          from.0 (needs_as made.needs) counted.1 (rw counted.0 at from.1) from.2 from.3,
      facts.1 ∙ ap (λ (r : RangedProgram). needs_for c.args.optimisation (straight_of r)) counted.0,
    ))
    (ok_both c.generated_for.result _ _ of.generated of.needs)
