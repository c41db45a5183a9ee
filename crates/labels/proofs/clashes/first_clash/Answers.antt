use Rattle.std.proofs.Common.{refl}
use Rattle.labels.proofs.ClashLemmas.{all_passed, argument_more, clash_last, no_arguments}
use Rattle.labels.proofs.clashes.first_clash.Goals as goal

pub loop-index-init : goal.loop-index-init
loop-index-init c =
    no_arguments (all_passed c.args.parameters.now c.args.types.now c.args.arguments.now)
    c.args.arrays.now.given c.args.arrays.now.changed c.requires.given c.requires.changed

pub loop-index-preserved : goal.loop-index-preserved
loop-index-preserved c =
    rw c.or-clash.ensures
    (argument_more c.index-parameters-index.result _ c.args.parameters.now c.args.types.now c.args.arguments.now c.index-arguments-index.result
    c.loop-index.index c.loop-index-test.true c.requires.types c.requires.arguments c.index-parameters-index.is
    c.index-arguments-index.is
    c.loop-index.arrays.given c.loop-index.arrays.changed c.take.new.self.given c.take.new.self.changed _ _
    c.in_ok-earlier.earlier c.loop-index.clash c.shared.result _ c.loop-index.invariant refl refl
    c.in_ok-earlier.ensures.given c.in_ok-earlier.ensures.changed c.in_ok-earlier.ensures.before c.shared.ensures)

pub returns : goal.returns
returns c = clash_last c.args.parameters.now c.args.types.now c.args.arguments.now c.loop-index.index
    c.loop-index.clash _ c.loop-index-test.false c.requires.types c.requires.arguments c.loop-index.invariant.clash
