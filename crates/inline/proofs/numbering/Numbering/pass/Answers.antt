use Rattle.std.proofs.Common.{refl}
use Rattle.inline.proofs.PassLemmas.{passes_next, passes_parameters, passes_arguments}
use Rattle.inline.proofs.numbering.Numbering.pass.Goals as goal

pub loop-index-init : goal.loop-index-init
loop-index-init c = record {
  all = record {
    block = refl;
    begins = rw c.new-own.ensures refl;
    declared = refl;
  };
}

pub loop-index-preserved : goal.loop-index-preserved
loop-index-preserved c =
    let l = c.loop-index in
    let argument = c.in-Some.ensures.lookup in
    let made = c.in_ok-pass_one.ensures in
    record {
      all = passes_next c.args.parameters.now c.args.arguments.now l.index c.index-parameters-index.result
          c.loop-index-test.true argument.3.0 c.index-parameters-index.is argument.1 made.block made.own made.declared l.invariant.all;
    }

pub returns-in_default : goal.returns-in_default
returns-in_default c =
    let l = c.loop-index in
    let end = passes_arguments c.args.parameters.now c.args.arguments.now l.index c.in_default.ensures.lookup.0
    l.invariant.all in
    record { block = end.0; own = end.1; declared = end.2 }

pub returns : goal.returns
returns c =
    let l = c.loop-index in
    let end = passes_parameters c.args.parameters.now c.args.arguments.now l.index c.loop-index-test.false
    l.invariant.all in
    record { block = end.0; own = end.1; declared = end.2 }
