use Rattle.std.proofs.Common.{refl}
use Rattle.explanations.specs.Listed.{reading, names, types, names_and_types, labels, limits, inputs, executables, files}
use Rattle.explanations.specs.Listed.{runs, listed}
use Rattle.explanations.proofs.DistinctTexts.{differs, all_differ, are_distinct}
use Rattle.explanations.proofs.lookup.codes.Goals as goal

pub returns-clause-all : goal.returns-clause-all
unfolding listed reading names types names_and_types labels limits inputs executables files runs
returns-clause-all c = refl

pub returns-clause-once : goal.returns-clause-once
unfolding listed reading names types names_and_types labels limits inputs executables files runs all_differ differs
returns-clause-once c = are_distinct listed refl
