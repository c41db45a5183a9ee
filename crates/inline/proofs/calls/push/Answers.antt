use Rattle.std.proofs.Common.{ap, ◌∙◌}
use Rattle.inline.proofs.BlockLemmas.{pushed}
use Rattle.inline.proofs.calls.push.Goals as goal
use Rattle.inline.specs.Flat.{flat_block}

pub returns : goal.returns
returns c = ap flat_block c.in_ok-push.ensures.items ∙ pushed c.args.flat.now.items c.args.one
