use Rattle.std.proofs.Common.{arith}
use Rattle.expression_code.proofs.Places.{offset_found}
use Rattle.expression_code.proofs.layout.Layout.offset_at.Goals as goal

pub returns : goal.returns
returns c = grind (arith, offset_found, c.found.ensures, c.self.invariant.0, c.self.view_is, c.requires)
