use Rattle.std.proofs.Common.{arith}
use Rattle.expression_code.proofs.Places.{kind_listed}
use Rattle.expression_code.proofs.layout.Layout.kind.Goals as goal

-- src/expression_code/layout.rt:94:5
pub returns : goal.returns
returns c = grind (arith, kind_listed, c.self.view_is, c.requires)
