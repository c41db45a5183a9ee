use Rattle.std.proofs.Common.{◌≡◌, ◌≤◌, length, ◌+◌, ◌*◌}
use Rattle.syntax.specs.private.Machine.{ParserState, more}
use Rattle.syntax.specs.private.ParserViews.{ahead}
use Rattle.syntax.specs.Below.{expr_tree, ExprTree}
use Rattle.syntax.proofs.parser.Parser.+expression.Given as goal

abbrev pub decreases-expression : goal.decreases-expression
decreases-expression l = 8 * length l.self.now.rest.now + 2

abbrev pub decreases-further : goal.decreases-further
decreases-further l = 8 * length l.self.now.rest.now + 2

abbrev pub decreases-joined : goal.decreases-joined
decreases-joined l = 8 * length l.self.now.rest.now + 3

abbrev pub decreases-operand : goal.decreases-operand
decreases-operand l = 8 * length l.self.now.rest.now + 1

abbrev pub decreases-operand_from : goal.decreases-operand_from
decreases-operand_from l = 8 * length l.self.now.rest.now + 6

abbrev pub decreases-named : goal.decreases-named
decreases-named l = 8 * length l.self.now.rest.now + 4

abbrev pub decreases-expression_to : goal.decreases-expression_to
decreases-expression_to l = 8 * length l.self.now.rest.now + 3

abbrev pub decreases-part_to : goal.decreases-part_to
decreases-part_to l = 8 * length l.self.now.rest.now + 4

abbrev pub decreases-conversion : goal.decreases-conversion
decreases-conversion l = 8 * length l.self.now.rest.now + 4

abbrev pub decreases-select : goal.decreases-select
decreases-select l = 8 * length l.self.now.rest.now + 5

abbrev pub invariant-further-loop-left : goal.invariant-further-loop-left
invariant-further-loop-left l = record {
  same : (k : ExprTree → ParserState) → ahead (more l.level 11 (expr_tree l.fn.first) k) l.fn.self
      ≡ ahead (more l.level l.top (expr_tree l.left) k) l.self;
  shorter : length l.self.rest.now ≤ length l.fn.self.rest.now;
}

abbrev pub decreases-further-loop-left : goal.decreases-further-loop-left
decreases-further-loop-left l = length l.self.rest.now
