use Rattle.std.proofs.Common.{◌≡◌, ◌≤◌, map, List, length}
use Rattle.syntax.specs.private.Machine.{ParserState, some_exprs}
use Rattle.syntax.specs.private.ParserViews.{ahead}
use Rattle.syntax.specs.Below.{expr_tree, ExprTree}
use Rattle.syntax.proofs.MachineSteps.{further}
use Rattle.syntax.proofs.parser.Parser.expressions.Given as goal

abbrev pub invariant-list : goal.invariant-list
invariant-list l = record {
  same : (k : List ExprTree → ParserState) → ahead (some_exprs l.end k) l.fn.self
      ≡ ahead (further l.end (map expr_tree l.expressions.items) k) l.self;
  shorter : length l.self.rest.now ≤ length l.fn.self.rest.now;
}

abbrev pub decreases-list : goal.decreases-list
decreases-list l = length l.self.rest.now
