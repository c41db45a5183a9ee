use Rattle.std.proofs.Common.{◌≡◌, ◌≤◌, map, List, length}
use Rattle.syntax.specs.private.Machine.{ParserState, parameters}
use Rattle.syntax.specs.private.ParserViews.{ahead}
use Rattle.syntax.specs.Below.{parameter_tree, ParameterTree}
use Rattle.syntax.proofs.MachineSteps.{further_parameter}
use Rattle.syntax.proofs.parser.Parser.parameters.Given as goal

abbrev pub invariant-list : goal.invariant-list
invariant-list l = record {
  same : (k : List ParameterTree → ParserState)
      → ahead (parameters k) l.fn.self ≡ ahead (further_parameter (map parameter_tree l.parameters.items) k) l.self;
  shorter : length l.self.rest.now ≤ length l.fn.self.rest.now;
}

abbrev pub decreases-list : goal.decreases-list
decreases-list l = length l.self.rest.now
