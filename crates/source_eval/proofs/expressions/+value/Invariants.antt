use Rattle.std.proofs.Common.{◌+◌, ◌*◌}
use Rattle.source_eval.proofs.expressions.+value.Given as goal

-- each way from an expression to itself counts a node
abbrev pub decreases-value : goal.decreases-value
decreases-value l = 2 * l.left.now

abbrev pub decreases-binary_value : goal.decreases-binary_value
decreases-binary_value l = 2 * l.left.now + 1

abbrev pub decreases-select_value : goal.decreases-select_value
decreases-select_value l = 2 * l.left.now + 1
