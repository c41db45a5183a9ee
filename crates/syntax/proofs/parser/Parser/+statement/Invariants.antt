use Rattle.std.proofs.Common.{◌≡◌, ◌≤◌, length, ◌+◌, ◌*◌}
use Rattle.syntax.specs.private.Machine.{ParserState, statements}
use Rattle.syntax.specs.private.ParserViews.{ahead}
use Rattle.syntax.specs.Below.{BlockTree}
use Rattle.syntax.proofs.StatementSteps.{followed_by}
use Rattle.syntax.proofs.parser.Parser.+statement.Given as goal

abbrev pub decreases-statements : goal.decreases-statements
decreases-statements l = 8 * length l.self.now.rest.now + 1

abbrev pub decreases-statement : goal.decreases-statement
decreases-statement l = 8 * length l.self.now.rest.now + 5

abbrev pub decreases-conditional : goal.decreases-conditional
decreases-conditional l = 8 * length l.self.now.rest.now + 4

abbrev pub decreases-counted : goal.decreases-counted
decreases-counted l = 8 * length l.self.now.rest.now + 4

abbrev pub decreases-block : goal.decreases-block
decreases-block l = 8 * length l.self.now.rest.now + 2

abbrev pub decreases-otherwise : goal.decreases-otherwise
decreases-otherwise l = 8 * length l.self.now.rest.now + 3

abbrev pub decreases-after_else : goal.decreases-after_else
decreases-after_else l = 8 * length l.self.now.rest.now + 4

abbrev pub invariant-statements-loop-statements : goal.invariant-statements-loop-statements
invariant-statements-loop-statements l = record {
  same : (k : BlockTree → ParserState) → ahead (statements k) l.fn.self
      ≡ ahead (statements (λ b. k (followed_by l.statements.items b))) l.self;
  shorter : length l.self.rest.now ≤ length l.fn.self.rest.now;
}

abbrev pub decreases-statements-loop-statements : goal.decreases-statements-loop-statements
decreases-statements-loop-statements l = length l.self.rest.now
