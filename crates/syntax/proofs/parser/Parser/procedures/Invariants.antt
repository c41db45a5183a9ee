use Rattle.std.proofs.Common.{◌≡◌, map, length}
use Rattle.syntax.specs.private.Machine.{program, procedures}
use Rattle.syntax.specs.private.ParserViews.{ahead}
use Rattle.syntax.specs.Below.{procedure_tree}
use Rattle.syntax.proofs.parser.Parser.procedures.Given as goal

abbrev pub invariant-loop-self : goal.invariant-loop-self
invariant-loop-self l = ahead program l.fn.self ≡ ahead (procedures (map procedure_tree l.procedures.items)) l.self

abbrev pub decreases-loop-self : goal.decreases-loop-self
decreases-loop-self l = length l.self.rest.now
