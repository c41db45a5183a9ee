use Rattle.std.proofs.Common.{◌≡◌, ℕ, drop, fold, map, List, Option}
use Rattle.inline.specs.Measured.{extents_in}
use Rattle.inline.specs.Below.{block_tree, counted_share, larger, Share, Statement, statement_bodies, statement_bytes}
use Rattle.inline.specs.Below.{statement_nodes, statement_shares, StatementTree}
use Rattle.inline.proofs.costs.largest_statements.Given as goal

-- the largest of some statements and of the parts before them
abbrev from : (StatementTree → ℕ) → Option Share → List Statement → Option Share
from count before statements =
    fold larger before (map counted_share (statement_shares count (block_tree statements)))

-- what is kept so far and the statements left give what all give
abbrev pub invariant-loop-statement : goal.invariant-loop-statement
invariant-loop-statement l =
    let known = extents_in l.earlier in
    let left = drop l.statement-index l.block in
    (from (statement_nodes known) l.most.nodes left ≡ from (statement_nodes known) l.fn.before.nodes l.block)
    × (from (statement_bodies known) l.most.bodies left ≡ from (statement_bodies known) l.fn.before.bodies l.block)
    × (from (statement_bytes known) l.most.declared_bytes left
    ≡ from (statement_bytes known) l.fn.before.declared_bytes l.block)
