use Rattle.std.proofs.Common.{◌≡◌, ◌++◌, ◌+◌, ◌*◌, ◌≤◌, length}
use Rattle.codegen.proofs.Machine.{block_code, HavePlaces}
use Rattle.codegen.proofs.Language.{statement_nodes, block_nodes, straight_tree, straight_block}
use Rattle.codegen.proofs.statements.+statements.Given as goal

-- the code so far and that of what is left, which is no longer, are the code of all statements
abbrev pub invariant-statements-loop-each : goal.invariant-statements-loop-each
invariant-statements-loop-each l =
    let rest = straight_block l.rest in
    let all = straight_block l.fn.statements in
    record {
      code : l.code.items ++ block_code l.layout l.depth rest
          ≡ l.fn.code.items ++ block_code l.fn.layout l.fn.depth all;
      shorter : length (block_code l.layout l.depth rest) ≤ length (block_code l.fn.layout l.fn.depth all);
      fewer : block_nodes rest ≤ block_nodes all;
      placed : HavePlaces l.layout l.depth rest;
      layout : l.layout ≡ l.fn.layout;
      depth : l.depth ≡ l.fn.depth;
    }

abbrev pub decreases-statements-loop-each : goal.decreases-statements-loop-each
decreases-statements-loop-each l = length l.rest

-- Each call is for a part of what it is called in.

abbrev pub decreases-statement : goal.decreases-statement
decreases-statement l = 2 * statement_nodes (straight_tree l.statement.now)

abbrev pub decreases-statements : goal.decreases-statements
decreases-statements l = 2 * block_nodes (straight_block l.statements.now) + 1
