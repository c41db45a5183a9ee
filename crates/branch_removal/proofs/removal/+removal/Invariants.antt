use Rattle.std.proofs.Common.{◌≡◌, ◌+◌, ◌*◌, ◌^◌, ◌<◌, drop}
use Rattle.branch_removal.specs.Below.{body_nodes, flat_block, flat_tree, tree_nodes}
use Rattle.branch_removal.specs.private.Removal.{removed_all, controls_in_all}
use Rattle.branch_removal.specs.Straight.{straight_block, chain}
use Rattle.branch_removal.proofs.removal.+removal.Given as goal

-- the code so far and that of what is left are the code of all statements
abbrev pub invariant-push_removed_all-loop-statement : goal.invariant-push_removed_all-loop-statement
invariant-push_removed_all-loop-statement l =
    let rest = flat_block (drop l.statement-index l.body) in
    record {
      code : chain (straight_block l.code.items) (removed_all l.within l.control rest)
          ≡ chain (straight_block l.fn.code.items) (removed_all l.fn.within l.fn.control (flat_block l.fn.body));
      numbered : l.control + controls_in_all rest < 2 ^ 32;
      within : l.within ≡ l.fn.within;
      control : l.control ≡ l.fn.control;
    }

-- Each call is for a part of what it is called in; the code that is made grows.

abbrev pub decreases-push_removed : goal.decreases-push_removed
decreases-push_removed l = 4 * tree_nodes (flat_tree l.statement.now)

abbrev pub decreases-push_removed_all : goal.decreases-push_removed_all
decreases-push_removed_all l = 4 * body_nodes (flat_block l.body.now) + 1

abbrev pub decreases-part : goal.decreases-part
decreases-part l = 4 * body_nodes (flat_block l.body.now) + 2

abbrev pub decreases-push_secret : goal.decreases-push_secret
decreases-push_secret l = 4 * (body_nodes (flat_block l.accepted.now) + body_nodes (flat_block l.otherwise.now)) + 3

abbrev pub decreases-push_public : goal.decreases-push_public
decreases-push_public l = 4 * (body_nodes (flat_block l.accepted.now) + body_nodes (flat_block l.otherwise.now)) + 3
