use Rattle.std.proofs.Common.{rules, refl, ap, arith}
use Rattle.codegen.specs.Below.{depth_in, depth_in_all, height_in, height_in_all, straight_block}
use Rattle.branch_removal.proofs.StatementTrees.{tree_of_branch, tree_of_loop, accepted_smaller, otherwise_smaller}
use Rattle.branch_removal.proofs.StatementTrees.{body_smaller, item_here, smaller_here}
use Rattle.codegen.proofs.heights.+extents.Goals as goal

pub extent_of-extent_of_all-one-requires : goal.extent_of-extent_of_all-one-requires
extent_of-extent_of_all-one-requires t c =
    let b = c.in-Branch in
    let tree = tree_of_branch b.accepted b.otherwise b.is c.deref-in-Branch.ensures.value refl in (
      search (rules, accepted_smaller b.accepted b.otherwise b.is c.deref-in-Branch.ensures.value refl),
      (omega (arith, ap height_in tree, c.requires.height), omega (arith, ap depth_in tree, c.requires.depth)),
    )

pub extent_of-extent_of_all-other-requires : goal.extent_of-extent_of_all-other-requires
extent_of-extent_of_all-other-requires t c =
    let b = c.in-Branch in
    let tree = tree_of_branch b.accepted b.otherwise b.is refl c.deref-in-Branch-2.ensures.value in (
      search (rules, otherwise_smaller b.accepted b.otherwise b.is refl c.deref-in-Branch-2.ensures.value),
      (omega (arith, ap height_in tree, c.requires.height), omega (arith, ap depth_in tree, c.requires.depth)),
    )

pub extent_of-extent_of_all-iteration-requires : goal.extent_of-extent_of_all-iteration-requires
extent_of-extent_of_all-iteration-requires t c =
    let tree = tree_of_loop c.in-Repeat.body c.in-Repeat.is c.deref-in-Repeat.ensures.value in (
      search (rules, body_smaller c.in-Repeat.body c.in-Repeat.is c.deref-in-Repeat.ensures.value),
      (omega (arith, ap height_in tree, c.requires.height), omega (arith, ap depth_in tree, c.requires.depth)),
    )

pub extent_of-overflow_add-result : goal.extent_of-overflow_add-result
extent_of-overflow_add-result t c =
    let tree = tree_of_loop c.in-Repeat.body c.in-Repeat.is c.deref-in-Repeat.ensures.value in
    omega (arith, ap depth_in tree, c.requires.depth, c.extent_of_all-iteration.ensures.depth)

pub extent_of-returns-in-Branch : goal.extent_of-returns-in-Branch
extent_of-returns-in-Branch t c =
    let b = c.in-Branch in
    let tree =
    tree_of_branch b.accepted b.otherwise b.is c.deref-in-Branch.ensures.value c.deref-in-Branch-2.ensures.value in
    record { height = omega (arith, ap height_in tree); depth = omega (arith, ap depth_in tree) }

pub extent_of-returns-in-Repeat : goal.extent_of-returns-in-Repeat
extent_of-returns-in-Repeat t c =
    let tree = tree_of_loop c.in-Repeat.body c.in-Repeat.is c.deref-in-Repeat.ensures.value in
    record { height = omega (arith, ap height_in tree); depth = omega (arith, ap depth_in tree) }

pub extent_of_all-extent_of-one-requires : goal.extent_of_all-extent_of-one-requires
extent_of_all-extent_of-one-requires t c =
    let s = c.statement-item.result in
    let l = c.loop-statement in
    let i = l.statement-index in
    let here = item_here c.args.statements.now i s c.loop-statement-test.true c.statement-item.is in (
      search (rules, smaller_here c.args.statements.now i s here),
      (
        omega (
          arith,
          ap (λ xs. height_in_all (straight_block xs)) here,
          l.invariant.height,
          c.requires.height,
        ),
        omega (arith, ap (λ xs. depth_in_all (straight_block xs)) here, l.invariant.depth, c.requires.depth),
      ),
    )
