use Rattle.std.proofs.Common.{◌≡◌, ◌+◌, drop, max}
use Rattle.inline.specs.Measured.{counted_size}
use Rattle.inline.specs.Measured.{block_size, extents_in}
use Rattle.inline.specs.Below.{block_bodies, block_nodes, block_tree, block_words}
use Rattle.inline.proofs.sizes.+sizes.Given as goal

-- the size so far is counted, and with that of the statements left it is the size of all
abbrev pub invariant-size_of_block-loop-statement : goal.invariant-size_of_block-loop-statement
invariant-size_of_block-loop-statement l =
    let known = extents_in l.earlier in
    let left = block_tree (drop l.statement-index l.block) in
    (l.size ≡ counted_size l.size.nodes l.size.words l.size.bodies)
    × (counted_size (l.size.nodes + block_nodes known left) (l.size.words + block_words known left)
    (max l.size.bodies (block_bodies known left)) ≡ block_size known (block_tree l.block))
