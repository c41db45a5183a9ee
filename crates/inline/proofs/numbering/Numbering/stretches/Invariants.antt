use Rattle.std.proofs.Common.{◌≡◌, ◌++◌, drop, length}
use Rattle.inline.proofs.numbering.Numbering.stretches.Given as goal
use Rattle.inline.specs.Callees.{called_by}
use Rattle.inline.specs.Flat.{chain, flat_block}
use Rattle.inline.specs.Numbering.{block, names_after_all, declared_in_all, stretches}
use Rattle.inline.specs.Below.{block_tree}

-- what is done and what is left make the whole block, with the same stretches, names and variables after it
abbrev pub invariant-loop-statement : goal.invariant-loop-statement
invariant-loop-statement l =
    let known = called_by l.earlier in
    let rest = block_tree (drop l.statement-index l.block) in
    let all = block_tree l.block in
    record {
      stretches : l.all.items ++ stretches known l.self.names (length l.declared.items) rest
          ≡ stretches known l.fn.self.names (length l.fn.declared.items) all;
      block : chain (flat_block l.flat.items) (block known l.self.names (length l.declared.items) rest)
          ≡ chain (flat_block l.fn.flat.items) (block known l.fn.self.names (length l.fn.declared.items) all);
      names : names_after_all known l.self.names (length l.declared.items) rest
          ≡ names_after_all known l.fn.self.names (length l.fn.declared.items) all;
      declared : l.declared.items ++ declared_in_all known rest ≡ l.fn.declared.items ++ declared_in_all known all;
    }
