use Rattle.std.proofs.Common.{◌≡◌, drop}
use Rattle.language.specs.Tree.{block_tree}
use Rattle.language.specs.Typing.{block_assigns}
use Rattle.language.proofs.scopes.effects.+effect.Given as goal

-- the statements so far assign to nothing public
abbrev pub invariant-block_assigns-loop-one : goal.invariant-block_assigns-loop-one
invariant-block_assigns-loop-one l =
    block_assigns l.names (block_tree (drop l.one-index l.statements))
    ≡ block_assigns l.names (block_tree l.statements)
