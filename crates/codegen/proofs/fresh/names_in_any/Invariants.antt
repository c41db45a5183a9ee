use Rattle.std.proofs.Common.{◌≡◌, drop, map}
use Rattle.codegen.specs.private.Fresh.{names_in_any}
use Rattle.codegen.specs.Below.{term_tree}
use Rattle.codegen.proofs.fresh.names_in_any.Given as goal

-- one of the expressions that are left names the variable where one of all does
abbrev pub invariant-loop-term : goal.invariant-loop-term
invariant-loop-term l =
    names_in_any l.variable (map term_tree (drop l.term-index l.terms))
    ≡ names_in_any l.variable (map term_tree l.fn.terms)
