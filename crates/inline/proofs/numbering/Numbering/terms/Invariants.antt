use Rattle.std.proofs.Common.{◌≡◌, map, take}
use Rattle.inline.proofs.numbering.Numbering.terms.Given as goal
use Rattle.inline.specs.Flat.{term_tree}
use Rattle.inline.specs.Numbering.{term}
use Rattle.inline.specs.Below.{expr_tree}

-- the expressions before this one are done
abbrev pub invariant-loop-expr : goal.invariant-loop-expr
invariant-loop-expr l =
    map term_tree l.terms.items ≡ map (term l.self.names) (map expr_tree (take l.expr-index l.exprs))
