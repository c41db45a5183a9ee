use Rattle.std.proofs.Common.{◌≡◌, map, take}
use Rattle.straight_words.specs.Below.{term_tree}
use Rattle.straight_words.specs.private.Rewriting.{rewritten}
use Rattle.straight_words.proofs.rewriting.terms.all_rewritten.Given as goal

-- the expressions before this one are done
abbrev pub invariant-loop-term : goal.invariant-loop-term
invariant-loop-term g l = map term_tree l.made.items
    ≡ map (rewritten (g.R.Rewriting.rule l.rewriting)) (map term_tree (take l.term-index l.terms))
