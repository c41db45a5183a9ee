use Rattle.syntax.proofs.parser.Parser.arguments.Goals as goal

pub returns-clause-leads : goal.returns-clause-leads
returns-clause-leads c = λ k.
    simp (c.in_ok-skips.ensures.leads, c.if-branch.false) (c.expressions.ensures.leads k)
