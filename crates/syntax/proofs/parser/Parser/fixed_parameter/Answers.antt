use Rattle.syntax.proofs.parser.Parser.fixed_parameter.Goals as goal

pub returns-then-branch-clause-leads : goal.returns-then-branch-clause-leads
returns-then-branch-clause-leads c = λ k.
    simp (c.in_ok-kind.ensures.leads, c.in_ok-skips.ensures.leads, c.if-branch.true) (c.array_parameter.ensures.leads k)

pub returns-clause-leads : goal.returns-clause-leads
returns-clause-leads c = λ k.
    simp (c.in_ok-kind.ensures.leads, c.in_ok-skips.ensures.leads, c.if-branch.false) (c.parameter_name.ensures.leads k)
