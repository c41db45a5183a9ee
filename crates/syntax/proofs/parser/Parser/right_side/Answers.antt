use Rattle.syntax.proofs.parser.Parser.right_side.Goals as goal

pub returns-in-Some-clause-leads : goal.returns-in-Some-clause-leads
returns-in-Some-clause-leads c = λ k.
    simp (c.in_ok-name.ensures.leads, c.in-Some.is) (c.right_side_from.ensures.leads k)
