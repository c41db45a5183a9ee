use Rattle.syntax.proofs.parser.Parser.unassigned.Goals as goal

pub returns-in-Some-clause-leads : goal.returns-in-Some-clause-leads
returns-in-Some-clause-leads c = λ k.
    simp (c.in_ok-opening.ensures.leads, c.in-Some.is) (c.element_assigned.ensures.leads k)

pub returns-in-None-clause-leads : goal.returns-in-None-clause-leads
returns-in-None-clause-leads c = λ k.
    simp (c.in_ok-opening.ensures.leads, c.in-None.is) (c.called_alone.ensures.leads k)
