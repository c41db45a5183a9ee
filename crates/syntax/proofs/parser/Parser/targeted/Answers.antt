use Rattle.syntax.proofs.parser.Parser.targeted.Goals as goal

pub returns-in-Some-clause-leads : goal.returns-in-Some-clause-leads
returns-in-Some-clause-leads c = λ k. simp (c.in_ok-sign.ensures.leads, c.in-Some.is) (c.assigned.ensures.leads k)

pub returns-in-None-clause-leads : goal.returns-in-None-clause-leads
returns-in-None-clause-leads c = λ k. simp (c.in_ok-sign.ensures.leads, c.in-None.is) (c.unassigned.ensures.leads k)
