use Rattle.syntax.proofs.parser.Parser.parameter.Goals as goal

pub returns-clause-leads : goal.returns-clause-leads
returns-clause-leads c = λ k. simp c.in_ok-label.ensures.leads (c.labelled.ensures.leads k)
