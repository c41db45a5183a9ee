use Rattle.syntax.proofs.parser.Parser.array_parameter.Goals as goal

pub returns-clause-leads : goal.returns-clause-leads
returns-clause-leads c = λ k. simp c.in_ok-length.ensures.leads (c.parameter_name.ensures.leads k)
