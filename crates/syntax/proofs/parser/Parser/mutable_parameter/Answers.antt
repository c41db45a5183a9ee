use Rattle.syntax.proofs.parser.Parser.mutable_parameter.Goals as goal

pub returns-clause-leads : goal.returns-clause-leads
returns-clause-leads c = λ k.
    simp (c.in_ok-kind.ensures.leads, c.in_ok-pass.ensures.leads) (c.array_parameter.ensures.leads k)
