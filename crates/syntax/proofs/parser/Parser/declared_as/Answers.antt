use Rattle.syntax.proofs.parser.Parser.declared_as.Goals as goal

pub returns-then-branch-clause-leads : goal.returns-then-branch-clause-leads
returns-then-branch-clause-leads c = λ k.
    simp (
      c.in_ok-kind.ensures.leads,
      c.in_ok-skips.ensures.leads,
      c.if-branch.true,
      c.in_ok-length.ensures.leads,
    ) (c.declared_array.ensures.leads k)

pub returns-clause-leads : goal.returns-clause-leads
returns-clause-leads c = λ k.
    simp (c.in_ok-kind.ensures.leads, c.in_ok-skips.ensures.leads, c.if-branch.false)
    (c.declared_word.ensures.leads k)
