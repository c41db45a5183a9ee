use Rattle.syntax.specs.private.Machine.{declared_as}
use Rattle.syntax.proofs.ParserSteps.{either_way}
use Rattle.syntax.proofs.parser.Parser.declared.Goals as goal

pub returns-clause-leads : goal.returns-clause-leads
returns-clause-leads c = λ k.
    simp (
      c.in_ok-mutable.ensures.leads,
      either_way c.in_ok-mutable.mutable (λ mutable. declared_as c.args.label mutable k),
    ) (c.declared_as.ensures.leads k)
