use Rattle.std.proofs.Common.{rules}
use Rattle.language.specs.arguments.Texts.{rule_of_text}
use Rattle.language.proofs.arguments.texts.first_fault.Goals as goal

pub returns : goal.returns
returns c = c.first_fault_by.ensures (λ param text. rule_of_text param text.now) (λ param text broken is. search rules)
