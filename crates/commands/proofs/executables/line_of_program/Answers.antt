use Rattle.std.proofs.Common.{◌∙◌, sym}
use Rattle.std.proofs.lemmas.Result.{IfOk-weaker}
use Rattle.commands.specs.Below.{IsLineOfEncoding}
use Rattle.commands.specs.Executables.{IsLineOrNothing, of_encoding, of_nothing}
use Rattle.commands.proofs.executables.line_of_program.Goals as goal

pub returns-in-Some : goal.returns-in-Some
returns-in-Some c =
    IfOk-weaker c.encoding_line.result (λ line. IsLineOfEncoding c.args.address c.in-Some.encoding line.items)
    (λ line. IsLineOrNothing c.args.program.now c.args.address line.items)
    (λ line is. of_encoding (sym c.in_ok-encoding.ensures ∙ c.in-Some.is) is) c.encoding_line.ensures

pub returns-in-None : goal.returns-in-None
returns-in-None c = rw c.new.ensures.items (of_nothing (sym c.in_ok-encoding.ensures ∙ c.in-None.is))
