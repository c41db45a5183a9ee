use Rattle.std.proofs.Common.{◌≡◌, codes}
use Rattle.std.specs.String.{string_bytes}
use Rattle.std.proofs.lemmas.Option.{none-some}
use Rattle.std.proofs.lemmas.Result.{IfOk-weaker}
use Rattle.elf_reports.specs.Below.{text_of}
use Rattle.elf_reports.specs.EncodingLines.{IsTextOfHalfword, of_instruction, of_no_instruction}
use Rattle.elf_reports.proofs.encoding_lines.text_of.Goals as goal

pub returns-in-Some : goal.returns-in-Some
returns-in-Some c =
    let i = c.in-Some.instruction in
    IfOk-weaker c.format.result (λ s. string_bytes s ≡ text_of i)
    (λ s. IsTextOfHalfword c.args.halfword (string_bytes s))
    (λ s is. rw is (of_instruction i c.in-Some.ensures.found)) c.format.ensures.ok

pub returns-in-None : goal.returns-in-None
returns-in-None c =
    IfOk-weaker c.from_str.result (λ s. string_bytes s ≡ codes "illegal")
    (λ s. IsTextOfHalfword c.args.halfword (string_bytes s))
    (λ s is. rw is (of_no_instruction (λ i means. none-some _ (c.in-None.ensures.only i means))))
    c.from_str.ensures.ok
