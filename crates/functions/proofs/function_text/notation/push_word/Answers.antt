use Rattle.std.proofs.lemmas.Option.{none-some}
use Rattle.std.proofs.lemmas.Result.{on_ok_weaker}
use Rattle.functions.specs.function_text.AssemblerText.{of_instruction, of_no_instruction}
use Rattle.functions.proofs.function_text.notation.push_word.Goals as goal

pub returns-in-Some : goal.returns-in-Some
returns-in-Some c =
    let i = c.in-Some.instruction in
    let is = c.in-Some.ensures.found in
    on_ok_weaker c.push_code_line.result (λ told. (_, of_instruction i is.0 is.1, told)) c.push_code_line.ensures

pub returns-in-None : goal.returns-in-None
returns-in-None c =
    on_ok_weaker c.push_illegal_line.result
    (λ told. (_, of_no_instruction (λ i in_range is. none-some _ (c.in-None.ensures.only i in_range is)), told))
    c.push_illegal_line.ensures
