use Rattle.std.proofs.Common.{None, Some}
use Rattle.explanations.specs.Below.{program_tree}
use Rattle.explanations.specs.refusal_details.Details.{read}
use Rattle.explanations.proofs.refusal_details_lemmas.DetailLemmas.{no_program, where_ok}
use Rattle.explanations.proofs.refusal_details.programs.call_lines.Goals as goal

pub returns-in-Ok : goal.returns-in-Ok
returns-in-Ok c =
    where_ok c.calls_line.result (λ line is. (Some (program_tree c.in-Ok.program), read c.in-Ok.ensures.accepted, is))
    c.calls_line.ensures

pub returns-in-Some : goal.returns-in-Some
returns-in-Some c =
    let none = no_program c.args.source.now c.in-Err.refusal c.in-Some.field-0 c.in-Some.is c.in-Err.ensures.refused in
    (None, none, c.new.ensures.bytes)
