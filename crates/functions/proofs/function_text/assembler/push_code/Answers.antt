use Rattle.std.proofs.Common.{◌+◌, ◌++◌, ◌∙◌, ap, drop, refl, sym}
use Rattle.std.proofs.lemmas.List.{at_drop_all}
use Rattle.std.specs.String.{string_bytes}
use Rattle.functions.specs.function_text.AssemblerText.{behind, code_lines, instruction_lines}
use Rattle.functions.proofs.Steps.{all_made, next_item, one_more}
use Rattle.functions.proofs.function_text.assembler.push_code.Goals as goal

pub loop-instruction-preserved : goal.loop-instruction-preserved
loop-instruction-preserved c =
    let l = c.loop-instruction in
    let code = c.args.code.now in
    let instruction = c.instruction-item.result in
    let next = next_item code l.instruction-index instruction c.loop-instruction-test.true c.instruction-item.is in
    let rest = drop (l.instruction-index + 1) code in
    let lines = code_lines c.args.notation c.args.name.now c.args.image.now c.args.section in
    let front = instruction_lines c.args.notation c.args.name.now c.args.image.now c.args.section l.at instruction in (
      one_more (lines l.at) code l.instruction-index instruction front (lines c.next_position-at.result rest)
          (string_bytes l.text) _ _ next (ap (λ at. front ++ lines at rest) (sym c.next_position-at.ensures))
          c.in_ok-push_instruction.ensures l.invariant.0,
      ap (λ at. behind at rest) c.next_position-at.ensures ∙ ap (behind l.at) (sym next) ∙ l.invariant.1,
    )

pub returns-clause-written : goal.returns-clause-written
returns-clause-written c =
    let l = c.loop-instruction in
    all_made (code_lines c.args.notation c.args.name.now c.args.image.now c.args.section l.at) c.args.code.now
    l.instruction-index (string_bytes l.text) _ refl c.loop-instruction-test.false l.invariant.0

pub returns-clause-ends : goal.returns-clause-ends
returns-clause-ends c =
    let l = c.loop-instruction in
    sym (at_drop_all (behind l.at) c.args.code.now l.instruction-index c.loop-instruction-test.false) ∙ l.invariant.1
