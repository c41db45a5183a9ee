-- The row of the operation, of what is known of its registers.
use Rattle.std.proofs.Common.{ap, ap₂, ◌∙◌}
use Rattle.certified_runs.specs.Bits.{divide_unknown, immediate_unknown, multiply_unknown, partly}
use Rattle.certified_runs.specs.Bits.{register_unknown, unless}
use Rattle.certified_runs.specs.Known.{with_register_unknown}
use Rattle.certified_runs.specs.Parts.{register_masks}
use Rattle.certified_runs.proofs.changes.change.Goals as goal

pub returns-in-Immediate-clause-registers : goal.returns-in-Immediate-clause-registers
returns-in-Immediate-clause-registers g c = λ bytes.
    rw c.in-Immediate.is (c.set_register-in-Immediate.ensures.registers
    ∙ ap (with_register_unknown (register_masks c.args.known.now.registers) c.in-Immediate.rd)
    (c.immediate_unknown.ensures ∙ ap₂ (immediate_unknown c.in-Immediate.operation) (c.part.ensures bytes)
    (c.new-b.ensures ∙ ap (partly 0) c.word.ensures)))

pub returns-in-Register-clause-registers : goal.returns-in-Register-clause-registers
returns-in-Register-clause-registers g c = λ bytes.
    rw c.in-Register.is (c.set_register-in-Register.ensures.registers
    ∙ ap (with_register_unknown (register_masks c.args.known.now.registers) c.in-Register.rd)
    (c.unless.ensures ∙ ap₂ unless c.is_constant.ensures (c.register_unknown-mask.ensures
    ∙ ap₂ (register_unknown c.in-Register.operation) (c.part-in-Register.ensures bytes)
    (c.part-in-Register-2.ensures bytes))))

pub returns-in-Multiply-clause-registers : goal.returns-in-Multiply-clause-registers
returns-in-Multiply-clause-registers g c = λ bytes.
    rw c.in-Multiply.is (c.set_register-in-Multiply.ensures.registers
    ∙ ap (with_register_unknown (register_masks c.args.known.now.registers) c.in-Multiply.rd)
    (c.multiply_unknown-mask.ensures ∙ ap₂ (multiply_unknown c.in-Multiply.operation)
    (c.part-in-Multiply.ensures bytes) (c.part-in-Multiply-2.ensures bytes)))

pub returns-in-Divide-clause-registers : goal.returns-in-Divide-clause-registers
returns-in-Divide-clause-registers g c = λ bytes.
    rw c.in-Divide.is (c.set_register-in-Divide.ensures.registers
    ∙ ap (with_register_unknown (register_masks c.args.known.now.registers) c.in-Divide.rd)
    (c.divide_unknown-mask.ensures ∙ ap₂ (divide_unknown c.in-Divide.operation)
    (c.part-in-Divide.ensures bytes) (c.part-in-Divide-2.ensures bytes)))
