use Rattle.std.proofs.Common.{refl, sym, ◌∙◌}
use Rattle.commands.specs.WrappedCode.{is_elf, not_read}
use Rattle.commands.proofs.CodeLemmas.{elf_whole}
use Rattle.language.proofs.Handed.{handed_on}
use Rattle.commands.proofs.foreign_code.code_of.Goals as goal

pub returns-in_err-code-clause-refused : goal.returns-in_err-code-clause-refused
returns-in_err-code-clause-refused g c = λ tells.
    handed_on _ _ c.from_residual.ensures.1 (not_read c.in_err-code.ensures.fault)

pub returns-in_err-code-clause-counted : goal.returns-in_err-code-clause-counted
returns-in_err-code-clause-counted g c = handed_on _ _ c.from_residual.ensures.1 c.in_err-code.ensures.counted

pub returns-then-begins_as_elf-clause-refused : goal.returns-then-begins_as_elf-clause-refused
returns-then-begins_as_elf-clause-refused g c = λ tells.
    let begun = c.in_ok-code.ensures.begins tells in
    is_elf begun.held (sym (elf_whole begun.whole c.in_ok-code.code.items begun.begun)
    ∙ (rw c.as_slice.ensures.value at (sym c.begins_as_elf.ensures ∙ c.if-begins_as_elf.true))) refl

pub returns-clause-no_elf : goal.returns-clause-no_elf
returns-clause-no_elf g c = rw c.as_slice.ensures.value at (sym c.begins_as_elf.ensures ∙ c.if-begins_as_elf.false)

pub returns-clause-begins : goal.returns-clause-begins
returns-clause-begins g c = c.in_ok-code.ensures.begins
