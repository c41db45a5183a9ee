-- The code that clears registers, one after another.
use Rattle.std.specs.Prelude.{not}
use Rattle.std.proofs.Common.{ℕ, Bool, [], length, refl, ap}
use Rattle.expression_code.proofs.program_logic_lemmas.Counted.{Runs, Setting, silent_runs}
use Rattle.linked_calls.proofs.Below.{after_all, AreCleared, clear_registers_code, Data, IsSilent, register_kept}
use Rattle.linked_calls.proofs.Below.{RegistersAreCleared, scratch_registers}
use Rattle.linked_calls.proofs.SameRegisters.{all_same, is_none, is_none_of, same_values}
use Rattle.linked_calls.proofs.Pieces.{does, placed}

abbrev is_scratch : ℕ → Bool
is_scratch q = not (is_none scratch_registers q)

pub clear_runs : (z : Setting) {P : Data → Type 0} → Runs z (length scratch_registers)
    (clear_registers_code scratch_registers) P (AreCleared scratch_registers)
clear_runs z =
    let is = clear_registers_code scratch_registers in
    silent_runs z is_scratch is [] refl tt (λ s given. tt)
    (λ s given. record {
      zero = all_same (after_all is [] s).regs (λ r. 0) scratch_registers
          (same_values (after_all is [] s).regs (λ r. 0) scratch_registers refl);
      others = λ q all. register_kept is_scratch is [] s q refl (ap not (is_none_of scratch_registers q all));
      bytes = refl;
    })

pub registers_are_cleared : RegistersAreCleared
registers_are_cleared code start there =
    let z : Setting = record { code = code; allowed = IsSilent; silent = λ sp. refl } in
    let is = clear_registers_code scratch_registers in
    does z start is (placed code start is there) (clear_runs z)
