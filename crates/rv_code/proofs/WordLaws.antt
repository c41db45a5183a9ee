-- Laws of the words: each instruction is read back from its word, so two instructions have two words.
use Rattle.std.proofs.Common.{◌≡◌, ℕ, Bool, true, false, cond, Option, Some, None, refl, sym, subst, ◌∙◌, ap}
use Rattle.std.proofs.Common.{◌%◌, ◌==◌, arith, lit<}
use Rattle.std.specs.Prelude.{nat_lt, slice_get}
use Rattle.std.specs.Option.{option_map}
use Rattle.rv_code.specs.declared.instructions.Instr.{Instr}
use Rattle.rv_code.specs.declared.instructions.Instr.TheVariants.{Upper, Jump, JumpRegister, Branch, Load, Store}
use Rattle.rv_code.specs.declared.instructions.Instr.TheVariants.{Immediate, Shift, Register, Multiply, Divide, Fence}
use Rattle.rv_code.specs.declared.instructions.Instr.TheVariants.{Ecall, Ebreak}
use Rattle.rv_code.specs.declared.operations.UpperOperation.TheVariants.{Lui, Auipc}
use Rattle.rv_code.proofs.FieldLaws.{r_fields, i_fields, s_fields, b_fields, u_fields, j_fields, fence_fields}
use Rattle.rv_code.proofs.RowLaws.{branch_law, load_law, store_law, immediate_law, shift_law, register_law}
use Rattle.rv_code.proofs.RowLaws.{multiply_law, divide_law}
use Rattle.rv_code.specs.Operations.{upper_row, branch_row, load_row, store_row, immediate_row, shift_row}
use Rattle.rv_code.specs.Operations.{register_row, multiply_row, divide_row}
use Rattle.rv_code.specs.Words.{word_of, IsInstr, op_imm_opcode, op_opcode, load_opcode, store_opcode, branch_opcode}
use Rattle.rv_code.specs.Words.{jal_opcode, jalr_opcode, misc_mem_opcode, system_opcode, muldiv_funct7, ecall_word}
use Rattle.rv_code.specs.private.Reading.{branch_at, load_at, store_at, immediate_at, shift_at, register_at}
use Rattle.rv_code.specs.private.Reading.{multiply_at, divide_at, opcode_at, funct3_at, funct7_at, rd_at, rs1_at}
use Rattle.rv_code.specs.private.Reading.{rs2_at, i_immediate_at, s_immediate_at, b_offset_at, u_immediate_at}
use Rattle.rv_code.specs.private.Reading.{j_offset_at, mode_at, before_at, after_at, shift_with, register_with}
use Rattle.rv_code.specs.private.Reading.{branch_tests, load_operations, store_operations, immediate_operations}
use Rattle.rv_code.specs.private.Reading.{multiply_operations, divide_operations}
pub use Rattle.rv_code.specs.private.Reading.{reading}

-- an instruction is read from its word
pub reading-word_of : (i : Instr) → IsInstr i → reading (word_of i) ≡ Some i
unfolding word_of reading branch_at load_at store_at immediate_at shift_at register_at multiply_at divide_at
reading-word_of (Upper Lui rd immediate) h =
    let f = u_fields (upper_row Lui).opcode rd immediate (lit< tt) h.0 h.1 in
    rw (f.0, f.1, f.2) refl
reading-word_of (Upper Auipc rd immediate) h =
    let f = u_fields (upper_row Auipc).opcode rd immediate (lit< tt) h.0 h.1 in
    rw (f.0, f.1, f.2) refl
reading-word_of (Jump rd offset) h =
    let f = j_fields jal_opcode rd offset (lit< tt) h.0 h.1 in
    rw (f.0, f.1, f.2) refl
reading-word_of (JumpRegister rd rs1 offset) h =
    let f = i_fields jalr_opcode 0 rd rs1 offset (lit< tt) (lit< tt) h.0 h.1 h.2 in
    rw (f.0, f.2, f.3, f.4) refl
reading-word_of (Branch test rs1 rs2 offset) h =
    let row = branch_law test in
    let f = b_fields branch_opcode (branch_row test).funct3 rs1 rs2 offset (lit< tt) row.0 h.0 h.1 h.2 in
    rw (f.0, f.1, row.1, f.2, f.3, f.4) refl
reading-word_of (Load operation rd rs1 offset) h =
    let row = load_law operation in
    let f = i_fields load_opcode (load_row operation).funct3 rd rs1 offset (lit< tt) row.0 h.0 h.1 h.2 in
    rw (f.0, f.1, row.1, f.2, f.3, f.4) refl
reading-word_of (Store operation rs2 rs1 offset) h =
    let row = store_law operation in
    let f = s_fields store_opcode (store_row operation).funct3 rs1 rs2 offset (lit< tt) row.0 h.1 h.0 h.2 in
    rw (f.0, f.1, row.1, f.2, f.3, f.4) refl
reading-word_of (Immediate operation rd rs1 immediate) h =
    let row = immediate_law operation in
    let f = i_fields op_imm_opcode (immediate_row operation).funct3 rd rs1 immediate (lit< tt) row.0.0 h.0 h.1 h.2 in
    rw (f.0, f.1, row.1, row.0.1, f.2, f.3, f.4) refl
reading-word_of (Shift operation rd rs1 amount) h =
    let row = shift_law operation in
    let f = r_fields op_imm_opcode (shift_row operation).funct3 (shift_row operation).funct7 rd rs1 amount (lit< tt)
    row.0 row.1 h.0 h.1 h.2 in
    rw (f.0, f.1, row.3, f.2, row.2, f.3, f.4, f.5) refl
reading-word_of (Register operation rd rs1 rs2) h =
    let row = register_law operation in
    let f = r_fields op_opcode (register_row operation).funct3 (register_row operation).funct7 rd rs1 rs2 (lit< tt)
    row.0 row.1 h.0 h.1 h.2 in
    rw (f.0, f.2, row.3, f.1, row.2, f.3, f.4, f.5) refl
reading-word_of (Multiply operation rd rs1 rs2) h =
    let row = multiply_law operation in
    let f = r_fields op_opcode (multiply_row operation).funct3 muldiv_funct7 rd rs1 rs2 (lit< tt) row.0.0 (lit< tt)
    h.0 h.1 h.2 in
    rw (f.0, f.2, f.1, row.1, row.0.1, f.3, f.4, f.5) refl
reading-word_of (Divide operation rd rs1 rs2) h =
    let row = divide_law operation in
    let f = r_fields op_opcode (divide_row operation).funct3 muldiv_funct7 rd rs1 rs2 (lit< tt) row.0 (lit< tt)
    h.0 h.1 h.2 in
    rw (f.0, f.2, f.1, row.2, row.1, f.3, f.4, f.5) refl
reading-word_of (Fence mode before after rs1 rd) h =
    let f = fence_fields mode before after rs1 rd h.0 h.1 h.2 h.3 h.4 in
    rw (f.0, f.2, f.3, f.4, f.5, f.6) refl
reading-word_of Ecall h = refl
reading-word_of Ebreak h = refl

-- What is read is in range, whatever the word.

data InRange : Option Instr → Type 0 where
  none : InRange None
  some : {i : Instr} → IsInstr i → InRange (Some i)

mapped : {O : Type 0} (made : O → Instr) (read : Option O) → ((o : O) → IsInstr (made o))
    → InRange (option_map made read)
mapped made None holds = none
mapped made (Some o) holds = some (holds o)

choice : (b : Bool) (x y : Option Instr) → InRange x → InRange y → InRange (cond b x y)
choice true x y of_x of_y = of_x
choice false x y of_x of_y = of_y

call : (b : Bool) → InRange (Some (cond b Ecall Ebreak))
call true = some tt
call false = some tt

in_range : (word : ℕ) → InRange (reading word)
unfolding reading branch_at load_at store_at immediate_at shift_at register_at multiply_at divide_at
in_range word =
    let opcode = opcode_at word in
    let f3 = funct3_at word in
    let f7 = funct7_at word in
    let rd = rd_at word in
    let rs1 = rs1_at word in
    let rs2 = rs2_at word in
    let offset = i_immediate_at word in
    choice (opcode == (upper_row Lui).opcode) _ _
    (some {i = Upper Lui rd (u_immediate_at word)} (omega arith, omega arith))
    (choice (opcode == (upper_row Auipc).opcode) _ _
    (some {i = Upper Auipc rd (u_immediate_at word)} (omega arith, omega arith))
    (choice (opcode == op_imm_opcode) _ _
    (choice (f3 % 4 == 1) _ _ (some {i = Shift (shift_with f3 f7) rd rs1 rs2} (omega arith, omega arith, omega arith))
    (mapped (λ o. Immediate o rd rs1 offset) (slice_get immediate_operations f3)
    (λ o. (omega arith, omega arith, omega arith))))
    (choice (opcode == op_opcode) _ _
    (choice (f7 == muldiv_funct7) _ _
    (choice (nat_lt f3 4) _ _ (mapped (λ o. Multiply o rd rs1 rs2) (slice_get multiply_operations f3)
    (λ o. (omega arith, omega arith, omega arith)))
    (mapped (λ o. Divide o rd rs1 rs2) (slice_get divide_operations (f3 % 4))
    (λ o. (omega arith, omega arith, omega arith))))
    (mapped (λ o. Register o rd rs1 rs2) (register_with f3 f7)
    (λ o. (omega arith, omega arith, omega arith))))
    (choice (opcode == load_opcode) _ _ (mapped (λ o. Load o rd rs1 offset) (slice_get load_operations f3)
    (λ o. (omega arith, omega arith, omega arith)))
    (choice (opcode == store_opcode) _ _
    (mapped (λ o. Store o rs2 rs1 (s_immediate_at word)) (slice_get store_operations f3)
    (λ o. (omega arith, omega arith, omega arith)))
    (choice (opcode == branch_opcode) _ _
    (mapped (λ o. Branch o rs1 rs2 (b_offset_at word)) (slice_get branch_tests f3)
    (λ o. (omega arith, omega arith, omega arith)))
    (choice (opcode == jal_opcode) _ _ (some {i = Jump rd (j_offset_at word)} (omega arith, omega arith))
    (choice (opcode == jalr_opcode) _ _
    (some {i = JumpRegister rd rs1 offset} (omega arith, omega arith, omega arith))
    (choice (opcode == misc_mem_opcode) _ _ (some {i = Fence (mode_at word) (before_at word) (after_at word) rs1 rd}
    (omega arith, omega arith, omega arith, omega arith, omega arith))
    (choice (opcode == system_opcode) _ _ (call (word == ecall_word)) none))))))))))

in_range_of : {i : Instr} → InRange (Some i) → IsInstr i
in_range_of (some holds) = holds

pub reading_in_range : (word : ℕ) (i : Instr) → reading word ≡ Some i → IsInstr i
reading_in_range word i read = in_range_of (subst InRange read (in_range word))

-- two instructions have two words
pub words_differ : (i j : Instr) → IsInstr i → IsInstr j → word_of i ≡ word_of j → i ≡ j
words_differ i j is_i is_j same =
    let e : Some i ≡ Some j = sym (reading-word_of i is_i) ∙ (ap reading same ∙ reading-word_of j is_j) in cc
