-- Laws of the halfwords: each 16-bit instruction is read back from its halfword, so two have two halfwords.
use Rattle.std.proofs.Common.{◌≡◌, ◌≢◌, ℕ, ◌*◌, ◌/◌, ◌^◌, Some, refl, sym, ◌∙◌, ap, arith, lit<}
use Rattle.std.proofs.lemmas.Bool.{ne_eqb}
use Rattle.rv_code.specs.declared.instructions.Instr.{Instr}
use Rattle.rv_code.specs.Compressed.{Compressed, c_addi4spn, c_lw, c_sw, c_addi, c_jal, c_li, c_addi16sp, c_lui, c_srli}
use Rattle.rv_code.specs.Compressed.{c_srai, c_andi, c_sub, c_xor, c_or, c_and, c_j, c_beqz, c_bnez, c_slli, c_lwsp}
use Rattle.rv_code.specs.Compressed.{c_jr, c_mv, c_ebreak, c_jalr, c_add, c_swsp, IsCompressed, halfword_of, ExpandsTo}
use Rattle.rv_code.specs.private.Halfwords.{compressed_at, expanded, quadrant_0_at, stack_address_at, quadrant_1_at}
use Rattle.rv_code.specs.private.Halfwords.{upper_at, stack_change_at, arithmetic_at, two_registers_at, quadrant_2_at}
use Rattle.rv_code.specs.private.Halfwords.{stack_load_at, move_or_jump_at, add_or_call_at}
use Rattle.rv_code.proofs.HalfwordFields.{offset_fields, small_fields, jump_fields, branch_fields, stack_address_fields}
use Rattle.rv_code.proofs.HalfwordFields.{stack_change_fields, upper_fields, arithmetic_fields, amount_fields}
use Rattle.rv_code.proofs.HalfwordFields.{two_register_fields, shift_fields, stack_load_fields, stack_store_fields}
use Rattle.rv_code.proofs.HalfwordFields.{cr_fields}

-- an instruction is read from its halfword
pub compressed_at-halfword_of : (c : Compressed) → IsCompressed c → compressed_at (halfword_of c) ≡ Some c
unfolding halfword_of compressed_at quadrant_0_at stack_address_at quadrant_1_at upper_at stack_change_at arithmetic_at
    two_registers_at quadrant_2_at stack_load_at move_or_jump_at add_or_call_at
compressed_at-halfword_of (c_addi4spn rd nzuimm) h =
    let f = stack_address_fields rd nzuimm h.0 h.1 in
    rw (f.0, f.1, f.3, ne_eqb nzuimm 0 h.2, f.2) refl
compressed_at-halfword_of (c_lw rd rs1 uimm) h =
    let f = offset_fields 0b010 rd rs1 uimm (lit< tt) h.0 h.1 h.2 in
    rw (f.0, f.1, f.2, f.3, f.4) refl
compressed_at-halfword_of (c_sw rs2 rs1 uimm) h =
    let f = offset_fields 0b110 rs2 rs1 uimm (lit< tt) h.0 h.1 h.2 in
    rw (f.0, f.1, f.2, f.3, f.4) refl
compressed_at-halfword_of (c_addi rd imm) h =
    let f = small_fields 0b000 rd imm (lit< tt) h.0 h.1 in
    rw (f.0, f.1, f.2, f.3) refl
compressed_at-halfword_of (c_jal offset) h =
    let f = jump_fields 0b001 offset (lit< tt) h in
    rw (f.0, f.1, f.2) refl
compressed_at-halfword_of (c_li rd imm) h =
    let f = small_fields 0b010 rd imm (lit< tt) h.0 h.1 in
    rw (f.0, f.1, f.2, f.3) refl
compressed_at-halfword_of (c_addi16sp nzimm) h =
    let f = stack_change_fields nzimm h.0 in
    rw (f.0, f.1, f.2, f.3, ne_eqb nzimm 0 h.1) refl
compressed_at-halfword_of (c_lui rd nzimm) h =
    let f = upper_fields rd nzimm h.0 h.2 in
    let filled : nzimm / 2 ^ 12 ≢ 0 = λ none. h.3 (omega arith) in
    let whole : nzimm / 2 ^ 12 * 2 ^ 12 ≡ nzimm = omega arith in
    rw (f.0, f.1, f.2, ne_eqb rd 2 h.1, f.3, ne_eqb (nzimm / 2 ^ 12) 0 filled, whole) refl
compressed_at-halfword_of (c_srli rd shamt) h =
    let f = arithmetic_fields 0b00 rd shamt (lit< tt) h.0 (omega arith) in
    let amount = amount_fields 0b00 rd shamt (lit< tt) h.0 h.1 in
    rw (f.0, f.1, f.2, amount.0, f.3, amount.1) refl
compressed_at-halfword_of (c_srai rd shamt) h =
    let f = arithmetic_fields 0b01 rd shamt (lit< tt) h.0 (omega arith) in
    let amount = amount_fields 0b01 rd shamt (lit< tt) h.0 h.1 in
    rw (f.0, f.1, f.2, amount.0, f.3, amount.1) refl
compressed_at-halfword_of (c_andi rd imm) h =
    let f = arithmetic_fields 0b10 rd imm (lit< tt) h.0 h.1 in
    rw (f.0, f.1, f.2, f.3, f.4) refl
compressed_at-halfword_of (c_sub rd rs2) h =
    let f = two_register_fields 0b00 rd rs2 (lit< tt) h.0 h.1 in
    rw (f.0, f.1, f.2, f.3, f.4, f.5, f.6) refl
compressed_at-halfword_of (c_xor rd rs2) h =
    let f = two_register_fields 0b01 rd rs2 (lit< tt) h.0 h.1 in
    rw (f.0, f.1, f.2, f.3, f.4, f.5, f.6) refl
compressed_at-halfword_of (c_or rd rs2) h =
    let f = two_register_fields 0b10 rd rs2 (lit< tt) h.0 h.1 in
    rw (f.0, f.1, f.2, f.3, f.4, f.5, f.6) refl
compressed_at-halfword_of (c_and rd rs2) h =
    let f = two_register_fields 0b11 rd rs2 (lit< tt) h.0 h.1 in
    rw (f.0, f.1, f.2, f.3, f.4, f.5, f.6) refl
compressed_at-halfword_of (c_j offset) h =
    let f = jump_fields 0b101 offset (lit< tt) h in
    rw (f.0, f.1, f.2) refl
compressed_at-halfword_of (c_beqz rs1 offset) h =
    let f = branch_fields 0b110 rs1 offset (lit< tt) h.0 h.1 in
    rw (f.0, f.1, f.2, f.3) refl
compressed_at-halfword_of (c_bnez rs1 offset) h =
    let f = branch_fields 0b111 rs1 offset (lit< tt) h.0 h.1 in
    rw (f.0, f.1, f.2, f.3) refl
compressed_at-halfword_of (c_slli rd shamt) h =
    let f = shift_fields rd shamt h.0 h.1 in
    rw (f.0, f.1, f.2, f.3, f.4) refl
compressed_at-halfword_of (c_lwsp rd uimm) h =
    let f = stack_load_fields rd uimm h.0 h.2 in
    rw (f.0, f.1, f.2, ne_eqb rd 0 h.1, f.3) refl
compressed_at-halfword_of (c_jr rs1) h =
    let f = cr_fields 0 rs1 0 (lit< tt) h.0 (lit< tt) in
    rw (f.0, f.1, f.2, f.4, f.3, ne_eqb rs1 0 h.1) refl
compressed_at-halfword_of (c_mv rd rs2) h =
    let f = cr_fields 0 rd rs2 (lit< tt) h.0 h.1 in
    rw (f.0, f.1, f.2, f.4, ne_eqb rs2 0 h.2, f.3) refl
compressed_at-halfword_of c_ebreak h = refl
compressed_at-halfword_of (c_jalr rs1) h =
    let f = cr_fields 1 rs1 0 (lit< tt) h.0 (lit< tt) in
    rw (f.0, f.1, f.2, f.4, f.3, ne_eqb rs1 0 h.1) refl
compressed_at-halfword_of (c_add rd rs2) h =
    let f = cr_fields 1 rd rs2 (lit< tt) h.0 h.1 in
    rw (f.0, f.1, f.2, f.4, ne_eqb rs2 0 h.2, f.3) refl
compressed_at-halfword_of (c_swsp rs2 uimm) h =
    let f = stack_store_fields rs2 uimm h.0 h.1 in
    rw (f.0, f.1, f.2, f.3) refl

-- two instructions have two halfwords
pub halfwords_differ : (a b : Compressed) → IsCompressed a → IsCompressed b → halfword_of a ≡ halfword_of b → a ≡ b
halfwords_differ a b is_a is_b same =
    let e : Some a ≡ Some b =
    sym (compressed_at-halfword_of a is_a) ∙ (ap compressed_at same ∙ compressed_at-halfword_of b is_b) in cc

-- a halfword means what the instruction does that has it
pub only : (halfword : ℕ) (i : Instr) → ExpandsTo halfword i → expanded (compressed_at halfword) ≡ Some i
only halfword i (c, is_c, has, means) =
    ap (λ h. expanded (compressed_at h)) (sym has) ∙ (ap expanded (compressed_at-halfword_of c is_c) ∙ ap Some means)

-- so it means one at most
pub one_expansion : (halfword : ℕ) (i j : Instr) → ExpandsTo halfword i → ExpandsTo halfword j → i ≡ j
one_expansion halfword i j to_i to_j =
    let e : Some i ≡ Some j = sym (only halfword i to_i) ∙ only halfword j to_j in cc
