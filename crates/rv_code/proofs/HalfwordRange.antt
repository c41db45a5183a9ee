-- What is read from a halfword is in range, and has that halfword.
use Rattle.std.specs.Prelude.{◌≡◌, ◌≢◌, ℕ, ◌+◌, ◌*◌, ◌^◌, ◌<◌, ◌==◌, Option, Some, None, IfSome, refl}
use Rattle.std.proofs.Common.{cond, arith, inl, inr}
use Rattle.std.proofs.lemmas.Bool.Decides.{eqb_tells}
use Rattle.rv_code.specs.Words.{bits_of}
use Rattle.rv_code.specs.Compressed.{Compressed, c_addi4spn, c_lw, c_sw, c_addi, c_jal, c_li, c_addi16sp, c_lui, c_srli}
use Rattle.rv_code.specs.Compressed.{c_srai, c_andi, c_sub, c_xor, c_or, c_and, c_j, c_beqz, c_bnez, c_slli, c_lwsp}
use Rattle.rv_code.specs.Compressed.{c_jr, c_mv, c_ebreak, c_jalr, c_add, c_swsp, jump_type, IsCompressed, halfword_of}
use Rattle.rv_code.specs.Compressed.{ExpandsTo}
use Rattle.rv_code.specs.private.Halfwords.{op_at, funct3_at, rd_at, rs2_at, short_rs1_at, short_rs2_at, funct2_at}
use Rattle.rv_code.specs.private.Halfwords.{low_funct2_at, bit_12_at, stack_address_immediate_at, word_offset_at}
use Rattle.rv_code.specs.private.Halfwords.{small_immediate_at, stack_change_immediate_at, upper_immediate_at}
use Rattle.rv_code.specs.private.Halfwords.{jump_offset_at, branch_offset_at, stack_load_offset_at}
use Rattle.rv_code.specs.private.Halfwords.{stack_store_offset_at, compressed_at, quadrant_0_at, stack_address_at}
use Rattle.rv_code.specs.private.Halfwords.{quadrant_1_at, upper_at, stack_change_at, arithmetic_at}
use Rattle.rv_code.specs.private.Halfwords.{two_registers_at, quadrant_2_at, stack_load_at, move_or_jump_at}
use Rattle.rv_code.specs.private.Halfwords.{add_or_call_at, expanded}

-- what is read from a halfword, if anything, is in range and has it
pub data IsRead (halfword : ℕ) : Option Compressed → Type 0 where
  none : IsRead halfword None
  some : {c : Compressed} → IsCompressed c → halfword_of c ≡ halfword → IsRead halfword (Some c)

-- what a test on a field tells of both answers
choice : (halfword n k : ℕ) (x y : Option Compressed) → (n ≡ k → IsRead halfword x) → (n ≢ k → IsRead halfword y)
    → IsRead halfword (cond (n == k) x y)
choice halfword n k x y same other =
    elim (eqb_tells n k) as (λ _. IsRead halfword (cond (n == k) x y))
    [ inl w ↦ rw w.0 (same w.1) | inr w ↦ rw w.0 (other w.1) ]

quadrant_0 : (halfword : ℕ) → halfword < 2 ^ 16 → op_at halfword ≡ 0b00 → IsRead halfword (quadrant_0_at halfword)
unfolding quadrant_0_at stack_address_at halfword_of
quadrant_0 halfword fits op =
    let register = short_rs2_at halfword in
    let base = short_rs1_at halfword in
    let offset = word_offset_at halfword in
    let address = stack_address_immediate_at halfword in
    choice halfword (funct3_at halfword) 0b000 _ _
    (λ row. choice halfword address 0 _ _ (λ reserved. none)
    (λ filled. some {c = c_addi4spn register address} (omega arith, (omega arith, omega arith), filled) (omega arith)))
    (λ _. choice halfword (funct3_at halfword) 0b010 _ _
    (λ row. some {c = c_lw register base offset} (omega arith, omega arith, (omega arith, omega arith)) (omega arith))
    (λ _. choice halfword (funct3_at halfword) 0b110 _ _
    (λ row. some {c = c_sw register base offset} (omega arith, omega arith, (omega arith, omega arith)) (omega arith))
    (λ _. none)))

-- the parts of an offset are read from it
offset_parts : (p1 p4 p5 p6 p7 p8 p10 p11 : ℕ) → p1 < 2 ^ 3 → p4 < 2 → p5 < 2 → p6 < 2 → p7 < 2 → p8 < 2 ^ 2 → p10 < 2
    → p11 < 2
    → let offset = p1 * 2 ^ 1 + p4 * 2 ^ 4 + p5 * 2 ^ 5 + p6 * 2 ^ 6 + p7 * 2 ^ 7 + p8 * 2 ^ 8 + p10 * 2 ^ 10
    + p11 * 2 ^ 11 in
    (bits_of 11 1 offset ≡ p11) × (bits_of 4 1 offset ≡ p4) × (bits_of 8 2 offset ≡ p8) × (bits_of 10 1 offset ≡ p10)
    × (bits_of 6 1 offset ≡ p6) × (bits_of 7 1 offset ≡ p7) × (bits_of 1 3 offset ≡ p1) × (bits_of 5 1 offset ≡ p5)
offset_parts p1 p4 p5 p6 p7 p8 p10 p11 h1 h4 h5 h6 h7 h8 h10 h11 =
    (omega arith, omega arith, omega arith, omega arith, omega arith, omega arith, omega arith, omega arith)

-- so the halfword of a jump is that of its offset
jumps : (halfword : ℕ) → halfword < 2 ^ 16 → op_at halfword ≡ 0b01
    → jump_type (funct3_at halfword) (jump_offset_at halfword) ≡ halfword
jumps halfword fits op =
    let f = offset_parts (bits_of 3 3 halfword) (bits_of 11 1 halfword) (bits_of 2 1 halfword) (bits_of 7 1 halfword)
    (bits_of 6 1 halfword) (bits_of 9 2 halfword) (bits_of 8 1 halfword) (bit_12_at halfword) (omega arith)
    (omega arith) (omega arith) (omega arith) (omega arith) (omega arith) (omega arith) (omega arith) in
    rw (f.0, f.1, f.2, f.3, f.4, f.5, f.6, f.7) (omega arith)

stack_change : (halfword : ℕ) → halfword < 2 ^ 16 → op_at halfword ≡ 0b01 → funct3_at halfword ≡ 0b011
    → rd_at halfword ≡ 2 → IsRead halfword (stack_change_at halfword)
unfolding stack_change_at halfword_of
stack_change halfword fits op row of_stack =
    let immediate = stack_change_immediate_at halfword in
    choice halfword immediate 0 _ _ (λ reserved. none)
    (λ filled. some {c = c_addi16sp immediate} ((omega arith, omega arith), filled) (omega arith))

upper : (halfword : ℕ) → halfword < 2 ^ 16 → op_at halfword ≡ 0b01 → funct3_at halfword ≡ 0b011
    → IsRead halfword (upper_at halfword)
unfolding upper_at halfword_of
upper halfword fits op row =
    let register = rd_at halfword in
    choice halfword register 2 _ _ (stack_change halfword fits op row)
    (λ other. choice halfword (small_immediate_at halfword) 0 _ _ (λ reserved. none)
    (λ filled. some {c = c_lui register (upper_immediate_at halfword)}
    (omega arith, other, (omega arith, omega arith), λ empty. filled (omega arith)) (omega arith)))

two_registers : (halfword : ℕ) → halfword < 2 ^ 16 → op_at halfword ≡ 0b01 → funct3_at halfword ≡ 0b100
    → funct2_at halfword ≡ 0b11 → IsRead halfword (two_registers_at halfword)
unfolding two_registers_at halfword_of
two_registers halfword fits op row group =
    let rd = short_rs1_at halfword in
    let rs2 = short_rs2_at halfword in
    let funct2 = low_funct2_at halfword in
    choice halfword (bit_12_at halfword) 1 _ _ (λ reserved. none)
    (λ narrow. choice halfword funct2 0b00 _ _ (λ is. some {c = c_sub rd rs2} (omega arith, omega arith) (omega arith))
    (λ not_sub. choice halfword funct2 0b01 _ _ (λ is. some {c = c_xor rd rs2} (omega arith, omega arith) (omega arith))
    (λ not_xor. choice halfword funct2 0b10 _ _ (λ is. some {c = c_or rd rs2} (omega arith, omega arith) (omega arith))
    (λ not_or. some {c = c_and rd rs2} (omega arith, omega arith) (omega arith)))))

arithmetic : (halfword : ℕ) → halfword < 2 ^ 16 → op_at halfword ≡ 0b01 → funct3_at halfword ≡ 0b100
    → IsRead halfword (arithmetic_at halfword)
unfolding arithmetic_at halfword_of
arithmetic halfword fits op row =
    let rd = short_rs1_at halfword in
    let amount = rs2_at halfword in
    let wide = bit_12_at halfword in
    choice halfword (funct2_at halfword) 0b00 _ _
    (λ is. choice halfword wide 1 _ _ (λ reserved. none)
    (λ narrow. some {c = c_srli rd amount} (omega arith, omega arith) (omega arith)))
    (λ not_srli. choice halfword (funct2_at halfword) 0b01 _ _
    (λ is. choice halfword wide 1 _ _ (λ reserved. none)
    (λ narrow. some {c = c_srai rd amount} (omega arith, omega arith) (omega arith)))
    (λ not_srai. choice halfword (funct2_at halfword) 0b10 _ _
    (λ is. some {c = c_andi rd (small_immediate_at halfword)} (omega arith, omega arith) (omega arith))
    (λ not_andi. two_registers halfword fits op row (omega arith))))

quadrant_1 : (halfword : ℕ) → halfword < 2 ^ 16 → op_at halfword ≡ 0b01 → IsRead halfword (quadrant_1_at halfword)
unfolding quadrant_1_at halfword_of
quadrant_1 halfword fits op =
    let funct3 = funct3_at halfword in
    let rd = rd_at halfword in
    let rs1 = short_rs1_at halfword in
    let immediate = small_immediate_at halfword in
    let jump = jump_offset_at halfword in
    let branch = branch_offset_at halfword in
    choice halfword funct3 0b000 _ _
    (λ row. some {c = c_addi rd immediate} (omega arith, omega arith) (omega arith))
    (λ _. choice halfword funct3 0b001 _ _
    (λ row. some {c = c_jal jump} (omega arith, omega arith) (rw row at (jumps halfword fits op)))
    (λ _. choice halfword funct3 0b010 _ _
    (λ row. some {c = c_li rd immediate} (omega arith, omega arith) (omega arith))
    (λ _. choice halfword funct3 0b011 _ _ (upper halfword fits op)
    (λ _. choice halfword funct3 0b100 _ _ (arithmetic halfword fits op)
    (λ _. choice halfword funct3 0b101 _ _
    (λ row. some {c = c_j jump} (omega arith, omega arith) (rw row at (jumps halfword fits op)))
    (λ _. choice halfword funct3 0b110 _ _
    (λ row. some {c = c_beqz rs1 branch} (omega arith, (omega arith, omega arith)) (omega arith))
    (λ _. choice halfword funct3 0b111 _ _
    (λ row. some {c = c_bnez rs1 branch} (omega arith, (omega arith, omega arith)) (omega arith))
    (λ _. none))))))))

move_or_jump : (halfword : ℕ) → halfword < 2 ^ 16 → op_at halfword ≡ 0b10 → funct3_at halfword ≡ 0b100
    → bit_12_at halfword ≡ 0 → IsRead halfword (move_or_jump_at halfword)
unfolding move_or_jump_at halfword_of
move_or_jump halfword fits op row last =
    let rd = rd_at halfword in
    let rs2 = rs2_at halfword in
    choice halfword rs2 0 _ _
    (λ no_source. choice halfword rd 0 _ _ (λ reserved. none)
    (λ other. some {c = c_jr rd} (omega arith, other) (omega arith)))
    (λ source. some {c = c_mv rd rs2} (omega arith, omega arith, source) (omega arith))

-- the one of two that a test tells
either : (halfword n k : ℕ) (x y : Compressed) → (n ≡ k → IsRead halfword (Some x)) → (n ≢ k → IsRead halfword (Some y))
    → IsRead halfword (Some (cond (n == k) x y))
either halfword n k x y same other =
    elim (eqb_tells n k) as (λ _. IsRead halfword (Some (cond (n == k) x y)))
    [ inl w ↦ rw w.0 (same w.1) | inr w ↦ rw w.0 (other w.1) ]

add_or_call : (halfword : ℕ) → halfword < 2 ^ 16 → op_at halfword ≡ 0b10 → funct3_at halfword ≡ 0b100
    → bit_12_at halfword ≢ 0 → IsRead halfword (add_or_call_at halfword)
unfolding add_or_call_at halfword_of
add_or_call halfword fits op row last =
    let rd = rd_at halfword in
    let rs2 = rs2_at halfword in
    choice halfword rs2 0 _ _
    (λ no_source. either halfword rd 0 _ _ (λ no_register. some {c = c_ebreak} tt (omega arith))
    (λ other. some {c = c_jalr rd} (omega arith, other) (omega arith)))
    (λ source. some {c = c_add rd rs2} (omega arith, omega arith, source) (omega arith))

quadrant_2 : (halfword : ℕ) → halfword < 2 ^ 16 → op_at halfword ≡ 0b10 → IsRead halfword (quadrant_2_at halfword)
unfolding quadrant_2_at stack_load_at halfword_of
quadrant_2 halfword fits op =
    let funct3 = funct3_at halfword in
    let rd = rd_at halfword in
    let rs2 = rs2_at halfword in
    choice halfword funct3 0b000 _ _
    (λ row. choice halfword (bit_12_at halfword) 1 _ _ (λ reserved. none)
    (λ narrow. some {c = c_slli rd rs2} (omega arith, omega arith) (omega arith)))
    (λ _. choice halfword funct3 0b010 _ _
    (λ row. choice halfword rd 0 _ _ (λ reserved. none)
    (λ other. some {c = c_lwsp rd (stack_load_offset_at halfword)} (omega arith, other, (omega arith, omega arith))
    (omega arith)))
    (λ _. choice halfword funct3 0b100 _ _
    (λ row. choice halfword (bit_12_at halfword) 0 _ _ (move_or_jump halfword fits op row)
    (add_or_call halfword fits op row))
    (λ _. choice halfword funct3 0b110 _ _
    (λ row. some {c = c_swsp rs2 (stack_store_offset_at halfword)} (omega arith, (omega arith, omega arith))
    (omega arith))
    (λ _. none))))

pub is_read : (halfword : ℕ) → halfword < 2 ^ 16 → IsRead halfword (compressed_at halfword)
unfolding compressed_at
is_read halfword fits =
    choice halfword (op_at halfword) 0b00 _ _ (quadrant_0 halfword fits)
    (λ _. choice halfword (op_at halfword) 0b01 _ _ (quadrant_1 halfword fits)
    (λ _. choice halfword (op_at halfword) 0b10 _ _ (quadrant_2 halfword fits) (λ _. none)))

-- so a halfword means what is read from it
found_of : (halfword : ℕ) (read : Option Compressed) → IsRead halfword read
    → IfSome (expanded read) (ExpandsTo halfword)
found_of halfword None is = tt
found_of halfword (Some c) (some in_range has) = (c, in_range, has, refl)

pub found : (halfword : ℕ) → halfword < 2 ^ 16 → IfSome (expanded (compressed_at halfword)) (ExpandsTo halfword)
found halfword fits = found_of halfword (compressed_at halfword) (is_read halfword fits)
