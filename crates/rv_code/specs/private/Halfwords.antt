-- The 16-bit instruction of a halfword, where there is one, by its fields as the listings have them.
use Rattle.std.specs.Prelude.{ℕ, ◌+◌, ◌*◌, ◌/◌, ◌%◌, ◌^◌, Option, Some, None, ◌==◌, if◌then◌else◌}
use Rattle.std.specs.Option.{option_map}
use Rattle.rv_code.specs.declared.instructions.Instr.{Instr}
use Rattle.rv_code.specs.Words.{bits_of}
use Rattle.rv_code.specs.Compressed.{Compressed, c_addi4spn, c_lw, c_sw, c_addi, c_jal, c_li, c_addi16sp, c_lui}
use Rattle.rv_code.specs.Compressed.{c_srli, c_srai, c_andi, c_sub, c_xor, c_or, c_and, c_j, c_beqz, c_bnez, c_slli}
use Rattle.rv_code.specs.Compressed.{c_lwsp, c_jr, c_mv, c_ebreak, c_jalr, c_add, c_swsp, expansion_of}

-- The fields of a halfword: the full registers, and those of three bits.

abbrev pub op_at : ℕ → ℕ
op_at halfword = halfword % 2 ^ 2

abbrev pub funct3_at : ℕ → ℕ
funct3_at halfword = halfword / 2 ^ 13

abbrev pub rd_at : ℕ → ℕ
rd_at halfword = bits_of 7 5 halfword

abbrev pub rs2_at : ℕ → ℕ
rs2_at halfword = bits_of 2 5 halfword

abbrev pub short_rs1_at : ℕ → ℕ
short_rs1_at halfword = bits_of 7 3 halfword

abbrev pub short_rs2_at : ℕ → ℕ
short_rs2_at halfword = bits_of 2 3 halfword

-- the field beside the highest bit of an immediate, and the one between two short registers
abbrev pub funct2_at : ℕ → ℕ
funct2_at halfword = bits_of 10 2 halfword

abbrev pub low_funct2_at : ℕ → ℕ
low_funct2_at halfword = bits_of 5 2 halfword

-- the highest bit of the immediate in the CI format, or the lowest bit of funct4
abbrev pub bit_12_at : ℕ → ℕ
bit_12_at halfword = bits_of 12 1 halfword

-- The immediates.

abbrev pub stack_address_immediate_at : ℕ → ℕ
stack_address_immediate_at halfword =
    bits_of 6 1 halfword * 2 ^ 2 + bits_of 5 1 halfword * 2 ^ 3 + bits_of 11 2 halfword * 2 ^ 4
    + bits_of 7 4 halfword * 2 ^ 6

abbrev pub word_offset_at : ℕ → ℕ
word_offset_at halfword =
    bits_of 6 1 halfword * 2 ^ 2 + bits_of 10 3 halfword * 2 ^ 3 + bits_of 5 1 halfword * 2 ^ 6

abbrev pub small_immediate_at : ℕ → ℕ
small_immediate_at halfword = bits_of 2 5 halfword + bit_12_at halfword * 2 ^ 5

abbrev pub stack_change_immediate_at : ℕ → ℕ
stack_change_immediate_at halfword =
    bits_of 6 1 halfword * 2 ^ 4 + bits_of 2 1 halfword * 2 ^ 5 + bits_of 5 1 halfword * 2 ^ 6
    + bits_of 3 2 halfword * 2 ^ 7 + bit_12_at halfword * 2 ^ 9

abbrev pub upper_immediate_at : ℕ → ℕ
upper_immediate_at halfword = small_immediate_at halfword * 2 ^ 12

abbrev pub jump_offset_at : ℕ → ℕ
jump_offset_at halfword =
    bits_of 3 3 halfword * 2 ^ 1 + bits_of 11 1 halfword * 2 ^ 4 + bits_of 2 1 halfword * 2 ^ 5
    + bits_of 7 1 halfword * 2 ^ 6 + bits_of 6 1 halfword * 2 ^ 7 + bits_of 9 2 halfword * 2 ^ 8
    + bits_of 8 1 halfword * 2 ^ 10 + bit_12_at halfword * 2 ^ 11

abbrev pub branch_offset_at : ℕ → ℕ
branch_offset_at halfword =
    bits_of 3 2 halfword * 2 ^ 1 + bits_of 10 2 halfword * 2 ^ 3 + bits_of 2 1 halfword * 2 ^ 5
    + bits_of 5 2 halfword * 2 ^ 6 + bit_12_at halfword * 2 ^ 8

abbrev pub stack_load_offset_at : ℕ → ℕ
stack_load_offset_at halfword =
    bits_of 4 3 halfword * 2 ^ 2 + bit_12_at halfword * 2 ^ 5 + bits_of 2 2 halfword * 2 ^ 6

abbrev pub stack_store_offset_at : ℕ → ℕ
stack_store_offset_at halfword = bits_of 9 4 halfword * 2 ^ 2 + bits_of 7 2 halfword * 2 ^ 6

-- The instructions, by quadrant: op tells the quadrant, and funct3 the row or a few of them.

unfoldable pub stack_address_at : ℕ → Option Compressed
stack_address_at halfword =
    if stack_address_immediate_at halfword == 0 then None
    else Some (c_addi4spn (short_rs2_at halfword) (stack_address_immediate_at halfword))

unfoldable pub quadrant_0_at : ℕ → Option Compressed
quadrant_0_at halfword =
    if funct3_at halfword == 0b000 then stack_address_at halfword
    else if funct3_at halfword == 0b010
    then Some (c_lw (short_rs2_at halfword) (short_rs1_at halfword) (word_offset_at halfword))
    else if funct3_at halfword == 0b110
    then Some (c_sw (short_rs2_at halfword) (short_rs1_at halfword) (word_offset_at halfword))
    else None

unfoldable pub stack_change_at : ℕ → Option Compressed
stack_change_at halfword =
    if stack_change_immediate_at halfword == 0 then None
    else Some (c_addi16sp (stack_change_immediate_at halfword))

unfoldable pub upper_at : ℕ → Option Compressed
upper_at halfword =
    if rd_at halfword == 2 then stack_change_at halfword
    else if small_immediate_at halfword == 0 then None
    else Some (c_lui (rd_at halfword) (upper_immediate_at halfword))

unfoldable pub two_registers_at : ℕ → Option Compressed
two_registers_at halfword =
    if bit_12_at halfword == 1 then None
    else if low_funct2_at halfword == 0b00 then Some (c_sub (short_rs1_at halfword) (short_rs2_at halfword))
    else if low_funct2_at halfword == 0b01 then Some (c_xor (short_rs1_at halfword) (short_rs2_at halfword))
    else if low_funct2_at halfword == 0b10 then Some (c_or (short_rs1_at halfword) (short_rs2_at halfword))
    else Some (c_and (short_rs1_at halfword) (short_rs2_at halfword))

unfoldable pub arithmetic_at : ℕ → Option Compressed
arithmetic_at halfword =
    if funct2_at halfword == 0b00
    then (if bit_12_at halfword == 1 then None else Some (c_srli (short_rs1_at halfword) (rs2_at halfword)))
    else if funct2_at halfword == 0b01
    then (if bit_12_at halfword == 1 then None else Some (c_srai (short_rs1_at halfword) (rs2_at halfword)))
    else if funct2_at halfword == 0b10
    then Some (c_andi (short_rs1_at halfword) (small_immediate_at halfword))
    else two_registers_at halfword

unfoldable pub quadrant_1_at : ℕ → Option Compressed
quadrant_1_at halfword =
    if funct3_at halfword == 0b000 then Some (c_addi (rd_at halfword) (small_immediate_at halfword))
    else if funct3_at halfword == 0b001 then Some (c_jal (jump_offset_at halfword))
    else if funct3_at halfword == 0b010 then Some (c_li (rd_at halfword) (small_immediate_at halfword))
    else if funct3_at halfword == 0b011 then upper_at halfword
    else if funct3_at halfword == 0b100 then arithmetic_at halfword
    else if funct3_at halfword == 0b101 then Some (c_j (jump_offset_at halfword))
    else if funct3_at halfword == 0b110 then Some (c_beqz (short_rs1_at halfword) (branch_offset_at halfword))
    else if funct3_at halfword == 0b111 then Some (c_bnez (short_rs1_at halfword) (branch_offset_at halfword))
    else None

unfoldable pub stack_load_at : ℕ → Option Compressed
stack_load_at halfword =
    if rd_at halfword == 0 then None else Some (c_lwsp (rd_at halfword) (stack_load_offset_at halfword))

unfoldable pub move_or_jump_at : ℕ → Option Compressed
move_or_jump_at halfword =
    if rs2_at halfword == 0
    then (if rd_at halfword == 0 then None else Some (c_jr (rd_at halfword)))
    else Some (c_mv (rd_at halfword) (rs2_at halfword))

unfoldable pub add_or_call_at : ℕ → Option Compressed
add_or_call_at halfword =
    if rs2_at halfword == 0
    then Some (if rd_at halfword == 0 then c_ebreak else c_jalr (rd_at halfword))
    else Some (c_add (rd_at halfword) (rs2_at halfword))

unfoldable pub quadrant_2_at : ℕ → Option Compressed
quadrant_2_at halfword =
    if funct3_at halfword == 0b000
    then (if bit_12_at halfword == 1 then None else Some (c_slli (rd_at halfword) (rs2_at halfword)))
    else if funct3_at halfword == 0b010 then stack_load_at halfword
    else if funct3_at halfword == 0b100
    then (if bit_12_at halfword == 0 then move_or_jump_at halfword else add_or_call_at halfword)
    else if funct3_at halfword == 0b110
    then Some (c_swsp (rs2_at halfword) (stack_store_offset_at halfword))
    else None

unfoldable pub compressed_at : ℕ → Option Compressed
compressed_at halfword =
    if op_at halfword == 0b00 then quadrant_0_at halfword
    else if op_at halfword == 0b01 then quadrant_1_at halfword
    else if op_at halfword == 0b10 then quadrant_2_at halfword
    else None

-- what it means
abbrev pub expanded : Option Compressed → Option Instr
expanded c = option_map expansion_of c
