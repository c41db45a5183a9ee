-- Code that is worked out by hand: of expressions over two words, a and b, with homes x13 and x14, with one, and with
-- none.
use Rattle.std.proofs.Common.{◌≡◌, ℕ, List, [], ◌∷◌, true, false, None, Some, refl}
use Rattle.std.specs.Int.Count.{count_leading_zeros}
use Rattle.expression_code.proofs.Below.{Allocation, binary, convert, element, expr_code, FlatVariable}
use Rattle.expression_code.proofs.Below.{Instr, into_code, Place, prefix, rotate, select, TermTree, variable}
use Rattle.expression_code.proofs.Below.{word_as, WordType}
use Rattle.expression_code.specs.Allocation.{plain}
use Rattle.expression_code.specs.Below.{Addi, Andi, array_as, BitAnd, BitOr, GreaterOrEqual, Lbu, Less, LogicalAnd}
use Rattle.expression_code.specs.Below.{LessOrEqual, Lui, Lw}
use Rattle.expression_code.specs.Below.{Mul, Multiply, number}
use Rattle.expression_code.specs.Below.{ShiftLeft, ShiftRight, Slli, Sltiu, Srai, Srli, Subtract, Uint32, Uint8}
use Rattle.expression_code.specs.Below.{Unequal, W32}
use Rattle.expression_code.specs.Below.{W8, Xori}
use Rattle.language.specs.declared.signature.Label.TheVariants.{Public}
use Rattle.language.specs.declared.operators.BinaryOperator.TheVariants.{Add}
use Rattle.language.specs.declared.operators.PrefixOperator.TheVariants.{Complement, Negate}
use Rattle.expression_code.specs.Layout.{TermLayout}
use Rattle.rv_code.specs.declared.instructions.Instr.TheVariants as instr
use Rattle.rv_code.specs.declared.operations.RegisterOperation.TheVariants as register

abbrev uint32 : WordType
uint32 = record { kind = Uint32; label = Public }

abbrev uint8 : WordType
uint8 = record { kind = Uint8; label = Public }

-- a, b, an array of four words, and one of eight bytes
abbrev declared : List FlatVariable
declared = word_as uint32 false ∷ word_as uint32 false ∷ array_as uint32 false 4 ∷ array_as uint8 false 8 ∷ []

abbrev both_home : Allocation
both_home = record { count = 8; homes = Some 13 ∷ Some 14 ∷ []; immediates = false; unread = []; mirrors = [] }

abbrev one_home : Allocation
one_home = record { count = 8; homes = None ∷ Some 14 ∷ []; immediates = false; unread = []; mirrors = [] }

-- with homes, and with numbers in instructions
abbrev with_numbers : Allocation
with_numbers = record { count = 8; homes = Some 13 ∷ Some 14 ∷ []; immediates = true; unread = []; mirrors = [] }

abbrev a : TermTree
a = variable 0

abbrev b : TermTree
b = variable 1

abbrev layout : Allocation → TermLayout
layout allocation = record { declared = declared; allocation = allocation; free = 100 }

abbrev code : Allocation → TermTree → List Instr
code allocation e = expr_code (layout allocation) 0 e

module _ (place : Place) where
  abbrev sum : TermTree
  sum = binary place Add W32 a b

  sum_at_home : code both_home sum ≡ instr.Register register.Add 5 13 14 ∷ []
  sum_at_home = refl

  sum_of_one : code one_home sum ≡ instr.Load Lw 5 2 0 ∷ instr.Register register.Add 5 5 14 ∷ []
  sum_of_one = refl

  sum_plain : code plain sum ≡ instr.Load Lw 5 2 0 ∷ instr.Load Lw 6 2 4 ∷ instr.Register register.Add 5 5 6 ∷ []
  sum_plain = refl

  -- into the home of one of both
  sum_into_home : into_code (layout both_home) 13 0 sum ≡ instr.Register register.Add 13 13 14 ∷ []
  sum_into_home = refl

  -- a variable at home is no code, and into another register it is a move
  variable_at_home : code both_home a ≡ []
  variable_at_home = refl

  variable_moved : into_code (layout both_home) 5 0 a ≡ instr.Immediate Addi 5 13 0 ∷ []
  variable_moved = refl

  -- what is overwritten are temporaries

  conjunction : code both_home (binary place LogicalAnd W32 a b) ≡ instr.Register register.Sltu 6 0 14
      ∷ instr.Register register.Sltu 5 0 13 ∷ instr.Register register.And 5 5 6 ∷ []
  conjunction = refl

  choice : code both_home (select a a b) ≡ instr.Register register.Sub 5 0 13 ∷ instr.Register register.Xor 6 13 14
      ∷ instr.Register register.And 6 6 5 ∷ instr.Register register.Xor 5 14 6 ∷ []
  choice = refl

  narrowed : code both_home (convert Uint8 a) ≡ instr.Immediate Andi 5 13 255 ∷ []
  narrowed = refl

  widened : code both_home (convert Uint32 a) ≡ instr.Immediate Addi 5 13 0 ∷ []
  widened = refl

  -- where numbers go into instructions, no code is needed for a word that is kept
  kept_at_home : code with_numbers (convert Uint32 (convert Uint32 a)) ≡ []
  kept_at_home = refl

  kept_of_sum : code with_numbers (convert Uint32 sum) ≡ instr.Register register.Add 5 13 14 ∷ []
  kept_of_sum = refl

  kept_in_sum : code with_numbers (binary place Add W32 (convert Uint32 a) (convert Uint32 b))
      ≡ instr.Register register.Add 5 13 14 ∷ []
  kept_in_sum = refl

  cut_at_home : code with_numbers (convert Uint8 a) ≡ instr.Immediate Andi 5 13 255 ∷ []
  cut_at_home = refl

  -- and a choice between a value and 0 needs the mask alone
  choice_or_zero : code with_numbers (select a b (number 0 Uint32)) ≡ instr.Register register.Sub 5 0 13
      ∷ instr.Register register.And 5 14 5 ∷ []
  choice_or_zero = refl

  choice_of_zero : code both_home (select a b (number 0 Uint32)) ≡ instr.Immediate Addi 7 0 0
      ∷ instr.Register register.Sub 5 0 13 ∷ instr.Register register.Xor 6 14 7 ∷ instr.Register register.And 6 6 5
      ∷ instr.Register register.Xor 5 7 6 ∷ []
  choice_of_zero = refl

  -- a mask is made of the opposite of what would take another instruction
  mask_of_opposite : code with_numbers (select (binary place LessOrEqual W32 a b) b (number 0 Uint32))
      ≡ instr.Register register.Sltu 5 14 13 ∷ instr.Immediate Addi 5 5 4095 ∷ instr.Register register.And 5 14 5 ∷ []
  mask_of_opposite = refl

  mask_of_own : code with_numbers (select (binary place Less W32 a b) b (number 0 Uint32))
      ≡ instr.Register register.Sltu 5 13 14 ∷ instr.Register register.Sub 5 0 5 ∷ instr.Register register.And 5 14 5 ∷ []
  mask_of_own = refl

  -- with a number, where that has the instruction less
  mask_with_number : code with_numbers (select (binary place GreaterOrEqual W32 a (number 7 Uint32)) a b)
      ≡ instr.Immediate Sltiu 5 13 7 ∷ instr.Immediate Addi 5 5 4095 ∷ instr.Register register.Xor 6 13 14
      ∷ instr.Register register.And 6 6 5 ∷ instr.Register register.Xor 5 14 6 ∷ []
  mask_with_number = refl

  mask_at_most : code with_numbers (select (binary place LessOrEqual W32 a (number 7 Uint32)) b (number 0 Uint32))
      ≡ instr.Immediate Sltiu 5 13 8 ∷ instr.Register register.Sub 5 0 5 ∷ instr.Register register.And 5 14 5 ∷ []
  mask_at_most = refl

  -- which plain code has
  mask_plain : code both_home (select (binary place LessOrEqual W32 a b) a b)
      ≡ instr.Register register.Sltu 5 14 13 ∷ instr.Immediate Sltiu 5 5 1 ∷ instr.Register register.Sub 5 0 5
      ∷ instr.Register register.Xor 6 13 14 ∷ instr.Register register.And 6 6 5 ∷ instr.Register register.Xor 5 14 6 ∷ []
  mask_plain = refl

  rotated : code both_home (rotate W32 a 7) ≡ instr.Shift Slli 30 13 7 ∷ instr.Shift Srli 5 13 25
      ∷ instr.Register register.Add 5 30 5 ∷ []
  rotated = refl

  picked : code both_home (element place 2 4 b) ≡ instr.Shift Slli 5 14 2 ∷ instr.Register register.Add 5 5 2
      ∷ instr.Load Lw 5 5 8 ∷ []
  picked = refl

  -- numbers in instructions

  abbrev n : ℕ → TermTree
  n value = number value Uint32

  increment : code with_numbers (binary place Add W32 a (n 1)) ≡ instr.Immediate Addi 5 13 1 ∷ []
  increment = refl

  increment_swapped : code with_numbers (binary place Add W32 (n 1) a) ≡ instr.Immediate Addi 5 13 1 ∷ []
  increment_swapped = refl

  decrement : code with_numbers (binary place Subtract W32 a (n 1)) ≡ instr.Immediate Addi 5 13 4095 ∷ []
  decrement = refl

  -- 0 less the top bit of a word, and less the bit below it
  sign : code with_numbers (prefix Negate W32 (binary place ShiftRight W32 a (n 31))) ≡ instr.Shift Srai 5 13 31 ∷ []
  sign = refl

  no_sign : code with_numbers (prefix Negate W32 (binary place ShiftRight W32 a (n 30)))
      ≡ instr.Shift Srli 5 13 30 ∷ instr.Register register.Sub 5 0 5 ∷ []
  no_sign = refl

  sign_plain : code both_home (prefix Negate W32 (binary place ShiftRight W32 a b))
      ≡ instr.Register register.Srl 5 13 14 ∷ instr.Register register.Sub 5 0 5 ∷ []
  sign_plain = refl

  -- a complement has all ones in its instruction, which plain code has not
  changed : code with_numbers (prefix Complement W32 a) ≡ instr.Immediate Xori 5 13 4095 ∷ []
  changed = refl

  changed_narrow : code with_numbers (prefix Complement W8 a) ≡ instr.Immediate Xori 5 13 4095
      ∷ instr.Immediate Andi 5 5 255 ∷ []
  changed_narrow = refl

  changed_plain : code both_home (prefix Complement W32 a) ≡ instr.Register register.Sub 5 0 13
      ∷ instr.Immediate Addi 5 5 4095 ∷ []
  changed_plain = refl

  -- 2048 is too large, but can be taken away
  too_large : code with_numbers (binary place Add W32 a (n 2048)) ≡ instr.Upper Lui 6 1
      ∷ instr.Immediate Addi 6 6 2048 ∷ instr.Register register.Add 5 13 6 ∷ []
  too_large = refl

  least : code with_numbers (binary place Subtract W32 a (n 2048)) ≡ instr.Immediate Addi 5 13 2048 ∷ []
  least = refl

  -- an amount at the width is none, as it is in a register
  shifted : code with_numbers (binary place ShiftLeft W32 a (n 32)) ≡ instr.Shift Slli 5 13 0 ∷ []
  shifted = refl

  zero_tested : code with_numbers (binary place Unequal W32 a (n 0)) ≡ instr.Register register.Sltu 5 0 13 ∷ []
  zero_tested = refl

  at_least : code with_numbers (binary place LessOrEqual W32 (n 7) a) ≡ instr.Immediate Sltiu 5 13 7
      ∷ instr.Immediate Sltiu 5 5 1 ∷ []
  at_least = refl

  -- the low 13 bits, and the low 31
  low_bits : code with_numbers (binary place BitAnd W32 a (n 8191)) ≡ instr.Shift Slli 5 13 19
      ∷ instr.Shift Srli 5 5 19 ∷ []
  unfolding count_leading_zeros
  low_bits = refl

  low_bits_swapped : code with_numbers (binary place BitAnd W32 (n 2147483647) a) ≡ instr.Shift Slli 5 13 1
      ∷ instr.Shift Srli 5 5 1 ∷ []
  unfolding count_leading_zeros
  low_bits_swapped = refl

  -- other bits than the low ones are in a register
  high_bits : code with_numbers (binary place BitAnd W32 a (n 8190)) ≡ instr.Upper Lui 6 2
      ∷ instr.Immediate Addi 6 6 4094 ∷ instr.Register register.And 5 13 6 ∷ []
  unfolding count_leading_zeros
  high_bits = refl

  -- bools are 0 or 1, so both are true where their AND is 1
  bits_taken : code with_numbers (binary place LogicalAnd W32 a b) ≡ instr.Register register.And 5 13 14 ∷ []
  bits_taken = refl

  -- a product shows its factors, which stay in registers
  product : code with_numbers (binary place Multiply W32 a (n 5)) ≡ instr.Immediate Addi 6 0 5
      ∷ instr.Multiply Mul 5 13 6 ∷ []
  product = refl

  picked_at : code with_numbers (element place 2 4 (n 3)) ≡ instr.Load Lw 5 2 20 ∷ []
  picked_at = refl

  -- four bytes that follow each other are a word where they lie on an even offset, in either order

  abbrev byte : ℕ → ℕ → TermTree
  byte i amount = binary place ShiftLeft W32 (convert Uint32 (element place 3 8 (n i))) (n amount)

  abbrev joined : TermTree → TermTree → TermTree
  joined left right = binary place BitOr W32 left right

  low_first : code with_numbers (joined (joined (joined (convert Uint32 (element place 3 8 (n 4))) (byte 5 8)) (byte 6 16))
      (byte 7 24)) ≡ instr.Load Lw 5 2 28 ∷ []
  low_first = refl

  high_first : code with_numbers (joined (byte 7 24) (joined (byte 6 16) (joined (byte 5 8) (byte 4 0))))
      ≡ instr.Load Lw 5 2 28 ∷ []
  high_first = refl

  -- and other bytes are joined in registers
  apart : code with_numbers (joined (byte 5 8) (byte 7 24)) ≡ instr.Load Lbu 5 2 29 ∷ instr.Shift Slli 5 5 8
      ∷ instr.Load Lbu 6 2 31 ∷ instr.Shift Slli 6 6 24 ∷ instr.Register register.Or 5 5 6 ∷ []
  apart = refl
