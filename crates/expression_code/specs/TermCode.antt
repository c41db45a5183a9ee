-- The instructions that are emitted for slots, numbers, operators and expressions.
use Rattle.std.specs.Prelude.{ℕ, ◌+◌, ◌-◌, ◌*◌, ◌/◌, ◌%◌, ◌^◌, ◌==◌, ◌<◌, ◌&&◌, Bool, true, false, List, []}
use Rattle.std.specs.Prelude.{◌∷◌, ◌++◌, Option, None, Some, is_some, if◌then◌else◌, unwrap_or}
use Rattle.expression_code.specs.Layout.{TermLayout, variable_offset, variable_location}
use Rattle.expression_code.specs.Allocation.{register_of, Allocation, home_of, temporary, working_register}
use Rattle.expression_code.specs.Allocation.{at_home, mirror_of}
use Rattle.expression_code.specs.declared.allocation.Mirror.{Mirror}
use Rattle.expression_code.specs.declared.emit.NearPlace.{NearPlace}
pub use Rattle.expression_code.specs.NearElements.{is_near, kind_at, near_offset, near_element}
use Rattle.expression_code.specs.FrameBytes.{joined_word}
use Rattle.expression_code.specs.NumberRows.{number_of, right_row, left_row, chooses_zero, is_sign}
use Rattle.expression_code.specs.declared.numbers.Finish.{Finish}
use Rattle.expression_code.specs.declared.numbers.Finish.TheVariants.{Alone, GivesZero, GivesMore, Narrowed}
use Rattle.expression_code.specs.declared.numbers.NumberRow.{NumberRow}
use Rattle.expression_code.specs.declared.numbers.NumberStep.{NumberStep}
use Rattle.expression_code.specs.declared.numbers.NumberStep.TheVariants.{WithImmediate, ByAmount, AboveZero}
use Rattle.expression_code.specs.declared.numbers.NumberStep.TheVariants.{KeepsLow}
use Rattle.expression_code.specs.declared.locations.Location.{Location}
use Rattle.expression_code.specs.declared.locations.Location.TheVariants.{InRegister, InSlot}
use Rattle.expression_code.specs.Registers.{zero_register, frame_register, address_register, first_spare}
use Rattle.expression_code.specs.Registers.{second_spare, third_spare}
use Rattle.expression_code.specs.Below.{Add, Addi, And, Andi, binary, BinaryOperator, bits, Boolean, convert, Divu}
use Rattle.expression_code.specs.Below.{element}
use Rattle.expression_code.specs.Below.{element_bytes, FlatVariable, Immediate, Instr, Kind, Lbu, Lhu, Load}
use Rattle.expression_code.specs.Below.{LoadOperation, Lui}
use Rattle.expression_code.specs.Below.{Lw, Mul, Mulhu, number, opposite_of, Or, prefix, Register, Remu, rotate, select}
use Rattle.expression_code.specs.Below.{Shift}
use Rattle.expression_code.specs.Below.{negated, Sll, Slli, Sltiu, Srai, Xori}
use Rattle.expression_code.specs.Below.{Sltu, Srl, Srli, Store, Sub, Sw, TermTree, truth, Uint16, Uint32, Uint8, Upper}
use Rattle.expression_code.specs.Below.{variable, W16, W32, W8, Width, width_of, Xor}
use Rattle.rv_code.specs.declared.instructions.Instr.TheVariants.{Multiply, Divide}
use Rattle.rv_code.specs.declared.operations.RegisterOperation.{RegisterOperation}
use Rattle.rv_code.specs.declared.operations.DivideOperation.{DivideOperation}
use Rattle.rv_code.specs.declared.operations.MultiplyOperation.{MultiplyOperation}
use Rattle.language.specs.declared.operators.BinaryOperator.TheVariants as operators
use Rattle.language.specs.declared.operators.PrefixOperator.{PrefixOperator}
use Rattle.language.specs.declared.operators.PrefixOperator.TheVariants as prefixes
use Rattle.word.specs.Operators.{word_of}

-- A number as an upper part, in units of 4096, and a lower part that is sign-extended.

abbrev pub upper_part : ℕ → ℕ
upper_part n = (n + 2048) / 4096 % 2 ^ 20

abbrev pub lower_part : ℕ → ℕ
lower_part n = n % 4096

-- a slot's word into a register
abbrev pub load_code : ℕ → ℕ → List Instr
load_code register offset =
    if is_near offset
    then Load Lw register frame_register offset ∷ []
    else Upper Lui register (upper_part offset) ∷ Register Add register register frame_register
    ∷ Load Lw register register (lower_part offset) ∷ []

-- a register into a slot
abbrev pub store_code : ℕ → ℕ → List Instr
store_code register offset =
    if is_near offset
    then Store Sw register frame_register offset ∷ []
    else Upper Lui address_register (upper_part offset)
    ∷ Register Add address_register address_register frame_register
    ∷ Store Sw register address_register (lower_part offset) ∷ []

-- a number into a register
abbrev pub constant_code : ℕ → ℕ → List Instr
constant_code register n =
    if is_near n
    then Immediate Addi register zero_register n ∷ []
    else Upper Lui register (upper_part n) ∷ Immediate Addi register register (lower_part n) ∷ []

-- a register into another
abbrev pub move_code : ℕ → ℕ → List Instr
move_code d r = if d == r then [] else Immediate Addi d r 0 ∷ []

-- a word into a register
abbrev pub copy_code : ℕ → Location → List Instr
copy_code d (InRegister r) = move_code d r
copy_code d (InSlot offset) = load_code d offset

-- a word that lies in a slot into a spare register
abbrev pub fetch_code : Location → ℕ → List Instr
fetch_code (InRegister r) spare = []
fetch_code (InSlot offset) spare = load_code spare offset

-- what is in the register of a location whose spare one is the first, kept there
abbrev pub keep_code : Location → List Instr
keep_code (InRegister r) = []
keep_code (InSlot offset) = store_code first_spare offset

-- Operators, on the register r of one operand, or on l and r of two, into a register d. These may be any registers,
-- and no other is written but one that the operator is given for that.

-- cut to a width, where a narrow one is into d
abbrev pub narrow_code : ℕ → ℕ → Width → List Instr
narrow_code d r W8 = Immediate Andi d r 255 ∷ []
narrow_code d r W16 = Shift Slli d r 16 ∷ Shift Srli d d 16 ∷ []
narrow_code d r W32 = []

-- the register that the cut is in then
abbrev pub narrowed_in : ℕ → ℕ → Width → ℕ
narrowed_in d r W8 = d
narrowed_in d r W16 = d
narrowed_in d r W32 = r

-- a register cut to a width, in its place
abbrev pub cut_code : ℕ → Width → List Instr
cut_code r w = narrow_code r r w

-- cut to a width
abbrev pub convert_code : ℕ → ℕ → Width → List Instr
convert_code d r w = narrow_code d r w ++ move_code d (narrowed_in d r w)

-- 1 where it is 0, and else 0
abbrev pub is_zero_code : ℕ → ℕ → List Instr
is_zero_code d r = Immediate Sltiu d r 1 ∷ []

-- 0 where a register is 0, and else 1, in its place
abbrev pub is_not_zero_code : ℕ → List Instr
is_not_zero_code r = Register Sltu r zero_register r ∷ []

-- 0 where the right operand is 0, and else 1, into t; and so of the left one into d
abbrev pub both_truths_code : ℕ → ℕ → ℕ → ℕ → List Instr
both_truths_code d t l r = Register Sltu t zero_register r ∷ Register Sltu d zero_register l ∷ []

-- 0 less it
abbrev pub negation_code : ℕ → ℕ → List Instr
negation_code d r = Register Sub d zero_register r ∷ []

-- Each operator between two operands is a row: a step between them, and what is made of its outcome.

-- into d: of both, of both swapped, of what they are as truths, half of their product, or their quotient or
-- remainder
pub data RowStep : Type 0 where
  between : (operation : RegisterOperation) → RowStep
  swapped : (operation : RegisterOperation) → RowStep
  of_truths : (operation : RegisterOperation) → RowStep
  product : (operation : MultiplyOperation) → RowStep
  division : (operation : DivideOperation) → RowStep

abbrev pub step_code : ℕ → ℕ → ℕ → ℕ → RowStep → List Instr
step_code d t l r (between operation) = Register operation d l r ∷ []
step_code d t l r (swapped operation) = Register operation d r l ∷ []
step_code d t l r (of_truths operation) = both_truths_code d t l r ++ Register operation d d t ∷ []
step_code d t l r (product operation) = Multiply operation d l r ∷ []
step_code d t l r (division operation) = Divide operation d l r ∷ []

-- nothing, whether it is 0, whether it is not, or its cut
abbrev pub finish_code : ℕ → Width → Finish → List Instr
finish_code d w Alone = []
finish_code d w GivesZero = is_zero_code d d
finish_code d w GivesMore = is_not_zero_code d
finish_code d w Narrowed = cut_code d w

pub record OperatorRow : Type 0 where
  pub finish : Finish
  pub step : RowStep

-- Whether numbers are equal is read off their difference, and an order that takes equal numbers too is the other
-- order, swapped.
abbrev pub row_of : BinaryOperator → OperatorRow
row_of operators.LogicalOr = record { finish = Alone; step = of_truths Or }
row_of operators.LogicalAnd = record { finish = Alone; step = of_truths And }
row_of operators.Equal = record { finish = GivesZero; step = between Sub }
row_of operators.Unequal = record { finish = GivesMore; step = between Sub }
row_of operators.Less = record { finish = Alone; step = between Sltu }
row_of operators.LessOrEqual = record { finish = GivesZero; step = swapped Sltu }
row_of operators.Greater = record { finish = Alone; step = swapped Sltu }
row_of operators.GreaterOrEqual = record { finish = GivesZero; step = between Sltu }
row_of operators.BitOr = record { finish = Alone; step = between Or }
row_of operators.BitXor = record { finish = Alone; step = between Xor }
row_of operators.BitAnd = record { finish = Alone; step = between And }
row_of operators.ShiftLeft = record { finish = Narrowed; step = between Sll }
row_of operators.ShiftRight = record { finish = Narrowed; step = between Srl }
row_of operators.Add = record { finish = Narrowed; step = between Add }
row_of operators.Subtract = record { finish = Narrowed; step = between Sub }
row_of operators.Multiply = record { finish = Narrowed; step = product Mul }
row_of operators.Divide = record { finish = Alone; step = division Divu }
row_of operators.Remainder = record { finish = Alone; step = division Remu }
row_of operators.HighProduct = record { finish = Alone; step = product Mulhu }

-- an operator between two operands, where t may be written as well
abbrev pub operator_code : ℕ → ℕ → ℕ → ℕ → BinaryOperator → Width → List Instr
operator_code d t l r operator w = step_code d t l r (row_of operator).step
    ++ finish_code d w (row_of operator).finish

-- of words that are 0 or 1 the operator of their bits that makes the same
abbrev pub of_bits : BinaryOperator → BinaryOperator
of_bits operators.LogicalOr = operators.BitOr
of_bits operators.LogicalAnd = operators.BitAnd
of_bits operator = operator

-- the operator whose code is emitted: bools are 0 or 1, so better code takes their bits as they are
abbrev pub emitted_operator : Allocation → BinaryOperator → BinaryOperator
emitted_operator allocation operator = if allocation.immediates then of_bits operator else operator

-- what the code of an operator between two expressions ends with
abbrev pub finish_by : Option NumberRow → Finish → Finish
finish_by None finish = finish
finish_by (Some row) finish = row.finish

abbrev pub finish_of : Allocation → BinaryOperator → TermTree → TermTree → Finish
finish_of allocation operator left right =
    finish_by (right_row allocation operator right)
    (finish_by (left_row allocation operator left) (row_of operator).finish)

-- the opposite of a comparison that ends with whether something is 0
abbrev pub opposite_by : Finish → BinaryOperator → Option BinaryOperator
opposite_by GivesZero operator = opposite_of operator
opposite_by finish operator = None

-- the comparison that better code makes a condition's mask of, where that is its opposite
abbrev pub opposite_in : Allocation → TermTree → Option BinaryOperator
opposite_in allocation (binary source operator width left right) =
    if allocation.immediates then opposite_by (finish_of allocation operator left right) operator else None
opposite_in allocation e = None

-- Each operator between an operand and a number in the instruction is a row as well.

abbrev pub number_step_code : ℕ → ℕ → NumberStep → List Instr
number_step_code d r (WithImmediate operation field) = Immediate operation d r field ∷ []
number_step_code d r (ByAmount operation amount) = Shift operation d r amount ∷ []
number_step_code d r AboveZero = Register Sltu d zero_register r ∷ []
number_step_code d r (KeepsLow others) = Shift Slli d r others ∷ Shift Srli d d others ∷ []

abbrev pub number_code : ℕ → ℕ → Width → NumberRow → List Instr
number_code d r w row = number_step_code d r row.step ++ finish_code d w row.finish

-- each of its bits changed: by all ones in the instruction, where numbers go there, and else it is one less than the
-- number's negative
abbrev pub complement_code : Bool → ℕ → ℕ → List Instr
complement_code true d r = Immediate Xori d r 4095 ∷ []
complement_code false d r = negation_code d r ++ Immediate Addi d d 4095 ∷ []

-- an operator before an operand, where numbers go into instructions or not
abbrev pub prefix_code : Bool → ℕ → ℕ → PrefixOperator → Width → List Instr
prefix_code immediates d r prefixes.Not w = is_zero_code d r
prefix_code immediates d r prefixes.Complement w = complement_code immediates d r ++ cut_code d w
prefix_code immediates d r prefixes.Negate w = negation_code d r ++ cut_code d w

-- the top bit of a word in the place of each, which is 0 less that bit: what a shift that keeps the sign leaves
abbrev pub sign_code : ℕ → ℕ → List Instr
sign_code d r = Shift Srai d r 31 ∷ []

-- its bits moved up by an amount below the width, and those that go past its end back in at the bottom
abbrev pub around_code : ℕ → ℕ → Width → ℕ → List Instr
around_code d r w amount =
    if amount == 0 then move_code d r else
    Shift Slli second_spare r amount ∷ Shift Srli d r (bits w - amount) ∷ Register Add d second_spare d ∷ cut_code d w

abbrev pub rotate_code : ℕ → ℕ → Width → ℕ → List Instr
rotate_code d r w amount = narrow_code d r w ++ around_code d (narrowed_in d r w) w (amount % bits w)

-- the mask of a condition: all ones where it is true, and else 0. It is 0 less the condition, which is 1 or 0, and 1
-- less than its opposite, where that is in c.
abbrev pub mask_code : Bool → ℕ → ℕ → List Instr
mask_code true m c = Immediate Addi m c 4095 ∷ []
mask_code false m c = negation_code m c

-- of three operands, the second where the first is true and the third where it is not; m gets the mask, and t what
-- differs
abbrev pub choice_code : Bool → ℕ → ℕ → ℕ → ℕ → ℕ → ℕ → List Instr
choice_code is_opposite d m t c l r =
    mask_code is_opposite m c ++ Register Xor t l r ∷ Register And t t m ∷ Register Xor d r t ∷ []

-- of two operands, the second where the first is true, and else 0; m gets the mask
abbrev pub choice_or_zero_code : Bool → ℕ → ℕ → ℕ → ℕ → List Instr
choice_or_zero_code is_opposite d m c l = mask_code is_opposite m c ++ Register And d l m ∷ []

-- Elements of arrays. An index in a register becomes the address of its element but for the lower part of the array's
-- offset, which the access adds.

-- an index times the bytes of an element, on the frame's base
abbrev pub scale_code : ℕ → ℕ → Kind → List Instr
scale_code d r Boolean = Register Add d r frame_register ∷ []
scale_code d r Uint8 = Register Add d r frame_register ∷ []
scale_code d r Uint16 = Shift Slli d r 1 ∷ Register Add d d frame_register ∷ []
scale_code d r Uint32 = Shift Slli d r 2 ∷ Register Add d d frame_register ∷ []

-- the upper part of an offset added to a register, where it has one
abbrev pub raise_code : ℕ → ℕ → List Instr
raise_code register offset =
    if is_near offset then [] else
    Upper Lui address_register (upper_part offset) ∷ Register Add register register address_register ∷ []

-- an index in a register into its element's address
abbrev pub address_code : ℕ → ℕ → Kind → ℕ → List Instr
address_code d r kind offset = scale_code d r kind ++ raise_code d offset

-- an element's load is as wide as the element
abbrev pub load_by : Kind → LoadOperation
load_by Boolean = Lbu
load_by Uint8 = Lbu
load_by Uint16 = Lhu
load_by Uint32 = Lw

-- the element at the index in a register, of an array of this kind at an offset
abbrev pub element_code : ℕ → ℕ → Kind → ℕ → List Instr
element_code d r kind offset = address_code d r kind offset ++ Load (load_by kind) d d (lower_part offset) ∷ []

-- the number that an operator adds to its left operand, modulo 2^32
abbrev pub added : BinaryOperator → Option ℕ → Option ℕ
added operators.Add (Some n) = Some n
added operators.Subtract (Some n) = Some (negated W32 n)
added operator n = None

-- an offset with so many elements on top, modulo 2^32, where an access holds that
abbrev pub near_sum : ℕ → Kind → Option ℕ → Option ℕ
near_sum base kind None = None
near_sum base kind (Some n) =
    let offset = (base + element_bytes kind * n) % 2 ^ 32 in
    if is_near offset then Some offset else None

-- the offset that an access at an index e + n or e - n adds where only e is computed, of the operator and its right
-- operand, where numbers go into instructions. Addresses are modulo 2^32, so e alone may be any word.
abbrev pub sum_offset : List FlatVariable → Allocation → ℕ → BinaryOperator → TermTree → Option ℕ
sum_offset declared allocation x operator right =
    if allocation.immediates
    then near_sum (variable_offset declared x) (kind_at declared x) (added operator (number_of right)) else None

-- the part of an index that is computed, and the offset that the access adds then
abbrev pub computed_index : List FlatVariable → Allocation → ℕ → TermTree → TermTree
computed_index declared allocation x (binary source operator width left right) =
    if is_some (sum_offset declared allocation x operator right) then left else binary source operator width left right
computed_index declared allocation x index = index

abbrev pub access_offset : List FlatVariable → Allocation → ℕ → TermTree → ℕ
access_offset declared allocation x (binary source operator width left right) =
    unwrap_or (sum_offset declared allocation x operator right) (variable_offset declared x)
access_offset declared allocation x index = variable_offset declared x

-- A mirror of the part that is computed has all of an address but the offset that the access adds.

-- what a mirror makes of an offset for an array of a kind, where that is the mirror's width and the access holds the
-- offset
abbrev pub mirrored_at : Kind → ℕ → Option Mirror → Option NearPlace
mirrored_at kind offset None = None
mirrored_at kind offset (Some mirror) =
    if element_bytes mirror.kind == element_bytes kind && is_near offset
    then Some (record { base = mirror.register; offset = offset }) else None

-- of an index of which this part is computed
abbrev pub mirrored_place : Allocation → Kind → ℕ → TermTree → Option NearPlace
mirrored_place allocation kind offset (variable y) = mirrored_at kind offset (mirror_of allocation y)
mirrored_place allocation kind offset part = None

abbrev pub in_frame : ℕ → NearPlace
in_frame offset = record { base = frame_register; offset = offset }

-- the frame's base for an index that is known, and else a mirror
abbrev pub near_or : Option ℕ → Option NearPlace → Option NearPlace
near_or (Some offset) mirrored = Some (in_frame offset)
near_or None mirrored = mirrored

abbrev pub near_place : List FlatVariable → Allocation → ℕ → TermTree → Option NearPlace
near_place declared allocation x index =
    near_or (near_element declared allocation x index)
    (mirrored_place allocation (kind_at declared x) (access_offset declared allocation x index)
    (computed_index declared allocation x index))

-- the element at such a place
abbrev pub near_code : ℕ → Kind → NearPlace → List Instr
near_code d kind place = Load (load_by kind) d place.base place.offset ∷ []

-- what a mirror gets of the word that it follows: its value times the bytes of an element, on the frame's base
abbrev pub mirror_by : Option ℕ → Option Mirror → List Instr
mirror_by (Some home) (Some mirror) = scale_code mirror.register home mirror.kind
mirror_by home mirror = []

abbrev pub mirror_code : Allocation → ℕ → List Instr
mirror_code allocation x = mirror_by (home_of allocation.homes x) (mirror_of allocation x)

-- Expressions.

-- the code for what there is, and else other code
abbrev pub code_by : {T : Type 0} → Option T → (T → List Instr) → List Instr → List Instr
code_by None code otherwise = otherwise
code_by (Some x) code otherwise = code x

-- whether a kind is that of whole words
abbrev pub is_word : Kind → Bool
is_word Uint32 = true
is_word kind = false

-- whether a conversion to a kind leaves each value as it is, so that better code has none for it
abbrev pub keeps_words : Allocation → Kind → Bool
keeps_words allocation kind = allocation.immediates && is_word kind

-- the home of an expression: that of a variable, also where a conversion keeps its value
abbrev pub home_of_term : Allocation → TermTree → Option ℕ
home_of_term allocation (variable x) = home_of allocation.homes x
home_of_term allocation (convert kind e) = if keeps_words allocation kind then home_of_term allocation e else None
home_of_term allocation e = None

-- whether an expression has a home: no code is needed for its value
abbrev pub is_at_home : Allocation → TermTree → Bool
is_at_home allocation e = is_some (home_of_term allocation e)

-- where its value is behind its code: in that home, and else in its place
abbrev pub operand : TermLayout → ℕ → TermTree → Location
operand layout place e =
    at_home (home_of_term layout.allocation e) (temporary layout.allocation.count layout.free place)

-- In a layout of expressions.
module _ (layout : TermLayout) where
  -- the registers that the value of a place is computed in, and that of the next one
  abbrev pub own_register : ℕ → ℕ
  own_register place = working_register layout.allocation.count place first_spare

  abbrev pub next_register : ℕ → ℕ
  next_register place = working_register layout.allocation.count (place + 1) second_spare

  -- the register that an operand is in, or a spare one
  abbrev pub operand_register : ℕ → TermTree → ℕ → ℕ
  operand_register place e spare = register_of (operand layout place e) spare

  -- an operand into a spare register, where it lies in a slot
  abbrev pub fetch_operand : ℕ → TermTree → ℕ → List Instr
  fetch_operand place e spare = fetch_code (operand layout place e) spare

  -- code that brings an expression into the register of a place, with which it comes there, unless it is at home
  abbrev pub placed_code : ℕ → TermTree → List Instr → List Instr
  placed_code place e into =
      if is_at_home layout.allocation e then []
      else into ++ keep_code (temporary layout.allocation.count layout.free place)

  -- an operator before an operand in its place, to which this code brings it
  abbrev pub before_code : ℕ → ℕ → PrefixOperator → Width → TermTree → List Instr → List Instr
  before_code d place operator width e into =
      placed_code place e into ++ fetch_operand place e first_spare
      ++ prefix_code layout.allocation.immediates d (operand_register place e first_spare) operator width

  -- the element at an index in its place, to which this code brings it, of an array at an offset
  abbrev pub indexed_code : ℕ → ℕ → ℕ → TermTree → List Instr → ℕ → List Instr
  indexed_code d place x index into offset =
      placed_code place index into ++ fetch_operand place index first_spare
      ++ element_code d (operand_register place index first_spare) (kind_at layout.declared x) offset

  -- An expression into a register, with its operands in the places from this one on. None is fetched before the code
  -- of all of them is through. Where the instruction holds an operand that is a number, the other one is the only
  -- operand, and a choice between a value and 0 has two. Another operator, where one is given, stands for the
  -- expression's own.
  abbrev mutual
    pub into_by : Option BinaryOperator → ℕ → ℕ → TermTree → List Instr
    into_by other d place (number value kind) = constant_code d value
    into_by other d place (truth value) = constant_code d (word_of value)
    into_by other d place (variable x) = copy_code d (variable_location layout.declared layout.allocation x)
    into_by other d place (prefix operator width e) =
        prefixed_code d place operator width e (into_by None (own_register place) place e)
    into_by other d place (binary source own width left right) =
        let operator = unwrap_or other own in
        code_by (joined_word layout.declared layout.allocation operator width left right) (λ offset. load_code d offset)
        (code_by (right_row layout.allocation operator right)
        (λ row.
        placed_code place left (into_by None (own_register place) place left) ++ fetch_operand place left first_spare
        ++ number_code d (operand_register place left first_spare) width row)
        (code_by (left_row layout.allocation operator left)
        (λ row.
        placed_code place right (into_by None (own_register place) place right) ++ fetch_operand place right first_spare
        ++ number_code d (operand_register place right first_spare) width row)
        (placed_code place left (into_by None (own_register place) place left)
        ++ placed_code (place + 1) right (into_by None (own_register (place + 1)) (place + 1) right)
        ++ fetch_operand place left first_spare ++ fetch_operand (place + 1) right second_spare
        ++ operator_code d (next_register place)
        (operand_register place left first_spare) (operand_register (place + 1) right second_spare)
        (emitted_operator layout.allocation operator) width)))
    into_by other d place (rotate width e amount) =
        placed_code place e (into_by None (own_register place) place e) ++ fetch_operand place e first_spare
        ++ rotate_code d (operand_register place e first_spare) width amount
    into_by other d place (convert kind e) =
        if keeps_words layout.allocation kind then into_by None d place e else
        placed_code place e (into_by None (own_register place) place e) ++ fetch_operand place e first_spare
        ++ convert_code d (operand_register place e first_spare) (width_of kind)
    into_by other d place (select condition accepted otherwise) =
        let opposite = opposite_in layout.allocation condition in
        if chooses_zero layout.allocation otherwise
        then placed_code place condition (into_by opposite (own_register place) place condition)
        ++ placed_code (place + 1) accepted (into_by None (own_register (place + 1)) (place + 1) accepted)
        ++ fetch_operand place condition first_spare ++ fetch_operand (place + 1) accepted second_spare
        ++ choice_or_zero_code (is_some opposite) d (own_register place) (operand_register place condition first_spare)
        (operand_register (place + 1) accepted second_spare)
        else placed_code place condition (into_by opposite (own_register place) place condition)
        ++ placed_code (place + 1) accepted (into_by None (own_register (place + 1)) (place + 1) accepted)
        ++ placed_code (place + 2) otherwise (into_by None (own_register (place + 2)) (place + 2) otherwise)
        ++ fetch_operand place condition first_spare ++ fetch_operand (place + 1) accepted second_spare
        ++ fetch_operand (place + 2) otherwise third_spare
        ++ choice_code (is_some opposite) d (own_register place) (next_register place)
        (operand_register place condition first_spare) (operand_register (place + 1) accepted second_spare)
        (operand_register (place + 2) otherwise third_spare)
    into_by other d place (element source x size index) =
        code_by (near_place layout.declared layout.allocation x index) (near_code d (kind_at layout.declared x))
        (reached_code d place x index (into_by None (own_register place) place index))

    -- an operator before an operand whose own code this is; of 0 less the top bit of a word only the word is computed
    pub prefixed_code : ℕ → ℕ → PrefixOperator → Width → TermTree → List Instr → List Instr
    prefixed_code d place operator width (binary source own narrow left right) into =
        if is_sign layout.allocation operator width own right
        then placed_code place left (into_by None (own_register place) place left)
        ++ fetch_operand place left first_spare ++ sign_code d (operand_register place left first_spare)
        else before_code d place operator width (binary source own narrow left right) into
    prefixed_code d place operator width e into = before_code d place operator width e into

    -- the element at an index that is not near, whose own code this is; of a sum with a number that the access holds
    -- only the left operand is computed
    pub reached_code : ℕ → ℕ → ℕ → TermTree → List Instr → List Instr
    reached_code d place x (binary source operator width left right) into =
        code_by (sum_offset layout.declared layout.allocation x operator right)
        (indexed_code d place x left (into_by None (own_register place) place left))
        (indexed_code d place x (binary source operator width left right) into (variable_offset layout.declared x))
    reached_code d place x index into = indexed_code d place x index into (variable_offset layout.declared x)

  -- an expression into a register
  abbrev pub into_code : ℕ → ℕ → TermTree → List Instr
  into_code d place e = into_by None d place e

  -- an expression into a place, unless it is at home
  abbrev pub expr_code : ℕ → TermTree → List Instr
  expr_code place e = placed_code place e (into_code (own_register place) place e)

-- the variables that an expression names are among the first so many
abbrev pub IsAmong : ℕ → TermTree → Type 0
IsAmong count (number value kind) = Unit {0}
IsAmong count (truth value) = Unit {0}
IsAmong count (variable x) = x < count
IsAmong count (prefix operator width operand) = IsAmong count operand
IsAmong count (binary place operator width left right) = IsAmong count left × IsAmong count right
IsAmong count (rotate width operand amount) = IsAmong count operand
IsAmong count (convert kind operand) = IsAmong count operand
IsAmong count (select condition accepted otherwise) = IsAmong count condition × IsAmong count accepted
    × IsAmong count otherwise
IsAmong count (element place x size index) = (x < count) × IsAmong count index
